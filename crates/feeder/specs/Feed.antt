-- What is promised of a feeder. Assumes nothing: these are definitions.
use Rattle.std.specs.Prelude.{◌≡◌, ℕ, suc, ◌+◌, ◌<◌, ◌≤◌, Bool, true, false, List, Some, None, Option, slice_index_or}
use Rattle.timing.specs.Frame.{frame_ticks, frame_dots, taken}
use Rattle.timing.specs.declared.numbers.Numbers.{Numbers}
use Rattle.feeder.specs.Model.{after, after_tick, after_answer, misses, outcome, latest}
use Rattle.feeder.specs.Panel.{demand_of}
use Rattle.feeder.specs.Step.{plan_in, tick_in}
use Rattle.feeder.specs.declared.counts.Counts.{Counts}
use Rattle.feeder.specs.declared.outcomes.Outcome.{Outcome}
use Rattle.feeder.specs.declared.outcomes.Outcome.TheVariants.{Dot, Dark, Missing}

-- no dot is missing
abbrev pub Fed : Outcome → Type 0
Fed (Dot n) = Unit {0}
Fed (Dark n) = Unit {0}
Fed (Missing n) = ⊥

-- never too full: no more is requested than there is room for beside the dots that are not taken, nor than the frame has, and no more has arrived
pub record Held (c : Counts) : Type 0 where
  pub room : c.progress.requested ≤ taken (plan_in c) (tick_in c) + (plan_in c).capacity
  pub total : c.progress.requested ≤ frame_dots (plan_in c)
  pub order : c.progress.arrived ≤ c.progress.requested

-- at the frame's end, if no dot was missing, all have arrived and nothing is pending
abbrev pub Whole : Counts → Type 0
Whole c = frame_ticks (plan_in c) ≤ tick_in c → c.progress.underrun ≡ false → (c.progress.arrived ≡ frame_dots (plan_in c)) × (c.progress.pending ≡ false)

-- the frame is over, and nothing changes
abbrev pub Over : Counts → Counts → Type 0
Over from to = (frame_ticks (plan_in from) ≤ tick_in from) × (to ≡ from)

-- a tick in which the memory is willing or not, and answers then or when it must
pub record Follows (from : Counts) (willing : Bool) (o : Outcome) (to : Counts) : Type 0 where
  pub inside : tick_in from < frame_ticks (plan_in from)
  pub plan : to.scan.plan ≡ from.scan.plan
  pub tick : tick_in to ≡ suc (tick_in from)
  pub progress : to.progress ≡ after_tick (demand_of (plan_in from)) willing (tick_in from) from.progress
  pub outcome_is : o ≡ outcome (demand_of (plan_in from)) willing (tick_in from) from.progress

-- the same, where all that is said of the outcome is whether a dot is missing
pub record Ran (from : Counts) (willing missing : Bool) (to : Counts) : Type 0 where
  pub plan : to.scan.plan ≡ from.scan.plan
  pub tick : tick_in to ≡ suc (tick_in from)
  pub progress : to.progress ≡ after_tick (demand_of (plan_in from)) willing (tick_in from) from.progress
  pub missing_is : missing ≡ misses (demand_of (plan_in from)) (tick_in from) (after_answer (demand_of (plan_in from)) willing from.progress)

-- the memory is willing in the ticks that a list of flags says, and in none past its end
abbrev pub willing_in : List Bool → ℕ → Bool
willing_in flags t = slice_index_or flags t false

-- the first tick of a frame in which a dot is missing, where w says in which ticks the memory is willing
abbrev pub FirstUnderrun : Numbers → (ℕ → Bool) → Option ℕ → Type 0
FirstUnderrun p w None = (after (demand_of p) w (frame_ticks p)).underrun ≡ false
FirstUnderrun p w (Some t) = (t < frame_ticks p) × ((after (demand_of p) w t).underrun ≡ false) × ((after (demand_of p) w (suc t)).underrun ≡ true)

-- the latest memory is the worst: in every tick no more has arrived than by any other way of answering, and a dot that is missing by some way is missing by this one
pub record Worst (p : Numbers) : Type 0 where
  pub fewest : (w : ℕ → Bool) (t : ℕ) → (after (demand_of p) latest t).arrived ≤ (after (demand_of p) w t).arrived
  pub missing : (w : ℕ → Bool) (t : ℕ) → misses (demand_of p) t (after_answer (demand_of p) (w t) (after (demand_of p) w t)) ≡ true → misses (demand_of p) t (after_answer (demand_of p) (latest t) (after (demand_of p) latest t)) ≡ true

-- so what it does bounds every other: none is missing by any, or none before its first
abbrev pub Soonest : Numbers → Option ℕ → Type 0
Soonest p None = (w : ℕ → Bool) → (after (demand_of p) w (frame_ticks p)).underrun ≡ false
Soonest p (Some t) = (w : ℕ → Bool) → (after (demand_of p) w t).underrun ≡ false
