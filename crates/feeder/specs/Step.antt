-- What a step of the counts does. Assumes nothing: these are definitions.
use Rattle.std.specs.Prelude.{◌≡◌, ℕ, ◌+◌, ◌<◌, ◌≤◌, Bool, true, false, Ok, Err, Result}
use Rattle.timing.specs.Frame.{frame_ticks}
use Rattle.timing.specs.declared.numbers.Numbers.{Numbers}
use Rattle.feeder.specs.Model.{after_tick, answers, outcome}
use Rattle.feeder.specs.Panel.{demand_of}
use Rattle.feeder.specs.declared.counts.Counts.{Counts}
use Rattle.feeder.specs.declared.outcomes.Outcome.{Outcome}
use Rattle.feeder.specs.declared.refusals.StepRefusal.{StepRefusal}
use Rattle.feeder.specs.declared.refusals.StepRefusal.TheVariants.{FrameOver, NotPending, Late}

abbrev pub plan_in : Counts → Numbers
plan_in c = c.scan.plan.numbers

abbrev pub tick_in : Counts → ℕ
tick_in c = c.scan.at.tick

-- a tick of the frame in which the memory may do so: it brings what is pending, or the answer has still time
abbrev pub Allows : Counts → Bool → Type 0
Allows c brought = (tick_in c < frame_ticks (plan_in c)) × (answers (demand_of (plan_in c)) brought c.progress ≡ brought)

-- a tick of the frame, as the model has it
pub record Moved (from : Counts) (brought : Bool) (o : Outcome) (to : Counts) : Type 0 where
  pub allowed : Allows from brought
  pub plan : to.scan.plan ≡ from.scan.plan
  pub tick : tick_in to ≡ tick_in from + 1
  pub progress : to.progress ≡ after_tick (demand_of (plan_in from)) brought (tick_in from) from.progress
  pub outcome_is : o ≡ outcome (demand_of (plan_in from)) brought (tick_in from) from.progress

-- why a tick is refused, the first that applies: the frame is over; an answer is brought that is not pending; none is brought and it must be
abbrev pub Refused : Counts → Bool → StepRefusal → Type 0
Refused c brought FrameOver = frame_ticks (plan_in c) ≤ tick_in c
Refused c brought NotPending = (tick_in c < frame_ticks (plan_in c)) × (brought ≡ true) × (c.progress.pending ≡ false)
Refused c brought (Late tick) =
    (tick_in c < frame_ticks (plan_in c)) × (brought ≡ false) × (c.progress.pending ≡ true) × ((plan_in c).latency ≤ c.progress.waited + 1) × (tick ≡ tick_in c)

abbrev pub Steps : Counts → Bool → Result Outcome StepRefusal → Counts → Type 0
Steps from brought (Ok o) to = Moved from brought o to
Steps from brought (Err e) to = (to ≡ from) × Refused from brought e
