-- What the rule says of a plan, and that it says no more than it must. Assumes nothing: these are definitions.
use Rattle.std.specs.Prelude.{◌≡◌, ℕ, ◌+◌, ◌*◌, ◌<◌, ◌≤◌, min, Bool, true, false, Decides}
use Rattle.timing.specs.Frame.{frame_ticks, frame_dots}
use Rattle.timing.specs.declared.numbers.Numbers.{Numbers}
use Rattle.feeder.specs.Model.{after, latest}
use Rattle.feeder.specs.Panel.{demand_of, in_time}

-- no dot of the frame is missing, by any way of answering
abbrev pub AlwaysFed : Numbers → Type 0
AlwaysFed p = (w : ℕ → Bool) → (after (demand_of p) w (frame_ticks p)).underrun ≡ false

-- a dot of the frame is missing by the memory that always takes as long as it may
abbrev pub RunsDry : Numbers → Type 0
RunsDry p = (after (demand_of p) latest (frame_ticks p)).underrun ≡ true

-- q is no harder to feed than p: its memory answers no later and brings at once no less, or as many dots as an answer of p takes ticks; no less room is left beside a burst; and its frame begins no sooner. Neither the size of the frame nor the blanking of its lines matters
pub record Eases (p q : Numbers) : Type 0 where
  pub latency : q.latency ≤ p.latency
  pub burst : min p.burst p.latency ≤ q.burst
  pub room : p.capacity + q.burst ≤ q.capacity + p.burst
  pub vblank : p.vblank ≤ q.vblank

-- what is easier than a plan in time is in time
abbrev pub Monotone : Numbers → Type 0
Monotone p = (q : Numbers) → Eases p q → in_time p ≡ true → in_time q ≡ true

-- By a plan in time no dot is ever missing. Where the lines have no blanking, a condition that is not met leaves a dot missing in any frame of so many dots; and in a frame of enough for all three the rule holds just where no dot can be missing
pub record Exact (p : Numbers) : Type 0 where
  pub fed : in_time p ≡ true → AlwaysFed p
  pub rate : p.hblank ≡ 0 → p.capacity * p.latency < frame_dots p → p.burst < p.latency → RunsDry p
  pub room : p.hblank ≡ 0 → p.capacity + p.burst ≤ frame_dots p → p.capacity + 1 < p.burst + p.latency → RunsDry p
  pub lead : p.hblank ≡ 0 → 0 < frame_dots p → p.vblank < p.latency → RunsDry p
  pub exact : p.hblank ≡ 0 → (p.capacity + p.burst) * p.latency ≤ frame_dots p → Decides (in_time p) (AlwaysFed p)
