-- Plans worked out to the tick: one line with no blanking before it. Assumes nothing: these are definitions.
use Rattle.std.specs.Prelude.{◌≡◌, ℕ, true, false, List, [], ◌∷◌, Some}
use Rattle.timing.specs.declared.numbers.Numbers.{Numbers}
use Rattle.feeder.specs.Feed.{FirstUnderrun, Soonest}
use Rattle.feeder.specs.Model.{latest}
use Rattle.feeder.specs.Panel.{in_time}
use Rattle.deadline.specs.Rule.{AlwaysFed}

abbrev pub line_of : ℕ → ℕ → ℕ → ℕ → ℕ → Numbers
line_of width burst capacity vblank latency = record { width = width; height = 1; hblank = 0; vblank = vblank; capacity = capacity; burst = burst; latency = latency }

-- in time, and no dot is missing by any way of answering
abbrev pub Works : Numbers → Type 0
Works p = (in_time p ≡ true) × AlwaysFed p

-- not in time: the latest memory leaves a dot missing first in this tick, and no other sooner
pub record Fails (p : Numbers) (tick : ℕ) : Type 0 where
  pub late : in_time p ≡ false
  pub first : FirstUnderrun p latest (Some tick)
  pub soonest : Soonest p (Some tick)

-- a line of 4,000 dots by burst, capacity, vblank and latency; and one of eight, on which a plan that is not in time still has its dots
pub record Worked : Type 0 where
  pub threes : Works (line_of 4000 3 5 3 3)
  pub slow : Fails (line_of 4000 2 500 500 3) 1496
  pub cramped : Fails (line_of 4000 3 4 500 3) 503
  pub sudden : Fails (line_of 4000 3 500 2 3) 2
  pub fives : Works (line_of 4000 5 9 5 5)
  pub short : (in_time (line_of 8 1 5 9 2) ≡ false) × AlwaysFed (line_of 8 1 5 9 2)
  pub long : Fails (line_of 4000 1 5 9 2) 17

abbrev pub worked_numbers : List Numbers
worked_numbers =
    line_of 4000 3 5 3 3 ∷ line_of 4000 2 500 500 3 ∷ line_of 4000 3 4 500 3 ∷ line_of 4000 3 500 2 3 ∷ line_of 4000 5 9 5 5 ∷ line_of 8 1 5 9 2 ∷ line_of 4000 1 5 9 2 ∷ []
