-- The number of each refusal of a tick, 2 the state, 4 what is brought, 5 late, and its place.
use Rattle.std.specs.Prelude.{ℕ, Some, None, Option}
use Rattle.feeder.specs.declared.refusals.StepRefusal.{StepRefusal}
use Rattle.feeder.specs.declared.refusals.StepRefusal.TheVariants.{FrameOver, NotPending, Late}

abbrev pub number_of : StepRefusal → ℕ
number_of FrameOver = 2
number_of NotPending = 4
number_of (Late tick) = 5

-- how much is brought without being awaited, the place of the second, only the layer with the dots knows
abbrev pub place_of : StepRefusal → Option ℕ
place_of FrameOver = Some 0
place_of NotPending = None
place_of (Late tick) = Some tick
