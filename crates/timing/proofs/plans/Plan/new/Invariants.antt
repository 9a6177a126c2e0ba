use Rattle.std.proofs.Common.{ℕ, ◌<◌}
use Rattle.timing.specs.Row.{InRange}
use Rattle.timing.proofs.plans.Plan.new.Given as goal

abbrev pub invariant-loop-place : goal.invariant-loop-place
invariant-loop-place l = (k : ℕ) → k < l.place → InRange l.row k
