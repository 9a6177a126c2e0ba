use Rattle.std.proofs.Common.{◌≡◌, ◌≤◌}
use Rattle.sweep.proofs.trials.try_ways.Given as goal

abbrev pub invariant-loop-way : goal.invariant-loop-way
invariant-loop-way l = (l.underruns ≤ l.way) × (l.disagreements ≡ 0)
