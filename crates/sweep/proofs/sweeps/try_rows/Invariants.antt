use Rattle.std.proofs.Common.{◌≡◌, ◌*◌, ◌≤◌}
use Rattle.sweep.proofs.sweeps.try_rows.Given as goal

-- each trial adds less than 2 ^ 32
abbrev pub invariant-loop-index : goal.invariant-loop-index
invariant-loop-index g l = record {
  plans : l.all.plans ≤ l.index;
  timely : l.all.timely ≤ l.index;
  ways : l.all.ways ≤ 4294967295 * l.index;
  underruns : l.all.underruns ≤ 4294967295 * l.index;
  agreed : l.all.disagreements ≡ 0;
}
