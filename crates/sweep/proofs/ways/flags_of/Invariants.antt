use Rattle.std.proofs.Common.{◌≡◌, ℕ, ◌<◌, false, get_or}
use Rattle.sweep.specs.Trial.{flag_in}
use Rattle.sweep.proofs.ways.flags_of.Given as goal

abbrev pub invariant-loop-tick : goal.invariant-loop-tick
invariant-loop-tick l = (k : ℕ) → k < l.tick → get_or l.flag-items k false ≡ flag_in l.way k
