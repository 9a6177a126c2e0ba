-- The words so far are those of the flags so far.
use Rattle.std.proofs.Common.{map, vec_items}
use Rattle.std.specs.List.{AllZip}
use Rattle.text.specs.Rows.{capped}
use Rattle.text.specs.Said.{flag}
use Rattle.text.proofs.Cuts.{Reads}
use Rattle.text.proofs.flags.flags.Given as goal

abbrev pub invariant-loop-word : goal.invariant-loop-word
invariant-loop-word l = AllZip (Reads flag capped) (map (λ w. w.now) l.yielded) (vec_items l.flags)
