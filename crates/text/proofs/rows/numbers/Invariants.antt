-- The words so far are numerals of the numbers so far.
use Rattle.std.proofs.Common.{map, vec_items}
use Rattle.std.specs.List.{AllZip}
use Rattle.text.specs.Rows.{Numeral, capped}
use Rattle.text.proofs.rows.numbers.Given as goal

abbrev pub invariant-loop-word : goal.invariant-loop-word
invariant-loop-word l = AllZip (Numeral capped) (map (λ w. w.now) l.yielded) (vec_items l.row)
