-- The digits so far are read.
use Rattle.std.proofs.Common.{take}
use Rattle.text.proofs.Numerals.{Read}
use Rattle.text.proofs.rows.numeral.Given as goal

abbrev pub invariant-loop-b : goal.invariant-loop-b
invariant-loop-b l = Read (take l.b-index l.word) l.n
