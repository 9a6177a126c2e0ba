-- Each turn reads one more digit.
use Rattle.std.proofs.Common.{sym, subst}
use Rattle.text.specs.Rows.{IsNumeral}
use Rattle.text.proofs.Numerals.{no_digit, read_more}
use Rattle.text.proofs.rows.numeral.Goals as goal

pub returns-in_err-digit : goal.returns-in_err-digit
returns-in_err-digit c = subst (IsNumeral c.args.word.now) (sym c.from_residual.ensures) (no_digit c.args.word.now c.loop-b.b-index c.from.result c.loop-b-test.true c.from.ensures c.in_err-digit.ensures.value)

pub loop-b-preserved : goal.loop-b-preserved
loop-b-preserved c = read_more c.args.word.now c.loop-b.b-index c.from.result c.loop-b-test.true c.from.ensures c.loop-b.n c.in_ok-digit.digit _ c.in_ok-digit.ensures.value.0 c.in_ok-digit.ensures.value.1 c.loop-b.invariant (cc)
