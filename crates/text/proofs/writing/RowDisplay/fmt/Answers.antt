-- Each turn writes one number behind a space.
use Rattle.std.proofs.Common.{refl}
use Rattle.std.proofs.Output.{has_written_append, has_written_of_eq}
use Rattle.text.proofs.Printed.{row_text_more}
use Rattle.text.proofs.writing.RowDisplay.fmt.Goals as goal

pub loop-item-preserved : goal.loop-item-preserved
loop-item-preserved g c = λ plain.
    let before = c.loop-item.invariant plain in
    has_written_of_eq _ _ _ _ _ (row_text_more g.T.AsNumber.number _ _ _ _ c.loop-item-test.true c.item-item.is c.as_number.ensures)
    (has_written_append _ _ _ _ _ _ before (c.in_ok-write.ensures.writes before.plain refl))
