-- What has been written is the text of the items so far.
use Rattle.std.proofs.Common.{take}
use Rattle.std.specs.Fmt.{IsPlainFormatter, HasWritten}
use Rattle.text.specs.Rows.{row_text_by}
use Rattle.text.proofs.writing.RowDisplay.fmt.Given as goal

abbrev pub invariant-loop-item : goal.invariant-loop-item
invariant-loop-item g l = IsPlainFormatter l.initial.f → HasWritten g.W.Write.write_str_gives l.initial.f (row_text_by g.T.AsNumber.number (take l.item-index l.item-items)) l.f
