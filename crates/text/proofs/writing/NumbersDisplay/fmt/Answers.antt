-- Flags are written as the numbers that they stand for.
use Rattle.std.proofs.Common.{sym, ap, ◌∙◌}
use Rattle.std.proofs.Output.{has_written_of_eq}
use Rattle.text.specs.Rows.{row_text, row_text_by}
use Rattle.text.specs.Said.{said, numbers, flag}
use Rattle.text.proofs.Printed.{row_text_map}
use Rattle.text.proofs.writing.NumbersDisplay.fmt.Goals as goal

pub returns-in-RunBy-clause-writes : goal.returns-in-RunBy-clause-writes
returns-in-RunBy-clause-writes g c = λ plain ok.
    has_written_of_eq _ _ _ _ _ (ap (row_text_by flag) c.deref.ensures.value ∙ row_text_map flag c.in-RunBy.willing.items ∙ ap (λ t. row_text (numbers (said t))) (sym c.in-RunBy.is)) (c.fmt.ensures.writes plain ok)
