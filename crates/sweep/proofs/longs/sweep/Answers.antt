use Rattle.std.proofs.Common.{ap, ◌∙◌, rules}
use Rattle.timing.specs.Row.{numbers_in}
use Rattle.sweep.proofs.Agree.{long_enough}
use Rattle.sweep.proofs.longs.sweep.Goals as goal

pub try_rows-requires-clause-agrees : goal.try_rows-requires-clause-agrees
try_rows-requires-clause-agrees c = λ index row plan trial fits is numbers tried.
    let exact = long_enough index plan.numbers (numbers ∙ ap numbers_in is) in search rules
