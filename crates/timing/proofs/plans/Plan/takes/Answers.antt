use Rattle.std.proofs.Common.{arith}
use Rattle.timing.specs.Frame.{takes}
use Rattle.timing.proofs.Ranges.{range_tests}
use Rattle.timing.proofs.plans.Plan.takes.Goals as goal

pub returns-then-contains : goal.returns-then-contains
unfolding takes
returns-then-contains c = rw c.line_ticks.ensures.value (grind (arith, range_tests))

pub returns-else-contains : goal.returns-else-contains
unfolding takes
returns-else-contains c = grind (arith, range_tests)
