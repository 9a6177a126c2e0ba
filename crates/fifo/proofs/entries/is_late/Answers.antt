use Rattle.std.proofs.Common.{arith}
use Rattle.std.proofs.lemmas.Bool.Decides.{nat_tests}
use Rattle.fifo.specs.Refusal.{must_bring}
use Rattle.fifo.proofs.entries.is_late.Goals as goal

pub returns-then-brought-ne0 : goal.returns-then-brought-ne0
unfolding must_bring
returns-then-brought-ne0 c = grind (arith, nat_tests)

pub returns : goal.returns
unfolding must_bring
returns c = grind (arith, nat_tests)
