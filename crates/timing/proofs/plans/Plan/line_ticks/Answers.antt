use Rattle.std.proofs.Common.{refl, arith}
use Rattle.timing.specs.Frame.{line_ticks}
use Rattle.timing.proofs.Goods.{small}
use Rattle.timing.proofs.plans.Plan.line_ticks.Goals as goal

pub overflow_add-result : goal.overflow_add-result
unfolding line_ticks
overflow_add-result c = omega (arith, (small _ c.args.self.now.ok).line_most)

pub returns : goal.returns
unfolding line_ticks
returns c = record { value = refl; some = omega (arith, (small _ c.args.self.now.ok).line_some) }
