use Rattle.std.proofs.Common.{arith}
use Rattle.timing.specs.Frame.{frame_ticks}
use Rattle.timing.proofs.Goods.{small}
use Rattle.timing.proofs.plans.Plan.frame_ticks.Goals as goal

pub overflow_mul-result : goal.overflow_mul-result
overflow_mul-result c = rw c.line_ticks.ensures.value (omega (arith, (small _ c.args.self.now.ok).lines_most))

pub overflow_add-result : goal.overflow_add-result
unfolding frame_ticks
overflow_add-result c = rw c.line_ticks.ensures.value (omega (arith, (small _ c.args.self.now.ok).frame_most))

pub returns : goal.returns
unfolding frame_ticks
returns c = rw c.line_ticks.ensures.value
