use Rattle.std.proofs.Common.{refl, arith}
use Rattle.timing.specs.Frame.{frame_dots}
use Rattle.timing.proofs.Curves.{taken_all}
use Rattle.timing.proofs.Goods.{small}
use Rattle.timing.proofs.plans.Plan.frame_dots.Goals as goal

pub overflow_mul-result : goal.overflow_mul-result
unfolding frame_dots
overflow_mul-result c = omega (arith, (small _ c.args.self.now.ok).dots_most)

pub returns : goal.returns
unfolding frame_dots
returns c = record { value = refl; all = taken_all c.args.self.now.numbers }
