use Rattle.std.proofs.Common.{sym}
use Rattle.timing.proofs.Goods.{small}
use Rattle.timing.proofs.Whens.{takes_says, dot_in}
use Rattle.timing.proofs.plans.Plan.dot_at.Goals as goal

pub overflow_sub-gone : goal.overflow_sub-gone
overflow_sub-gone c = (takes_says _ _ (sym c.if-not-takes.ensures)).0

pub overflow_sub-result : goal.overflow_sub-result
overflow_sub-result c = rw c.line_ticks-line.ensures.value (takes_says _ _ (sym c.if-not-takes.ensures)).2

pub returns : goal.returns
returns c = rw c.line_ticks-line.ensures.value (dot_in _ _ (small _ c.args.self.now.ok).line_some (sym c.if-not-takes.ensures))
