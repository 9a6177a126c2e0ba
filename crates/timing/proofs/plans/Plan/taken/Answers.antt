use Rattle.std.proofs.Common.{◌≡◌, ◌+◌, ◌-◌, ◌*◌, ◌/◌, ◌%◌, sym, arith}
use Rattle.timing.specs.Frame.{taken}
use Rattle.timing.proofs.Curves.{taken_is, taken_few, curve}
use Rattle.timing.proofs.Goods.{small}
use Rattle.timing.proofs.plans.Plan.taken.Goals as goal
use Rattle.timing.proofs.plans.Plan.taken.Goals.{After-min-gone}

closed : (c : After-min-gone) → taken c.args.self.now.numbers c.args.tick ≡ c.min-gone.result / c.line_ticks-line.result * c.args.self.now.numbers.width + (c.min-gone.result % c.line_ticks-line.result - c.args.self.now.numbers.hblank)
closed c = taken_is _ c.args.tick c.min-gone.result c.line_ticks-line.result c.line_ticks-line.ensures.some c.line_ticks-line.ensures.value (cc)

pub overflow_mul-height : goal.overflow_mul-height
overflow_mul-height c = rw c.line_ticks-line.ensures.value (omega (arith, (small _ c.args.self.now.ok).lines_most))

pub overflow_mul-result : goal.overflow_mul-result
overflow_mul-result c = omega (arith, closed (goal.at.overflow_mul-result c).After-min-gone, taken_few _ c.args.self.now.ok c.args.tick)

pub overflow_add-result : goal.overflow_add-result
overflow_add-result c = rw c.saturating_sub-2.ensures (omega (arith, closed (goal.at.overflow_add-result c).After-min-gone, taken_few _ c.args.self.now.ok c.args.tick))

pub returns : goal.returns
returns c = record { value = rw c.saturating_sub-2.ensures (sym (closed (goal.at.returns c).After-min-gone)); curve = curve _ }
