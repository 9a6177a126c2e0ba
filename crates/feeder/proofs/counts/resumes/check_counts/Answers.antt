use Rattle.std.proofs.Common.{arith}
use Rattle.timing.proofs.Curves.{taken_few}
use Rattle.timing.proofs.Goods.{good_says, small}
use Rattle.feeder.proofs.counts.resumes.check_counts.Goals as goal

pub overflow_add-taken : goal.overflow_add-taken
overflow_add-taken c = rw c.numbers-capacity.ensures (omega (arith, c.taken.ensures.value, taken_few _ c.args.plan.now.ok c.args.tick, (good_says _ c.args.plan.now.ok).capacity_most))

pub overflow_add-f : goal.overflow_add-f
overflow_add-f c =
    let g = good_says _ c.args.plan.now.ok in
    rw c.numbers-capacity.ensures (omega (arith, c.if-f-frame_dots.false, c.frame_dots.ensures.value, (small _ c.args.plan.now.ok).dots_most, g.burst_most, g.capacity_most))
