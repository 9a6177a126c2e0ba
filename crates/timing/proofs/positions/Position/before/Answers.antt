use Rattle.std.proofs.Common.{arith}
use Rattle.timing.proofs.Dues.{near, tracks_at}
use Rattle.timing.proofs.Goods.{good_says}
use Rattle.timing.proofs.positions.Position.before.Goals as goal

pub nonzero_rem-next : goal.nonzero_rem-next
nonzero_rem-next c = rw c.numbers-width.ensures (good_says _ c.args.plan.now.ok).width_least

pub nonzero_div-next : goal.nonzero_div-next
nonzero_div-next c = nonzero_rem-next c

pub due-requires : goal.due-requires
due-requires c =
    let there = tracks_at _ c.args.tick c.taken-count.result c.args.plan.now.ok c.requires c.taken-count.ensures.value in
    rw c.numbers-width.ensures (omega (arith, near _ _ c.args.plan.now.ok there))

pub returns-clause-tracks : goal.returns-clause-tracks
returns-clause-tracks c = rw (c.due.ensures, c.numbers-width.ensures) (tracks_at _ c.args.tick c.taken-count.result c.args.plan.now.ok c.requires c.taken-count.ensures.value)
