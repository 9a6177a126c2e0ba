use Rattle.fifo.proofs.Checks.{refused_number, refused_says}
use Rattle.fifo.proofs.Ticks.{ticked_out}
use Rattle.fifo.proofs.entries.tick.Goals as goal

pub returns-in-Ok : goal.returns-in-Ok
returns-in-Ok c = rw (c.from.ensures, c.in-Ok.ensures.0) (ticked_out _ _ _ _ _ c.in-Ok.exchange _ _ c.in-Ok.ensures.1)

pub returns-in-Err : goal.returns-in-Err
returns-in-Err c =
    let wrong = c.in-Err.ensures in
    rw c.number.ensures (refused_says _ _ _ _ _ _ _ _ c.in-Err.refusal wrong.1 wrong.2 (refused_number _ _ _ _ c.in-Err.refusal wrong.0))
