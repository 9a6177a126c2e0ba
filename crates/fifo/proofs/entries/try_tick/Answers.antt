use Rattle.fifo.proofs.Checks.{going, state_six, ready_says}
use Rattle.fifo.proofs.entries.try_tick.Goals as goal

pub advance-requires : goal.advance-requires
advance-requires c = record { six = state_six _ c.args.state.now c.in_ok-counts.ensures.opened.state_ok; going = going _ _ _ _ c.in_ok-counts.counts c.in_ok-counts.ensures }

pub returns : goal.returns
returns c = ready_says _ _ _ _ _ _ c.in_ok-counts.counts _ _ _ c.in_ok-counts.ensures c.advance.ensures
