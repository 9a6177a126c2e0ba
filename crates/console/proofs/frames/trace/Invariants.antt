-- A trace ends, since the frame has fewer ticks to come with each sample.
use Rattle.std.proofs.Common.{◌-◌}
use Rattle.timing.specs.Frame.{frame_ticks}
use Rattle.feeder.specs.Step.{plan_in, tick_in}
use Rattle.console.proofs.frames.trace.Given as goal

abbrev pub decreases-loop-sample : goal.decreases-loop-sample
decreases-loop-sample l = frame_ticks (plan_in l.probe.feeder.counts) - tick_in l.probe.feeder.counts
