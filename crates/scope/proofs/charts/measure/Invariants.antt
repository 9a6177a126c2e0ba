use Rattle.std.proofs.Common.{◌≡◌, ◌+◌}
use Rattle.feeder.specs.Step.{plan_in, tick_in}
use Rattle.scope.specs.Fill.{Spans}
use Rattle.scope.proofs.charts.measure.Given as goal

-- the loop begins behind the first tick
abbrev pub invariant-loop-tick : goal.invariant-loop-tick
invariant-loop-tick l =
    (plan_in l.probe.feeder.counts ≡ plan_in l.initial.probe.feeder.counts)
    × (tick_in l.probe.feeder.counts + 1 ≡ tick_in l.initial.probe.feeder.counts + l._tick)
    × Spans (plan_in l.initial.probe.feeder.counts) (tick_in l.initial.probe.feeder.counts) l._tick l.span.least l.span.most
