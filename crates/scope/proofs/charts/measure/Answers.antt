use Rattle.std.proofs.Common.{◌≡◌, suc, ◌+◌, ◌∙◌, ap₂, arith}
use Rattle.feeder.specs.Step.{tick_in}
use Rattle.scope.specs.Fill.{fill}
use Rattle.scope.proofs.Bands.{spans_more}
use Rattle.scope.proofs.charts.measure.Goals as goal

pub loop-tick-preserved : goal.loop-tick-preserved
loop-tick-preserved c =
    let f = c.next_fill-fill.ensures in
    let at : suc (tick_in c.loop-tick.probe.feeder.counts) ≡ tick_in c.next_fill-first.new.probe.feeder.counts + c.loop-tick._tick = omega (arith, c.loop-tick.invariant.1) in (
      f.plan ∙ c.loop-tick.invariant.0,
      omega (arith, f.tick, c.loop-tick.invariant.1),
      rw (c.min.ensures, c.max.ensures) (spans_more _ _ c.loop-tick._tick _ _ c.next_fill-fill.result c.loop-tick.invariant.2 (f.value ∙ ap₂ fill c.loop-tick.invariant.0 at)),
    )
