use Rattle.std.proofs.Common.{◌≡◌, ◌+◌, ◌*◌, ◌/◌, ◌%◌, min, Bool, true, false, cond, ltb, length-set, refl, ap, ◌∙◌, suc, zero-mul, add-one, arith}
use mir.Val.{bool_byte}
use Rattle.timing.specs.declared.plans.Plan.{Plan}
use Rattle.feeder.specs.Step.{plan_in}
use Rattle.scope.specs.Fill.{Spans}
use Rattle.scope.proofs.Bands.{columns_none, columns_more, column_on, frame_some, charted}
use Rattle.scope.proofs.charts.Chart.of.Goals as goal

pub loop-column-init : goal.loop-column-init
loop-column-init c = record {
  plan = refl;
  tick = c.start-probe.ensures.tick ∙ omega (arith, zero-mul (c.frame_ticks-ticks.result / c.min-count.result));
  size = refl;
  done = columns_none _ _ _ _;
}

one_more : (b : Bool) → bool_byte b ≡ cond b 1 0
one_more true = refl
one_more false = refl

pub loop-column-preserved : goal.loop-column-preserved
loop-column-preserved c =
    let t = c.frame_ticks-ticks.result in
    let n = c.min-count.result in
    let i = c.loop-column.column in
    let m = c.measure.ensures in
    let at = c.loop-column.invariant in
    let more : c.from.result ≡ cond (ltb i (t % n)) 1 0 = c.from.ensures ∙ one_more (ltb i (t % n)) in
    let here : Spans (plan_in c.start-probe.result.feeder.counts) (suc (i * (t / n) + min i (t % n))) (t / n + cond (ltb i (t % n)) 1 0) c.measure.result.least c.measure.result.most =
    rw (← more, ← at.plan, ← at.tick) m.spans in
    let on = column_on t n i in
    record {
      plan = m.plan ∙ at.plan;
      tick = rw (add-one i) (omega (arith, m.tick, at.tick, more, on));
      size = length-set c.loop-column.columns i c.measure.result ∙ at.size;
      done = columns_more _ (t / n) (t % n) i c.loop-column.columns c.measure.result (omega (arith, at.size, c.min-count.ensures)) at.done here;
    }

pub returns : goal.returns
returns c =
    let some = frame_some _ c.args.plan.ok in
    charted c.args.plan.numbers c.frame_ticks-ticks.result _ _ _ c.loop-column.column c.frame_ticks-ticks.ensures (omega (arith, c.frame_ticks-ticks.ensures)) c.min-count.ensures (ap (λ (q : Plan). q.numbers) c.start-probe.ensures.plan) (omega arith) c.loop-column.invariant
