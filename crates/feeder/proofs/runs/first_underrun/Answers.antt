use Rattle.std.proofs.Common.{◌≡◌, Some, sym, refl, ap, subst, add-one, arith}
use Rattle.timing.specs.Frame.{frame_ticks}
use Rattle.timing.specs.declared.numbers.Numbers.{Numbers}
use Rattle.timing.specs.declared.plans.Plan.{Plan}
use Rattle.feeder.specs.Feed.{FirstUnderrun, willing_in}
use Rattle.feeder.specs.Step.{plan_in}
use Rattle.feeder.proofs.Frames.{Along, along_start, along_more, first_here}
use Rattle.feeder.proofs.runs.first_underrun.Goals as goal

pub loop-tick-init : goal.loop-tick-init
loop-tick-init c = along_start _ (willing_in c.args.willing.now) _ refl c.start-feeder.ensures.tick c.start-feeder.ensures.progress

pub returns-then-misses_next : goal.returns-then-misses_next
returns-then-misses_next c =
    let p : plan_in c.start-feeder.result.counts ≡ c.args.plan.numbers = ap (λ (q : Plan). q.numbers) c.start-feeder.ensures.plan in
    subst (λ (q : Numbers). FirstUnderrun q (willing_in c.args.willing.now) (Some c.loop-tick.tick)) p
    (first_here _ (willing_in c.args.willing.now) _ _ _ _ _ c.loop-tick.invariant c.is_willing.ensures c.misses_next.ensures (omega (arith, ap frame_ticks p)) c.if-misses_next.true)

pub loop-tick-preserved : goal.loop-tick-preserved
loop-tick-preserved c =
    subst (λ t. Along (plan_in c.start-feeder.result.counts) (willing_in c.args.willing.now) t c.misses_next.new.feeder.counts) (sym (add-one c.loop-tick.tick))
    (along_more _ (willing_in c.args.willing.now) _ _ _ _ _ c.loop-tick.invariant c.is_willing.ensures c.misses_next.ensures c.if-misses_next.false)
