use Rattle.std.proofs.Common.{◌≡◌, ℕ, ◌<◌, Option, sym, refl, ap, ◌∙◌, subst, subst₂, add-one, arith}
use Rattle.timing.specs.Frame.{frame_ticks}
use Rattle.timing.specs.declared.numbers.Numbers.{Numbers}
use Rattle.timing.specs.declared.plans.Plan.{Plan}
use Rattle.std.specs.Option.{option_or}
use Rattle.feeder.specs.Step.{plan_in}
use Rattle.fifo.specs.Frame.{Kept}
use Rattle.playback.specs.Frame.{Served}
use Rattle.fifo.specs.Script.{Script}
use Rattle.playback.proofs.Runs.{Underway, underway_start, underway_more, underway_over}
use Rattle.playback.proofs.frames.frame.Goals as goal

pub loop-tick-init : goal.loop-tick-init
loop-tick-init g c = (refl, underway_start g.S.Screen.accepts _ _ c.start-fifo.result _ _ refl c.start-fifo.ensures.tick c.start-fifo.ensures.progress)

pub serve-missing-requires : goal.serve-missing-requires
serve-missing-requires g c =
    let u = c.loop-tick.invariant.1 in
    let plan : plan_in c.loop-tick.fifo.feeder.counts ≡ c.args.plan.numbers = u.plan ∙ ap (λ (q : Plan). q.numbers) c.start-fifo.ensures.plan in
    record {
      size = c.loop-tick.auto.ring ∙ c.requires ∙ ap (λ (p : Numbers). p.capacity) (sym plan);
      kept = subst (λ (s : Script). Kept c.loop-tick.fifo c.loop-tick.ring (s.dots 0)) (sym c.loop-tick.invariant.0) u.kept;
      inside = omega (arith, u.tick, ap frame_ticks plan);
    }

pub loop-tick-preserved : goal.loop-tick-preserved
loop-tick-preserved g c =
    let u = c.loop-tick.invariant.1 in
    let s = g.M.Memory.script c.args.memory.now in
    let p = plan_in c.start-fifo.result.feeder.counts in
    let inside : c.loop-tick.tick < frame_ticks p = omega (arith, ap (λ (q : Plan). frame_ticks q.numbers) c.start-fifo.ensures.plan) in
    let served = subst (λ (k : Script). Served g.S.Screen.accepts k c.loop-tick.fifo c.loop-tick.screen c.serve-missing.result c.serve-missing.new.fifo c.serve-missing.new.ring c.serve-missing.new.screen) c.loop-tick.invariant.0 c.serve-missing.ensures.served in
    let more = underway_more g.S.Screen.accepts p s c.loop-tick.tick _ _ c.args.screen.now _ c.loop-tick.first u c.serve-missing.new.fifo _ c.serve-missing.new.screen c.serve-missing.result inside served in
    let first = c.or-first.ensures ∙ ap (option_or c.loop-tick.first) c.then_some.ensures in (
      c.serve-missing.ensures.same ∙ c.loop-tick.invariant.0,
      subst₂ (λ n (f : Option ℕ). Underway g.S.Screen.accepts p s n c.serve-missing.new.fifo c.serve-missing.new.ring c.args.screen.now c.serve-missing.new.screen f) (sym (add-one c.loop-tick.tick)) (sym first) more,
    )

pub returns : goal.returns
returns g c =
    let plan = ap (λ (q : Plan). q.numbers) c.start-fifo.ensures.plan in
    let end : c.loop-tick.tick ≡ frame_ticks (plan_in c.start-fifo.result.feeder.counts) = omega (arith, ap frame_ticks plan) in
    let over = underway_over g.S.Screen.accepts _ c.args.plan.numbers _ _ _ _ _ _ _ c.loop-tick.invariant.1 end plan in
    record { same = c.loop-tick.invariant.0; shown = over.0; first = over.1 }
