use Rattle.std.proofs.Common.{◌≡◌, length, Option, sym, refl, ap, ◌∙◌, subst₂, add-one, arith, rules}
use Rattle.std.specs.Option.{option_or}
use Rattle.timing.specs.declared.numbers.Numbers.{Numbers}
use Rattle.fifo.specs.Script.{next_frame}
use Rattle.playback.specs.Frame.{underrun_in}
use Rattle.playback.specs.declared.underruns.Underrun.{Underrun}
use Rattle.playback.proofs.Runs.{Behind, behind_none, behind_more, behind_all}
use Rattle.playback.proofs.Showings.{in_place, complete}
use Rattle.playback.proofs.frames.play.Goals as goal

pub returns-then-ring-numbers : goal.returns-then-ring-numbers
returns-then-ring-numbers g c = record {
  plays = record { size = λ e. omega (arith, ap (λ (p : Numbers). p.capacity) c.numbers.ensures); why = refl; same = (refl, refl, refl) };
  place = λ w picture. in_place c.args.plan.numbers w picture c.args.plan.ok;
  complete = λ fast w picture. complete c.args.plan.numbers w picture c.args.plan.ok fast;
}

pub loop-number-init : goal.loop-number-init
loop-number-init g c = behind_none g.S.Screen.accepts _ _ _

pub loop-number-preserved : goal.loop-number-preserved
loop-number-preserved g c =
    let b = c.loop-number.invariant in
    let s = g.M.Memory.script in
    let turned = c.turn.ensures ∙ ap next_frame c.frame-missing.ensures.same in
    let more = behind_more g.S.Screen.accepts c.args.plan.numbers (s c.args.memory.now) (s c.loop-number.memory) (s c.turn.new.self) c.loop-number.number c.args.screen.now _ c.frame-missing.new.screen c.loop-number.first c.frame-missing.result
    b c.frame-missing.ensures.shown c.frame-missing.ensures.first turned in
    let named : c.map.result ≡ underrun_in c.loop-number.number c.frame-missing.result = search rules in
    let first = c.or-first.ensures ∙ ap (option_or c.loop-number.first) named in
    subst₂ (λ n (f : Option Underrun). Behind g.S.Screen.accepts c.args.plan.numbers (s c.args.memory.now) (s c.turn.new.self) n c.args.screen.now c.frame-missing.new.screen f) (sym (add-one c.loop-number.number)) (sym first) more

pub returns : goal.returns
returns g c =
    let all : c.loop-number.number ≡ c.args.frames = omega arith in
    let size : length c.args.ring.now ≡ c.args.plan.numbers.capacity = omega (arith, ap (λ (p : Numbers). p.capacity) c.numbers.ensures) in
    record {
      plays = behind_all g.M.Memory.script g.S.Screen.accepts _ _ _ _ _ _ _ _ _ c.loop-number.invariant all size;
      place = λ w picture. in_place c.args.plan.numbers w picture c.args.plan.ok;
      complete = λ fast w picture. complete c.args.plan.numbers w picture c.args.plan.ok fast;
    }
