use Rattle.std.proofs.Common.{◌≡◌, ℕ, ◌+◌, ◌-◌, ◌%◌, true, cond, length, sym, refl, ap, ◌∙◌, subst, ap₂, arith, Result, IfOk}
use Rattle.std.specs.Int.{from_bool}
use Rattle.timing.specs.declared.numbers.Numbers.{Numbers}
use Rattle.timing.specs.declared.plans.Plan.{Plan}
use Rattle.feeder.specs.Step.{plan_in}
use Rattle.feeder.specs.declared.counts.Counts.{Counts}
use Rattle.feeder.specs.declared.states.Progress.{Progress}
use Rattle.feeder.specs.Model.{answers}
use Rattle.feeder.specs.Panel.{demand_of}
use Rattle.feeder.specs.Step.{Steps}
use Rattle.feeder.specs.Feed.{Fed}
use Rattle.feeder.specs.declared.outcomes.Outcome.{Outcome}
use Rattle.feeder.specs.declared.refusals.StepRefusal.{StepRefusal}
use Rattle.fifo.specs.Gives.{is_missing}
use Rattle.fifo.specs.Script.{Script}
use Rattle.fifo.specs.declared.pixels.Exchange.{Exchange}
use Rattle.fifo.specs.Frame.{takes_of}
use Rattle.fifo.specs.Ring.{Loaded}
use Rattle.fifo.proofs.Ticks.{fed_pixel}
use Rattle.fifo.proofs.Turns.{placed, Brings, brings_from, not_over, takes_few, takes_as, next_head, next_tail, count_few, played, never_stuck}
use Rattle.fifo.proofs.fifos.Fifo.step.Goals as goal

-- the ring has as many places as the plan's capacity
sized : (m : ℕ) (numbers : Numbers) (plan : Plan) (counts now : Counts) → m ≡ numbers.capacity → numbers ≡ plan.numbers → plan ≡ counts.scan.plan → counts ≡ now → m ≡ (plan_in now).capacity
sized m numbers plan counts now e n p k = e ∙ ap (λ (x : Numbers). x.capacity) n ∙ ap (λ (x : Plan). x.numbers.capacity) p ∙ ap (λ (x : Counts). (plan_in x).capacity) k

pub bring-count-requires : goal.bring-count-requires
bring-count-requires g c =
    let size : length c.args.ring.now ≡ (plan_in c.args.self.now.feeder.counts).capacity = sized _ _ _ _ _ c.if-ring-capacity.false c.numbers-capacity.ensures c.plan.ensures c.counts-counts.ensures in
    let place = placed c.args.self.now _ size in
    let f : c.progress.result ≡ c.args.self.now.feeder.counts.progress = c.progress.ensures ∙ ap (λ (k : Counts). k.progress) c.counts-counts.ensures in
    let b = subst (λ (k : Progress). Brings k (length c.args.ring.now) c.args.self.now.tail) (sym f) (brings_from c.args.self.now _ place) in
    record { order = b.order; few = b.few; place = b.place; inside = b.inside; fits = b.fits }

pub bounds-ring-self : goal.bounds-ring-self
bounds-ring-self g c =
    let size : length c.args.ring.now ≡ (plan_in c.args.self.now.feeder.counts).capacity = sized _ _ _ _ _ c.if-ring-capacity.false c.numbers-capacity.ensures c.plan.ensures c.counts-counts.ensures in
    let place = placed c.args.self.now _ size in
    omega (arith, place.head_inside, c.bring-count.ensures.loaded.size)

pub unwrap-outcome-requires : goal.unwrap-outcome-requires
unwrap-outcome-requires g c =
    let answer = c.answers-brought.ensures ∙ ap (λ (k : Counts). answers (demand_of (plan_in k)) c.willing.result k.progress) c.counts-counts.ensures in
    never_stuck _ _ c.willing.result c.answers-brought.result c.step.result answer c.step.ensures.steps (not_over _ _ c.counts-counts.ensures c.if-is_over.ensures)

pub onward-self-requires : goal.onward-self-requires
onward-self-requires g c =
    let size : length c.args.ring.now ≡ (plan_in c.args.self.now.feeder.counts).capacity = sized _ _ _ _ _ c.if-ring-capacity.false c.numbers-capacity.ensures c.plan.ensures c.counts-counts.ensures in
    let place = placed c.args.self.now _ size in
    let capacity : c.numbers-capacity.result.capacity ≡ length c.args.ring.now = sym c.if-ring-capacity.false in
    let f : c.progress.result ≡ c.args.self.now.feeder.counts.progress = c.progress.ensures ∙ ap (λ (k : Counts). k.progress) c.counts-counts.ensures in
    let count = c.bring-count.ensures.count ∙ ap (λ (k : Progress). cond c.answers-brought.result (k.requested - k.arrived) 0) f in
    let moved = subst (λ (r : Result Outcome StepRefusal). Steps c.args.self.now.feeder.counts c.answers-brought.result r c.step.new.self.counts) c.unwrap-outcome.ensures c.step.ensures.steps in
    record { inside = omega (arith, place.tail_inside); near = omega (arith, count_few c.args.self.now _ c.args.ring.now c.args.ring.now (g.M.Memory.script c.args.memory.now) _ _ _ size moved count); small = omega (arith, place.small) }

pub onward-self-requires-2 : goal.onward-self-requires-2
onward-self-requires-2 g c =
    let size : length c.args.ring.now ≡ (plan_in c.args.self.now.feeder.counts).capacity = sized _ _ _ _ _ c.if-ring-capacity.false c.numbers-capacity.ensures c.plan.ensures c.counts-counts.ensures in
    let place = placed c.args.self.now _ size in
    let capacity : c.numbers-capacity.result.capacity ≡ length c.args.ring.now = sym c.if-ring-capacity.false in
    let took : c.from.result ≡ takes_of c.unwrap-outcome.result = c.from.ensures ∙ ap from_bool c.takes_dot.ensures ∙ takes_as c.unwrap-outcome.result in
    record { inside = omega (arith, place.head_inside); near = omega (arith, took, takes_few c.unwrap-outcome.result, place.some); small = omega (arith, place.small) }

pub invariant_of-self : goal.invariant_of-self
invariant_of-self g c =
    let size : length c.args.ring.now ≡ (plan_in c.args.self.now.feeder.counts).capacity = sized _ _ _ _ _ c.if-ring-capacity.false c.numbers-capacity.ensures c.plan.ensures c.counts-counts.ensures in
    let place = placed c.args.self.now _ size in
    let capacity : c.numbers-capacity.result.capacity ≡ length c.args.ring.now = sym c.if-ring-capacity.false in
    let f : c.progress.result ≡ c.args.self.now.feeder.counts.progress = c.progress.ensures ∙ ap (λ (k : Counts). k.progress) c.counts-counts.ensures in
    let count = c.bring-count.ensures.count ∙ ap (λ (k : Progress). cond c.answers-brought.result (k.requested - k.arrived) 0) f in
    let moved = subst (λ (r : Result Outcome StepRefusal). Steps c.args.self.now.feeder.counts c.answers-brought.result r c.step.new.self.counts) c.unwrap-outcome.ensures c.step.ensures.steps in
    let took : c.from.result ≡ takes_of c.unwrap-outcome.result = c.from.ensures ∙ ap from_bool c.takes_dot.ensures ∙ takes_as c.unwrap-outcome.result in
    let head = c.onward-self-2.ensures ∙ ap₂ (λ k m. (c.args.self.now.head + k) % m) took capacity in
    let tail = c.onward-self.ensures ∙ ap (λ m. (c.args.self.now.tail + c.bring-count.result) % m) capacity in record {
      headed = next_head c.args.self.now _ c.args.ring.now c.args.ring.now (g.M.Memory.script c.args.memory.now) _ _ _ size moved count _ head;
      tailed = next_tail c.args.self.now _ c.args.ring.now c.args.ring.now (g.M.Memory.script c.args.memory.now) _ _ _ size moved count _ tail;
    }

pub returns : goal.returns
returns g c =
    let size : length c.args.ring.now ≡ (plan_in c.args.self.now.feeder.counts).capacity = sized _ _ _ _ _ c.if-ring-capacity.false c.numbers-capacity.ensures c.plan.ensures c.counts-counts.ensures in
    let place = placed c.args.self.now _ size in
    let f : c.progress.result ≡ c.args.self.now.feeder.counts.progress = c.progress.ensures ∙ ap (λ (k : Counts). k.progress) c.counts-counts.ensures in
    let count = c.bring-count.ensures.count ∙ ap (λ (k : Progress). cond c.answers-brought.result (k.requested - k.arrived) 0) f in
    let moved = subst (λ (r : Result Outcome StepRefusal). Steps c.args.self.now.feeder.counts c.answers-brought.result r c.step.new.self.counts) c.unwrap-outcome.ensures c.step.ensures.steps in
    let script = g.M.Memory.script in
    let tick = c.tick.ensures ∙ ap (λ (k : Counts). k.scan.at.tick) c.counts-counts.ensures in
    let said = subst (λ t. (script c.args.memory.now).may 0 t c.willing.result ≡ true) tick c.willing.ensures.says in
    let answer = c.answers-brought.ensures ∙ ap (λ (k : Counts). answers (demand_of (plan_in k)) c.willing.result k.progress) c.counts-counts.ensures in
    let loaded = subst (λ (k : Progress). Loaded ((script c.willing.new.self).dots 0) k.arrived c.bring-count.result c.args.ring.now c.bring-count.new.ring) f c.bring-count.ensures.loaded in
    record {
      same = c.bring-count.ensures.same ∙ c.willing.ensures.same;
      unasked = tt;
      fed = λ fast. ap (λ (e : Exchange). is_missing e.pixel) c.of.ensures ∙ fed_pixel c.unwrap-outcome.result _ (subst (λ (r : Result Outcome StepRefusal). IfOk r Fed) c.unwrap-outcome.ensures (c.step.ensures.fed fast));
      plays = played c.args.self.now _ c.args.ring.now c.bring-count.new.ring (script c.args.memory.now) _ _ _ size moved count _ c.of.result.pixel c.willing.result refl said answer
          (subst (λ (s : Script). Loaded (s.dots 0) c.args.self.now.feeder.counts.progress.arrived c.bring-count.result c.args.ring.now c.bring-count.new.ring) c.willing.ensures.same loaded)
          (ap (λ (e : Exchange). e.pixel) c.of.ensures);
    }
