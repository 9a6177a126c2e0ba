-- What is reached from a frame's start stays so, tick by tick, and what holds of every way of answering holds of it.
use Rattle.std.proofs.Common.{◌≡◌, ℕ, zero, suc, ◌+◌, ◌<◌, ◌≤◌, Bool, true, false, cond, ltb, IfOk, Ok, Err, Result, sym, refl, ap, ◌∙◌, subst, ap₂, ⊎_elim, arith, MatchOption}
use mathlib.Core.Bool.{Bool-set}
use mathlib.Core.Logic.{∥∥₁_elim, ∥∥₁_map}
use mathlib.Core.Path.{subst₃}
use native.Mathlib.Nat.{ℕ_set}
use Rattle.std.proofs.lemmas.Bool.{cond_both, cond-true, cond-false, lt-ltb, le-ltb, cases_Bool, or_from, or_parts, both_ways}
use Rattle.timing.specs.Frame.{frame_dots, taken}
use Rattle.timing.specs.Good.{good}
use Rattle.timing.specs.declared.numbers.Numbers.{Numbers}
use Rattle.timing.specs.declared.plans.Plan.{Plan}
use Rattle.timing.proofs.Curves.{taken_all, taken_past}
use Rattle.std.specs.Result.{result_ok}
use Rattle.std.proofs.lemmas.Bool.Decides.{nat_tests}
use Rattle.feeder.specs.Feed.{Fed, Held, Whole, Over, Follows}
use Rattle.feeder.specs.Step.{plan_in, tick_in, Steps}
use Rattle.feeder.specs.declared.counts.Counts.{Counts}
use Rattle.feeder.specs.declared.outcomes.Outcome.{Outcome}
use Rattle.feeder.specs.declared.refusals.StepRefusal.{StepRefusal}
use Rattle.feeder.specs.declared.refusals.StepRefusal.TheVariants.{FrameOver, NotPending, Late}
use Rattle.feeder.specs.Model.{Demand, begun, answered, waiting, after_take, after_ask, requests, uses, outcome, answers, after_answer, after_tick, after, misses, latest}
use Rattle.feeder.specs.Panel.{demand_of, in_time, Reached}
use Rattle.feeder.specs.declared.states.Progress.{Progress}
use Rattle.feeder.proofs.Laws.{tick_underrun, never_missing, all_arrive}
use Rattle.feeder.proofs.Plans.{sound, timely, accepted_kept}
use Rattle.feeder.proofs.Worst.{latest_misses}

-- a frame depends on the ticks before only
agree : (d : Demand) (v w : ℕ → Bool) (t : ℕ) → ((s : ℕ) → s < t → v s ≡ w s) → after d v t ≡ after d w t
unfolding after
agree d v w zero same = refl
agree d v w (suc t) same = ap₂ (λ b f. after_tick d b t f) (same t (omega arith)) (agree d v w t (λ s h. same s (omega arith)))

-- one more answer after those before
then : (ℕ → Bool) → ℕ → Bool → ℕ → Bool
then w t b s = cond (ltb s t) (w s) b

then_after : (d : Demand) (w : ℕ → Bool) (t : ℕ) (b : Bool) → after d (then w t b) (suc t) ≡ after_tick d b t (after d w t)
unfolding after then
then_after d w t b =
    ap₂ (λ x f. after_tick d x t f) (cond-false (ltb t t) (w t) b (le-ltb t t (omega arith))) (agree d (then w t b) w t (λ s h. cond-true (ltb s t) (w s) b (lt-ltb s t h)))

pub reached_start : (p : Numbers) (f : Progress) → after (demand_of p) latest 0 ≡ f → Reached p 0 f
reached_start p f e = ∣ (latest, e) ∣₁

pub reached_tick : (p : Numbers) (t : ℕ) (f : Progress) (b : Bool) → Reached p t f → Reached p (suc t) (after_tick (demand_of p) b t f)
reached_tick p t f b r = ∥∥₁_map r (λ x. (then x.0 t b, then_after (demand_of p) x.0 t b ∙ ap (after_tick (demand_of p) b t) x.1))

pub steps_reached : (a b : Counts) (w : Bool) (r : Result Outcome StepRefusal) → Steps a w r b → Reached (plan_in a) (tick_in a) a.progress → Reached (plan_in b) (tick_in b) b.progress
steps_reached a b w (Ok o) m reached =
    let tick : tick_in b ≡ suc (tick_in a) = omega (arith, m.tick) in
    subst₃ Reached (sym (ap (λ (q : Plan). q.numbers) m.plan)) (sym tick) (sym m.progress) (reached_tick (plan_in a) (tick_in a) a.progress w reached)
steps_reached a b w (Err e) m reached = subst (λ (c : Counts). Reached (plan_in c) (tick_in c) c.progress) (sym m.0) reached

-- by a plan in time no tick of a frame misses its dot, whatever the memory does in it
never_in : (p : Numbers) (t : ℕ) (f : Progress) (b : Bool) → good p ≡ true → in_time p ≡ true → Reached p t f → misses (demand_of p) t (after_answer (demand_of p) b f) ≡ false
unfolding then
never_in p t f b ok fast reached = ∥∥₁_elim reached (Bool-set _ _) (λ x.
    let way = then x.0 t b in
    let d = demand_of p in
    let now : way t ≡ b = cond-false (ltb t t) (x.0 t) b (le-ltb t t (omega arith)) in
    let here : after d way t ≡ f = agree d way x.0 t (λ s h. cond-true (ltb s t) (x.0 s) b (lt-ltb s t h)) ∙ x.1 in
    sym (ap₂ (λ c g. misses d t (after_answer d c g)) now here) ∙ never_missing d (sound p ok) (timely p fast) way t)

pub steps_fed : (a b : Counts) (w : Bool) (r : Result Outcome StepRefusal) → Steps a w r b → Reached (plan_in a) (tick_in a) a.progress → in_time (plan_in a) ≡ true → IfOk r Fed
unfolding outcome
steps_fed a b w (Ok o) m reached fast =
    let d = demand_of (plan_in a) in
    let hit = never_in (plan_in a) (tick_in a) a.progress w a.scan.plan.ok fast reached in
    rw m.outcome_is (cond_both (uses d (tick_in a)) _ _ Fed (λ used. rw hit tt) (λ dark. tt))
steps_fed a b w (Err e) m reached fast = tt

pub held : (c : Counts) → Held c
unfolding demand_of
held c = let k = accepted_kept (plan_in c) (tick_in c) c.progress c.ok in record { room = k.room; total = k.total; order = k.order }

pub whole : (c : Counts) → Reached (plan_in c) (tick_in c) c.progress → Whole c
unfolding demand_of
whole c reached over none =
    let p = plan_in c in
    let all : taken p (tick_in c) ≡ frame_dots p = taken_past p (tick_in c) over ∙ taken_all p in (
      ∥∥₁_elim reached (ℕ_set _ _) (λ x. sym (ap (λ (f : Progress). f.arrived) x.1) ∙ (all_arrive (demand_of p) x.0 (tick_in c) (sound p c.scan.plan.ok) all (ap (λ (f : Progress). f.underrun) x.1 ∙ none)).0),
      ∥∥₁_elim reached (Bool-set _ _) (λ x. sym (ap (λ (f : Progress). f.pending) x.1) ∙ (all_arrive (demand_of p) x.0 (tick_in c) (sound p c.scan.plan.ok) all (ap (λ (f : Progress). f.underrun) x.1 ∙ none)).1),
    )

idle_answer : (d : Demand) (w : Bool) (f : Progress) → f.pending ≡ false → answers d w f ≡ false
unfolding answers
idle_answer d w f off = grind (arith, nat_tests)

due_answer : (d : Demand) (w : Bool) (f : Progress) → f.pending ≡ true → d.latency ≤ f.waited + 1 → answers d w f ≡ true
unfolding answers
due_answer d w f on due = grind (arith, nat_tests)

-- the memory's answer is all that a tick sees of it
same_tick : (d : Demand) (v w : Bool) (t : ℕ) (f : Progress) → answers d v f ≡ answers d w f → (after_tick d v t f ≡ after_tick d w t f) × (outcome d v t f ≡ outcome d w t f)
unfolding after_tick after_answer outcome requests
same_tick d v w t f e =
    let same : after_answer d v f ≡ after_answer d w f = ap (λ b. cond b (answered f) (waiting f)) e in
    (ap (λ g. after_ask d t (after_take d t g)) same, rw same)

pub follows : (a b : Counts) (willing brought : Bool) (r : Result Outcome StepRefusal) → brought ≡ answers (demand_of (plan_in a)) willing a.progress → Steps a brought r b → MatchOption (result_ok r) (Over a b) (λ o. Follows a willing o b)
unfolding demand_of
follows a b willing brought (Ok o) e m =
    let same = same_tick (demand_of (plan_in a)) brought willing (tick_in a) a.progress (m.allowed.1 ∙ e) in
    record { inside = m.allowed.0; plan = m.plan; tick = omega (arith, m.tick); progress = m.progress ∙ same.0; outcome_is = m.outcome_is ∙ same.1 }
follows a b willing brought (Err FrameOver) e m = (m.1, m.0)
follows a b willing brought (Err NotPending) e m = absurd (both_ways _ (e ∙ idle_answer (demand_of (plan_in a)) willing a.progress m.1.2) m.1.1)
follows a b willing brought (Err (Late tick)) e m = absurd (both_ways _ m.1.1 (e ∙ due_answer (demand_of (plan_in a)) willing a.progress m.1.2 m.1.3))

-- once a dot was missing it stays so, and one that is missing by some way is missing by the latest
pub none_sooner : (p : Numbers) (w : ℕ → Bool) (t : ℕ) → (after (demand_of p) latest t).underrun ≡ false → (after (demand_of p) w t).underrun ≡ false
unfolding after begun
none_sooner p w zero h = refl
none_sooner p w (suc t) h =
    let d = demand_of p in
    let parts = or_parts _ _ (sym (tick_underrun d (latest t) t (after d latest t)) ∙ h) in
    let here : misses d t (after_answer d (w t) (after d w t)) ≡ false = ⊎_elim (λ hit. absurd (both_ways _ parts.1 (latest_misses d w t hit))) (λ none. none) (cases_Bool (misses d t (after_answer d (w t) (after d w t)))) in
    tick_underrun d (w t) t (after d w t) ∙ or_from _ _ (none_sooner p w t parts.0) here
