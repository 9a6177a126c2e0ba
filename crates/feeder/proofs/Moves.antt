-- The code's moves, over plain numbers, make the model's tick.
use Rattle.std.proofs.Common.{◌≡◌, ℕ, suc, ◌+◌, ◌-◌, ◌<◌, ◌≤◌, min, Bool, true, false, cond, not, ◌&&◌, ltb, leb, sym, refl, ap, ◌∙◌, arith}
use Rattle.std.proofs.lemmas.Bool.{cond_both}
use Rattle.std.proofs.lemmas.Bool.Decides.{nat_tests}
use Rattle.timing.specs.Frame.{frame_dots, takes, taken}
use Rattle.timing.specs.declared.numbers.Numbers.{Numbers}
use Rattle.feeder.specs.Model.{answers, answered, waiting, after_answer, misses, after_take, after_ask, after_tick, requests, outcome}
use Rattle.feeder.specs.Panel.{demand_of, noted, asked_for}
use Rattle.feeder.specs.declared.outcomes.Outcome.{Outcome}
use Rattle.feeder.specs.declared.outcomes.Outcome.TheVariants.{Dot, Dark, Missing}
use Rattle.feeder.specs.declared.states.Progress.{Progress}
use Rattle.feeder.proofs.Plans.{by_plan}

pub asked_more : (burst total room : ℕ) (f : Progress) → f.requested ≤ (asked_for burst total room f).requested
unfolding asked_for
asked_more burst total room f =
    cond_both (not f.pending && (ltb f.requested total && leb (min (f.requested + burst) total) room)) _ f (λ (x : Progress). f.requested ≤ x.requested)
    (λ asks. let left : f.requested < total = grind (arith, nat_tests) in omega arith) (λ no_request. omega arith)

-- only a dot that is taken can be missing
missed : {A : Type 0} (b c : Bool) (x y z : A) → cond b (cond c x y) z ≡ cond b (cond (b && c) x y) z
missed true c x y z = refl
missed false c x y z = refl

-- an answer that the memory may give is the one that the model has
pub allowed_answer : (p : Numbers) (w : Bool) (f : Progress) → answers (demand_of p) w f ≡ w → after_answer (demand_of p) w f ≡ cond w (answered f) (waiting f)
unfolding after_answer
allowed_answer p w f e = ap (λ b. cond b (answered f) (waiting f)) e

module _ (p : Numbers) (t : ℕ) (w : Bool) (f a : Progress) (allowed : answers (demand_of p) w f ≡ w) (answer : a ≡ cond w (answered f) (waiting f)) where
  answer_is : after_answer (demand_of p) w f ≡ a
  answer_is = allowed_answer p w f allowed ∙ sym answer

  pub tick_is : (n r : Progress) (hit : Bool) (count burst total room : ℕ) → hit ≡ takes p t → count ≡ taken p t → n ≡ noted (hit && leb a.arrived count) a →
      burst ≡ p.burst → total ≡ frame_dots p → room ≡ taken p (suc t) + p.capacity → r ≡ asked_for burst total room n → r ≡ after_tick (demand_of p) w t f
  unfolding after_tick
  tick_is n r hit count burst total room eh ec en eb et er e =
      let m = by_plan p in
      let d = demand_of p in
      let take : after_take d t (after_answer d w f) ≡ n = ap (after_take d t) answer_is ∙ m.take_is t a ∙ sym (rw (eh, ec) at en) in
      rw (eb, et, er) at e ∙ sym (ap (after_ask d t) take ∙ m.ask_is t n)

  -- to answer and to take change nothing that was requested
  pub requested_is : a.requested ≡ f.requested
  unfolding answered waiting
  requested_is = ap (λ (x : Progress). x.requested) answer ∙ cond_both w (answered f) (waiting f) (λ x. x.requested ≡ f.requested) (λ e. refl) (λ e. refl)

  pub outcome_is : (r : Progress) (hit : Bool) (count : ℕ) (o : Outcome) → hit ≡ takes p t → count ≡ taken p t → r ≡ after_tick (demand_of p) w t f →
      o ≡ cond hit (cond (leb a.arrived count) (Missing (r.requested - a.requested)) (Dot (r.requested - a.requested))) (Dark (r.requested - a.requested)) → o ≡ outcome (demand_of p) w t f
  unfolding outcome requests misses demand_of
  outcome_is r hit count o eh ec er e =
      rw ((by_plan p).uses_is t, answer_is) ((rw (eh, ec, requested_is, er) at e) ∙ missed (takes p t) (leb a.arrived (taken p t)) _ _ _)
