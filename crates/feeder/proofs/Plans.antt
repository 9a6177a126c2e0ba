-- A good plan's demand is sound, one in time is timely, and its moves read over the plan.
use Rattle.std.proofs.Common.{◌≡◌, ℕ, suc, ◌+◌, ◌<◌, ◌≤◌, Bool, true, false, ◌&&◌, leb, sym, refl, ap, ◌∙◌, ⊎_elim, arith}
use Rattle.std.proofs.lemmas.Bool.{cases_Bool, lt-ltb, le-ltb}
use Rattle.std.proofs.lemmas.Bool.Decides.{nat_tests}
use Rattle.timing.specs.Frame.{takes, taken}
use Rattle.timing.specs.Good.{good}
use Rattle.timing.specs.declared.numbers.Numbers.{Numbers}
use Rattle.timing.proofs.Curves.{curve, taken_step, taken_when, taken_unless}
use Rattle.timing.proofs.Goods.{good_says}
use Rattle.feeder.specs.Law.{Sound, Timely}
use Rattle.feeder.specs.Model.{uses, misses, answers, after_answer, after_take, next_request, asks, asked, after_ask, after_tick}
use Rattle.feeder.specs.Panel.{demand_of, in_time, accepted, noted, asked_for, ByPlan}
use Rattle.feeder.specs.declared.states.Progress.{Progress}
use Rattle.feeder.proofs.Laws.{Kept, kept_tick}

pub sound : (p : Numbers) → good p ≡ true → Sound (demand_of p)
unfolding demand_of
sound p ok =
    let g = good_says p ok in
    record {
      starts = (curve p).dark 0 (omega arith);
      rises = λ t. (taken_step p t).0;
      slowly = λ t. (taken_step p t).1;
      within = (curve p).within;
      frees = λ t. (taken_step p t).0;
      used = λ t. omega arith;
      some = g.burst_least;
      fits = g.burst_most;
      late = g.latency_least;
    }

pub timely : (p : Numbers) → in_time p ≡ true → Timely (demand_of p)
unfolding demand_of in_time
timely p h =
    let rate : p.latency ≤ p.burst = grind (arith, nat_tests) in
    let room : p.burst + p.latency ≤ p.capacity + 1 = grind (arith, nat_tests) in
    let lead : p.latency ≤ p.vblank = grind (arith, nat_tests) in
    record {
      rate = λ t. omega (arith, (curve p).slowly t p.latency);
      room = λ t. omega (arith, (curve p).slowly t p.latency);
      lead = (curve p).dark p.latency lead;
    }

uses_takes : (p : Numbers) (t : ℕ) → uses (demand_of p) t ≡ takes p t
unfolding uses demand_of
uses_takes p t = ⊎_elim
    (λ h. lt-ltb _ _ (omega (arith, taken_when p t h)) ∙ sym h)
    (λ h. le-ltb _ _ (omega (arith, taken_unless p t h)) ∙ sym h)
    (cases_Bool (takes p t))

pub by_plan : (p : Numbers) → ByPlan p
unfolding after_answer answers after_take misses after_ask asks asked next_request demand_of noted asked_for
by_plan p = record {
  uses_is = uses_takes p;
  answer_is = λ w f. refl;
  take_is = λ t f. ap (λ b. noted (b && leb f.arrived (taken p t)) f) (uses_takes p t);
  ask_is = λ t f. refl;
}

-- accepted numbers are those that every tick keeps
pub accepted_kept : (p : Numbers) (t : ℕ) (f : Progress) → accepted p t f ≡ true → Kept (demand_of p) t f
unfolding accepted demand_of
accepted_kept p t f h = record {
  order = grind (arith, nat_tests);
  total = grind (arith, nat_tests);
  room = grind (arith, nat_tests);
  burst = grind (arith, nat_tests);
  time = grind (arith, nat_tests);
  awaits = λ on. grind (arith, nat_tests, on);
  idle = λ off. (grind (arith, nat_tests, off), grind (arith, nat_tests, off));
}

pub kept_accepted : (p : Numbers) (t : ℕ) (f : Progress) → Kept (demand_of p) t f → accepted p t f ≡ true
unfolding accepted demand_of
kept_accepted p t f k = ⊎_elim (λ on. let more = k.awaits on in grind (arith, nat_tests, on)) (λ off. let same = k.idle off in grind (arith, nat_tests, off)) (cases_Bool f.pending)

pub start_accepted : (p : Numbers) → good p ≡ true → (t : ℕ) → accepted p t (record { requested = 0; arrived = 0; pending = false; waited = 0; underrun = false }) ≡ true
unfolding accepted
start_accepted p ok t = let late = (good_says p ok).latency_least in grind (arith, nat_tests)

pub waited_small : (p : Numbers) (t : ℕ) (f : Progress) → good p ≡ true → accepted p t f ≡ true → f.waited < 65536
unfolding demand_of
waited_small p t f ok h = omega (arith, (accepted_kept p t f h).time, (good_says p ok).latency_most)

pub accepted_tick : (p : Numbers) (w : Bool) (t : ℕ) (f : Progress) → good p ≡ true → accepted p t f ≡ true → accepted p (suc t) (after_tick (demand_of p) w t f) ≡ true
accepted_tick p w t f ok h = kept_accepted p (suc t) _ (kept_tick (demand_of p) w t f (sound p ok) (accepted_kept p t f h))
