-- What the checks of lent numbers found, in terms of the counts that they became.
use Rattle.std.proofs.Common.{◌≡◌, ℕ, ◌+◌, ◌<◌, ◌≤◌, true, false, ◌&&◌, eqb, List, length, is_some, Some, None, Option, sym, refl, ap, ◌∙◌, subst, ap₂, arith}
use mathlib.Core.Path.{subst₃}
use Rattle.std.proofs.lemmas.Bool.{cond-false}
use Rattle.std.proofs.lemmas.Bool.Decides.{nat_tests}
use Rattle.timing.specs.Frame.{frame_ticks}
use Rattle.timing.specs.Good.{good}
use Rattle.timing.specs.Row.{numbers_in}
use Rattle.timing.specs.declared.numbers.Numbers.{Numbers}
use Rattle.timing.specs.Row as row
use Rattle.timing.specs.declared.refusals.PlanRefusal.{PlanRefusal}
use Rattle.timing.specs.declared.refusals.PlanRefusal.TheVariants.{TooShort, TooLong, OutOfRange}
use Rattle.timing.proofs.Rows.{refused_wrong}
use Rattle.feeder.specs.Lent.{tick_at, progress_at, state_refusal}
use Rattle.feeder.specs.Model.{answers}
use Rattle.feeder.specs.Panel.{demand_of}
use Rattle.feeder.specs.Step.{plan_in, tick_in}
use Rattle.feeder.specs.declared.counts.Counts.{Counts}
use Rattle.feeder.specs.declared.lent.StateRefusal.{StateRefusal}
use Rattle.feeder.specs.declared.states.Progress.{Progress}
use Rattle.feeder.proofs.Lents.{state_inside}
use Rattle.feeder.proofs.Plans.{accepted_kept}
use Rattle.fifo.specs.Entry.{Opened, Ready, Going, Exchanged, TickSays, brings}
use Rattle.fifo.specs.Refusal.{PlanOk, StateOk, may_bring, must_bring, Misfits, Refuses, refusal, refusal_number}
use Rattle.fifo.specs.declared.outs.Out.TheVariants.{Refused}
use Rattle.fifo.specs.declared.pixels.Exchange.{Exchange}
use Rattle.fifo.specs.declared.refusals.Refusal.{Refusal}
use Rattle.fifo.specs.declared.refusals.Refusal.TheVariants.{Plan, State, Ring, Brought, Late}

module _ (xs s : List ℕ) (m n : ℕ) (c : Counts) (opened : Opened xs s m c) where
  pub refused_brought : may_bring c.progress n ≡ false → Refuses xs s m n (Brought n)
  refused_brought wrong = (opened.plan_ok, opened.state_ok, opened.size, subst (λ (f : Progress). may_bring f n ≡ false) opened.progress_is wrong, refl)

  must_at : must_bring (plan_in c) c.progress n ≡ must_bring (numbers_in xs) (progress_at s) n
  must_at = ap₂ (λ (p : Numbers) (f : Progress). must_bring p f n) opened.plan_is opened.progress_is

  pub refused_late : may_bring c.progress n ≡ true → must_bring (plan_in c) c.progress n ≡ true → (t : ℕ) → t ≡ tick_in c → Refuses xs s m n (Late t)
  refused_late whole due t e =
      (opened.plan_ok, opened.state_ok, opened.size, subst (λ (f : Progress). may_bring f n ≡ true) opened.progress_is whole, sym must_at ∙ due, e ∙ opened.tick_is)

  pub ready : may_bring c.progress n ≡ true → must_bring (plan_in c) c.progress n ≡ false → Ready xs s m n c
  ready whole early = record { opened = opened; whole = subst (λ (f : Progress). may_bring f n ≡ true) opened.progress_is whole; early = sym must_at ∙ early }

-- what may be brought is an answer that the memory may give
allowed_from : (p : Numbers) (f : Progress) (n : ℕ) → may_bring f n ≡ true → must_bring p f n ≡ false → f.arrived ≤ f.requested → (answers (demand_of p) (brings n) f ≡ brings n) × (0 < n → f.arrived + n ≡ f.requested)
unfolding may_bring must_bring answers
allowed_from p f n whole early order = (grind (arith, nat_tests), grind (arith, nat_tests))

pub going : (xs s : List ℕ) (m n : ℕ) (c : Counts) → Ready xs s m n c → Going c m n
going xs s m n c r =
    let o = r.opened in
    let order = (accepted_kept (plan_in c) (tick_in c) c.progress c.ok).order in
    let f = allowed_from (plan_in c) c.progress n (subst (λ (g : Progress). may_bring g n ≡ true) (sym o.progress_is) r.whole) (must_at xs s m n c o ∙ r.early) order in
    let tick : tick_at s < frame_ticks (numbers_in xs) = state_inside (numbers_in xs) s o.state_ok in
    record { size = o.size ∙ ap (λ (p : Numbers). p.capacity) (sym o.plan_is); allowed = (omega (arith, tick, o.tick_is, ap frame_ticks o.plan_is), f.0); whole = f.1 }

-- the number of a refusal is the one that the first wrong thing has
state_some : (o : Option StateRefusal) (e : StateRefusal) → o ≡ Some e → is_some o ≡ true
state_some o e h = ap is_some h

plan_wrong : (xs : List ℕ) (e : PlanRefusal) → row.Refuses xs e → (eqb (length xs) 7 && good (numbers_in xs)) ≡ false
plan_wrong xs (TooShort k) h = let short = h.0 in grind (arith, nat_tests)
plan_wrong xs TooLong h = grind (arith, nat_tests)
plan_wrong xs (OutOfRange k low high) h = let wrong = refused_wrong xs k low high h in grind (arith, nat_tests)

pub refused_number : (xs s : List ℕ) (m n : ℕ) (e : Refusal) → Refuses xs s m n e → refusal xs s m n ≡ refusal_number e
unfolding refusal
refused_number xs s m n (Plan e) h = cond-false _ _ 1 (plan_wrong xs e h)
refused_number xs s m n (State e) h = let seven = h.0.0 in let ok = h.0.1 in let some = state_some _ e h.1 in grind (arith, nat_tests)
refused_number xs s m n (Ring k) h = let seven = h.0.0 in let ok = h.0.1 in let none = ap is_some h.1 in let size = h.2 in grind (arith, nat_tests)
refused_number xs s m n (Brought k) h = let seven = h.0.0 in let ok = h.0.1 in let none = ap is_some h.1 in let size = h.2 in let wrong = h.3 in grind (arith, nat_tests)
refused_number xs s m n (Late t) h = let seven = h.0.0 in let ok = h.0.1 in let none = ap is_some h.1 in let size = h.2 in let whole = h.3 in let due = h.4 in grind (arith, nat_tests)

pub ready_number : (xs s : List ℕ) (m n : ℕ) (c : Counts) → Ready xs s m n c → refusal xs s m n ≡ 0
unfolding refusal
ready_number xs s m n c r =
    let seven = r.opened.plan_ok.0 in
    let ok = r.opened.plan_ok.1 in
    let none = ap is_some r.opened.state_ok in
    let size = r.opened.size in
    let whole = r.whole in
    let early = r.early in
    grind (arith, nat_tests)

pub refused_says : (xs s r b s₁ r₁ : List ℕ) (m n : ℕ) (e : Refusal) → s₁ ≡ s → r₁ ≡ r → refusal xs s m n ≡ refusal_number e → TickSays (refusal xs s m n) xs s r b (Refused (refusal_number e)) s₁ r₁
refused_says xs s r b s₁ r₁ m n e es er h = subst (λ k. TickSays k xs s r b (Refused (refusal_number e)) s₁ r₁) (sym h) (by_number e) where
  by_number : (e : Refusal) → TickSays (refusal_number e) xs s r b (Refused (refusal_number e)) s₁ r₁
  by_number (Plan x) = (refl, es, er)
  by_number (State x) = (refl, es, er)
  by_number (Ring x) = (refl, es, er)
  by_number (Brought x) = (refl, es, er)
  by_number (Late x) = (refl, es, er)

pub ready_says : (xs s r b : List ℕ) (m n : ℕ) (c : Counts) (e : Exchange) (s₁ r₁ : List ℕ) → Ready xs s m n c → Exchanged (plan_in c) (tick_in c) c.progress r b e s₁ r₁ → (refusal xs s m n ≡ 0) × Exchanged (numbers_in xs) (tick_at s) (progress_at s) r b e s₁ r₁
ready_says xs s r b m n c e s₁ r₁ ready ticked = (
  ready_number xs s m n c ready,
  subst₃ (λ (p : Numbers) t (f : Progress). Exchanged p t f r b e s₁ r₁) ready.opened.plan_is ready.opened.tick_is ready.opened.progress_is ticked,
)

pub state_six : (p : Numbers) (s : List ℕ) → state_refusal p s ≡ None → length s ≡ 6
unfolding state_refusal
state_six p s h = grind (arith, nat_tests)

pub misfit_refuses : (xs s : List ℕ) (m n : ℕ) (e : Refusal) → Misfits xs s m e → Refuses xs s m n e
misfit_refuses xs s m n (Plan e) h = h
misfit_refuses xs s m n (State e) h = h
misfit_refuses xs s m n (Ring k) h = h
misfit_refuses xs s m n (Brought k) h = absurd h
misfit_refuses xs s m n (Late t) h = absurd h

pub misfit : (xs s : List ℕ) (m : ℕ) (e : Refusal) → Misfits xs s m e → PlanOk xs → StateOk xs s → m ≡ (numbers_in xs).capacity → ⊥
misfit xs s m (Plan e) h plan state size =
    let seven = plan.0 in
    let ok = plan.1 in
    let wrong = plan_wrong xs e h in
    let z : ◌≡◌ {A = ℕ} 0 1 = grind (arith, nat_tests) in omega arith
misfit xs s m (State e) h plan state size = let some = h.1 in let z : ◌≡◌ {A = ℕ} 0 1 = cc in omega arith
misfit xs s m (Ring k) h plan state size = h.2 size
misfit xs s m (Brought k) h plan state size = h
misfit xs s m (Late t) h plan state size = h
