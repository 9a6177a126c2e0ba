-- A tick of counts, a ring and what is brought is the one that is promised.
use Rattle.std.proofs.Common.{◌≡◌, ℕ, ◌+◌, ◌-◌, ◌%◌, ◌<◌, ◌≤◌, Bool, true, false, cond, List, length, get_or, None, Ok, sym, refl, ap, ◌∙◌, subst, ap₂, subst₂, ⊎_elim, add-one, arith, Err, Result, IsOk}
use Rattle.std.proofs.lemmas.Bool.{cond_both, cases_lt}
use Rattle.std.proofs.lemmas.Bool.Decides.{nat_tests}
use Rattle.timing.specs.Frame.{frame_ticks, taken}
use Rattle.timing.specs.declared.numbers.Numbers.{Numbers}
use Rattle.timing.specs.declared.plans.Plan.{Plan}
use Rattle.timing.proofs.Curves.{taken_rises}
use Rattle.timing.proofs.Goods.{good_says}
use Rattle.feeder.specs.Feed.{Fed}
use Rattle.feeder.specs.Lent.{tick_at, progress_at, state_refusal, state_of}
use Rattle.feeder.specs.Model.{Demand, answers, answered, waiting, after_answer, misses, outcome}
use Rattle.feeder.specs.Panel.{demand_of, Reached}
use Rattle.feeder.specs.Step.{plan_in, tick_in, Moved, Steps}
use Rattle.feeder.specs.declared.refusals.StepRefusal.{StepRefusal}
use Rattle.feeder.specs.declared.refusals.StepRefusal.TheVariants.{FrameOver, NotPending, Late}
use Rattle.feeder.specs.declared.counts.Counts.{Counts}
use Rattle.feeder.specs.declared.outcomes.Outcome.{Outcome}
use Rattle.feeder.specs.declared.outcomes.Outcome.TheVariants as given
use Rattle.feeder.specs.declared.states.Progress.{Progress}
use Rattle.feeder.proofs.Laws.{tick_arrived}
use Rattle.feeder.proofs.Lents.{progress_back, tick_back, marks_back, accepted_back}
use Rattle.feeder.proofs.Plans.{accepted_kept}
use Rattle.feeder.proofs.Reach.{reached_tick, steps_fed}
use Rattle.fifo.specs.Entry.{Going, Exchanged, Ticked, NotMissing, brings, out_of}
use Rattle.fifo.specs.Gives.{exchange_of, is_missing, out_with, out_from}
use Rattle.fifo.specs.Ring.{filled, Holds, Continues}
use Rattle.fifo.specs.declared.pixels.Exchange.{Exchange}
use Rattle.fifo.specs.declared.pixels.Pixel.{Pixel}
use Rattle.fifo.specs.declared.pixels.Pixel.TheVariants.{Dot, Dark, Missing}
use Rattle.fifo.proofs.Places.{holds_filled}

-- what has arrived after the answer is what had, and what is brought
pub arrived_by : (d : Demand) (w : Bool) (f : Progress) → answers d w f ≡ w → f.arrived ≤ f.requested → (after_answer d w f).arrived ≡ f.arrived + cond w (f.requested - f.arrived) 0
unfolding after_answer answered waiting
arrived_by d w f allowed order =
    cond_both (answers d w f) (answered f) (waiting f) (λ (x : Progress). x.arrived ≡ f.arrived + cond w (f.requested - f.arrived) 0)
    (λ hit. let on : w ≡ true = sym allowed ∙ hit in rw on (omega arith))
    (λ none. let off : w ≡ false = sym allowed ∙ none in rw off (omega arith))

all_brought : (f : Progress) (n : ℕ) → (0 < n → f.arrived + n ≡ f.requested) → cond (brings n) (f.requested - f.arrived) 0 ≡ n
all_brought f n whole = grind (arith, nat_tests)

-- which dot is answered matters only where one is given, and then it has arrived
pub same_exchange : (o : Outcome) (x y : ℕ) → ((n : ℕ) → o ≡ given.Dot n → x ≡ y) → exchange_of o x ≡ exchange_of o y
same_exchange (given.Dot n) x y h = ap (λ z. exchange_of (given.Dot n) z) (h n refl)
same_exchange (given.Dark n) x y h = refl
same_exchange (given.Missing n) x y h = refl

pub fed_pixel : (o : Outcome) (x : ℕ) → Fed o → is_missing (exchange_of o x).pixel ≡ false
fed_pixel (given.Dot n) x h = refl
fed_pixel (given.Dark n) x h = refl
fed_pixel (given.Missing n) x h = absurd h

pub dot_arrived : (d : Demand) (w : Bool) (t : ℕ) (f : Progress) (n : ℕ) → outcome d w t f ≡ given.Dot n → d.need t < (after_answer d w f).arrived
unfolding outcome misses
dot_arrived d w t f n h = grind (arith, nat_tests)

-- what is brought has room in the ring
pub few : (c : Counts) (m n : ℕ) → Going c m n → n ≤ m
unfolding demand_of
few c m n going =
    let k = accepted_kept (plan_in c) (tick_in c) c.progress c.ok in
    let g = good_says (plan_in c) c.scan.plan.ok in
    ⊎_elim (λ (some : 0 < n). omega (arith, going.whole some, k.burst, g.burst_most, going.size)) (λ (none : n ≤ 0). omega arith) (cases_lt 0 n)

-- and such a tick is never refused
pub never_refused : (c c₁ : Counts) (m n : ℕ) (r : Result Outcome StepRefusal) → Going c m n → Steps c (brings n) r c₁ → IsOk r
unfolding answers demand_of
never_refused c c₁ m n (Ok o) going h = refl
never_refused c c₁ m n (Err FrameOver) going h = absurd (omega (arith, going.allowed.0, h.1))
never_refused c c₁ m n (Err NotPending) going h = let w = h.1.1 in let off = h.1.2 in let allowed = going.allowed.1 in grind (arith, nat_tests)
never_refused c c₁ m n (Err (Late t)) going h = let w = h.1.1 in let on = h.1.2 in let due = h.1.3 in let allowed = going.allowed.1 in grind (arith, nat_tests)

module _ (c c₁ : Counts) (r b : List ℕ) (o : Outcome) (going : Going c (length r) (length b)) (moved : Moved c (brings (length b)) o c₁) where
  after_brought : (after_answer (demand_of (plan_in c)) (brings (length b)) c.progress).arrived ≡ c.progress.arrived + length b
  after_brought =
      arrived_by (demand_of (plan_in c)) (brings (length b)) c.progress going.allowed.1 (accepted_kept (plan_in c) (tick_in c) c.progress c.ok).order
      ∙ ap (λ n. c.progress.arrived + n) (all_brought c.progress (length b) going.whole)

  now_arrived : (progress_at (state_of c₁)).arrived ≡ c.progress.arrived + length b
  now_arrived =
      ap (λ (f : Progress). f.arrived) (progress_back c₁ ∙ moved.progress) ∙ tick_arrived _ _ _ _ ∙ after_brought

  room : c.progress.arrived + length b ≤ taken (plan_in c) (tick_in c) + length r
  unfolding demand_of
  room =
      let k = accepted_kept (plan_in c) (tick_in c) c.progress c.ok in
      ⊎_elim (λ (some : 0 < length b). omega (arith, going.whole some, k.room, going.size)) (λ (none : length b ≤ 0). omega (arith, k.order, k.room, going.size)) (cases_lt 0 (length b))

  holds : (picture : ℕ → ℕ) → Holds (length r) (taken (plan_in c) (tick_in c)) c.progress.arrived r picture → Continues b c.progress.arrived picture →
      Holds (length r) (taken (plan_in c) (tick_in c)) (c.progress.arrived + length b) (filled (length r) c.progress.arrived b r) picture
  holds picture old new = holds_filled (length r) _ c.progress.arrived b r picture refl room (few c (length r) (length b) going) old new

  pub ticked : (e : Exchange) (s₁ r₁ : List ℕ) → r₁ ≡ filled (length r) c.progress.arrived b r → s₁ ≡ state_of c₁ → e ≡ exchange_of o (get_or r₁ (taken (plan_in c) (tick_in c) % length r) 0) →
      Exchanged (plan_in c) (tick_in c) c.progress r b e s₁ r₁
  unfolding demand_of
  ticked e s₁ r₁ er es eo =
      let p = plan_in c in
      let t = tick_in c in
      let d = demand_of p in
      let tick : tick_at s₁ ≡ t + 1 = ap tick_at es ∙ tick_back c₁ ∙ moved.tick in
      let progress : progress_at s₁ ≡ c₁.progress = ap progress_at es ∙ progress_back c₁ in
      let marks = marks_back c₁ in
      let later : taken p t ≤ taken p (t + 1) = taken_rises p t (t + 1) (omega arith) in
      let arrived : (progress_at s₁).arrived ≡ c.progress.arrived + length b = ap (λ l. (progress_at l).arrived) es ∙ now_arrived in
      let plan : c₁.scan.plan.numbers ≡ p = ap (λ (q : Plan). q.numbers) moved.plan in
      record {
        six = ap length es ∙ marks.0;
        marks = subst (λ l. (get_or l 3 0 ≤ 1) × (get_or l 5 0 ≤ 1)) (sym es) (marks.1, marks.2);
        tick = tick;
        feeder = progress ∙ moved.progress;
        ring = er ∙ ap (λ m. filled m c.progress.arrived b r) going.size;
        gives = eo ∙ ap₂ (λ q m. exchange_of q (get_or r₁ (taken p t % m) 0)) moved.outcome_is going.size;
        picture = λ dots old new.
            let full : Holds (length r) (taken p t) (c.progress.arrived + length b) r₁ dots =
            subst (λ l. Holds (length r) (taken p t) (c.progress.arrived + length b) l dots) (sym er) (holds dots (subst (λ m. Holds m (taken p t) c.progress.arrived r dots) (sym going.size) old) new) in
            let given_dot : (n : ℕ) → o ≡ given.Dot n → get_or r₁ (taken p t % length r) 0 ≡ dots (taken p t) = λ n e.
            let here = dot_arrived d (brings (length b)) t c.progress n (sym moved.outcome_is ∙ e) in
            full (taken p t) (omega arith) (omega (arith, after_brought)) in (
              (λ k low high. subst (λ m. get_or r₁ (k % m) 0 ≡ dots k) going.size (full k (omega arith) (omega arith))),
              eo ∙ same_exchange o _ (dots (taken p t)) given_dot ∙ ap (λ q. exchange_of q (dots (taken p t))) moved.outcome_is,
            );
        again = λ inside.
            let there : c₁.scan.at.tick < frame_ticks c₁.scan.plan.numbers = omega (arith, moved.tick, ap frame_ticks plan) in
            subst₂ (λ (q : Numbers) l. state_refusal q l ≡ None) plan (sym es) (accepted_back c₁ there);
        reached = λ reached. subst₂ (λ n (f : Progress). Reached p n f) (sym (add-one t)) (sym (progress ∙ moved.progress)) (reached_tick p t c.progress (brings (length b)) reached);
        fed = λ reached fast. ap (λ (x : Exchange). is_missing x.pixel) eo ∙ fed_pixel o _ (steps_fed c c₁ (brings (length b)) (Ok o) moved reached fast);
      }

-- and so is the one that is answered to whoever lent the numbers
out_exchange : (o : Outcome) (x : ℕ) → out_from (exchange_of o x) ≡ out_of o x
out_exchange (given.Dot n) x = refl
out_exchange (given.Dark n) x = refl
out_exchange (given.Missing n) x = refl

not_missing : (x : Pixel) (n : ℕ) → is_missing x ≡ false → NotMissing (out_with x n)
not_missing (Dot x) n h = tt
not_missing Dark n h = tt
not_missing Missing n h = let z : ◌≡◌ {A = ℕ} 0 1 = cc in absurd (omega arith)

pub ticked_out : (p : Numbers) (t : ℕ) (f : Progress) (r b : List ℕ) (e : Exchange) (s₁ r₁ : List ℕ) → Exchanged p t f r b e s₁ r₁ → Ticked p t f r b (out_from e) s₁ r₁
ticked_out p t f r b e s₁ r₁ k = record {
  six = k.six;
  marks = k.marks;
  tick = k.tick;
  feeder = k.feeder;
  ring = k.ring;
  gives = ap out_from k.gives ∙ out_exchange _ _;
  picture = λ dots old new. let held = k.picture dots old new in (held.0, ap out_from held.1 ∙ out_exchange _ _);
  again = k.again;
  reached = k.reached;
  fed = λ reached fast. not_missing e.pixel e.requested (k.fed reached fast);
}
