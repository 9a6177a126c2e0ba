-- A tick of the typed FIFO: its places go on with the feeder, and its ring goes on holding the memory's picture.
use Rattle.std.proofs.Common.{◌≡◌, ℕ, suc, ◌+◌, ◌-◌, ◌%◌, ◌<◌, ◌≤◌, Bool, true, false, cond, leb, List, length, get_or, Ok, Err, sym, refl, ap, ◌∙◌, subst, ap₂, ⊎_elim, mod-lt, arith, Result, IsOk}
use Rattle.std.specs.Int.{from_bool}
use native.Mathlib.Nat.{mod-add-mod}
use Rattle.std.proofs.lemmas.Bool.{cases_Bool, leb-false}
use Rattle.timing.specs.Frame.{takes, taken, frame_ticks}
use Rattle.timing.specs.declared.numbers.Numbers.{Numbers}
use Rattle.timing.specs.declared.plans.Plan.{Plan}
use Rattle.timing.proofs.Curves.{taken_when, taken_unless}
use Rattle.timing.proofs.Goods.{good_says, small}
use Rattle.feeder.specs.Feed.{Follows}
use Rattle.feeder.specs.Model.{answers, after_answer, uses, misses, outcome, requests, takes_dot}
use Rattle.feeder.specs.Panel.{demand_of}
use Rattle.feeder.specs.Step.{plan_in, tick_in, Moved, Steps}
use Rattle.feeder.specs.declared.counts.Counts.{Counts}
use Rattle.feeder.specs.declared.outcomes.Outcome.{Outcome}
use Rattle.feeder.specs.declared.outcomes.Outcome.TheVariants as given
use Rattle.feeder.specs.declared.refusals.StepRefusal.{StepRefusal}
use Rattle.feeder.specs.declared.states.Progress.{Progress}
use Rattle.feeder.proofs.Laws.{tick_arrived}
use Rattle.feeder.proofs.Plans.{accepted_kept, by_plan}
use Rattle.feeder.proofs.Reach.{follows}
use Rattle.fifo.specs.Frame.{Kept, takes_of, Played}
use Rattle.fifo.specs.Gives.{exchange_of}
use Rattle.fifo.specs.Ring.{Holds, Loaded}
use Rattle.fifo.specs.Script.{Script}
use Rattle.fifo.specs.declared.fifos.Fifo.{Fifo}
use Rattle.fifo.specs.declared.pixels.Exchange.{Exchange}
use Rattle.fifo.specs.declared.pixels.Pixel.{Pixel}
use Rattle.fifo.proofs.Places.{holds_loaded}
use Rattle.fifo.proofs.Ticks.{arrived_by, dot_arrived, same_exchange}

-- what a FIFO's numbers are in a ring of m places
pub record Placed (a : Fifo) (m : ℕ) : Type 0 where
  pub some : 0 < m
  pub small : m ≤ 65536
  pub order : a.feeder.counts.progress.arrived ≤ a.feeder.counts.progress.requested
  pub few : a.feeder.counts.progress.requested ≤ a.feeder.counts.progress.arrived + m
  pub fits : a.feeder.counts.progress.requested < 4294967296
  pub room : a.feeder.counts.progress.requested ≤ taken (plan_in a.feeder.counts) (tick_in a.feeder.counts) + m
  pub head : a.head ≡ taken (plan_in a.feeder.counts) (tick_in a.feeder.counts) % m
  pub tail : a.tail ≡ a.feeder.counts.progress.arrived % m
  pub head_inside : a.head < m
  pub tail_inside : a.tail < m

pub placed : (a : Fifo) (m : ℕ) → m ≡ (plan_in a.feeder.counts).capacity → Placed a m
unfolding demand_of
placed a m size =
    let c = a.feeder.counts in
    let k = accepted_kept (plan_in c) (tick_in c) c.progress c.ok in
    let g = good_says (plan_in c) c.scan.plan.ok in
    let some : 0 < m = omega (arith, g.burst_least, g.burst_most) in
    let head : a.head ≡ taken (plan_in c) (tick_in c) % m = a.headed ∙ ap (λ n. taken (plan_in c) (tick_in c) % n) (sym size) in
    let tail : a.tail ≡ c.progress.arrived % m = a.tailed ∙ ap (λ n. c.progress.arrived % n) (sym size) in
    record {
      some = some;
      small = omega (arith, g.capacity_most);
      order = k.order;
      few = omega (arith, k.burst, g.burst_most);
      fits = omega (arith, k.total, (small (plan_in c) c.scan.plan.ok).dots_most);
      room = omega (arith, k.room);
      head = head;
      tail = tail;
      head_inside = omega (arith, mod-lt (taken (plan_in c) (tick_in c)) some);
      tail_inside = omega (arith, mod-lt c.progress.arrived some);
    }

-- an outcome takes a dot just where the panel does
takes_given : (u m : Bool) (n : ℕ) → takes_of (cond u (cond m (given.Missing n) (given.Dot n)) (given.Dark n)) ≡ cond u 1 0
takes_given true true n = refl
takes_given true false n = refl
takes_given false m n = refl

pub takes_outcome : (p : Numbers) (w : Bool) (t : ℕ) (f : Progress) → taken p (suc t) ≡ taken p t + takes_of (outcome (demand_of p) w t f)
unfolding outcome
takes_outcome p w t f =
    let given_takes = takes_given (uses (demand_of p) t) (misses (demand_of p) t (after_answer (demand_of p) w f)) (requests (demand_of p) w t f) in
    let same = (by_plan p).uses_is t in
    ⊎_elim
    (λ (hit : takes p t ≡ true). taken_when p t hit ∙ ap (λ n. taken p t + n) (sym (given_takes ∙ ap (λ b. cond b 1 0) (same ∙ hit))))
    (λ (none : takes p t ≡ false). let z = given_takes ∙ ap (λ b. cond b 1 0) (same ∙ none) in omega (arith, taken_unless p t none, z))
    (cases_Bool (takes p t))

pub at_most : (b : Bool) (x : ℕ) → cond b x 0 ≤ x
at_most true x = omega arith
at_most false x = omega arith

module _ (a : Fifo) (c₁ : Counts) (r r₁ : List ℕ) (script : Script) (brought : Bool) (o : Outcome) (n : ℕ)
    (size : length r ≡ (plan_in a.feeder.counts).capacity) (moved : Moved a.feeder.counts brought o c₁) (count : n ≡ cond brought (a.feeder.counts.progress.requested - a.feeder.counts.progress.arrived) 0) where
  now_arrived : c₁.progress.arrived ≡ a.feeder.counts.progress.arrived + n
  now_arrived =
      let c = a.feeder.counts in
      ap (λ (f : Progress). f.arrived) moved.progress ∙ tick_arrived _ _ _ _ ∙ arrived_by (demand_of (plan_in c)) brought c.progress moved.allowed.1 (placed a (length r) size).order
      ∙ ap (λ k. c.progress.arrived + k) (sym count)

  now_taken : taken (plan_in c₁) (tick_in c₁) ≡ taken (plan_in a.feeder.counts) (tick_in a.feeder.counts) + takes_of o
  now_taken =
      let c = a.feeder.counts in
      let tick : tick_in c₁ ≡ suc (tick_in c) = omega (arith, moved.tick) in
      ap₂ taken (ap (λ (q : Plan). q.numbers) moved.plan) tick ∙ takes_outcome (plan_in c) brought (tick_in c) c.progress ∙ ap (λ q. taken (plan_in c) (tick_in c) + takes_of q) (sym moved.outcome_is)

  -- the places go on as the counts do
  pub next_head : (h : ℕ) → h ≡ (a.head + takes_of o) % length r → h ≡ taken (plan_in c₁) (tick_in c₁) % (plan_in c₁).capacity
  next_head h e =
      let place = placed a (length r) size in
      let sizes : length r ≡ (plan_in c₁).capacity = size ∙ ap (λ (q : Plan). q.numbers.capacity) (sym moved.plan) in
      e ∙ ap (λ k. (k + takes_of o) % length r) place.head ∙ mod-add-mod _ (length r) (takes_of o) ∙ ap₂ ◌%◌ (sym now_taken) sizes

  pub next_tail : (h : ℕ) → h ≡ (a.tail + n) % length r → h ≡ c₁.progress.arrived % (plan_in c₁).capacity
  next_tail h e =
      let place = placed a (length r) size in
      let sizes : length r ≡ (plan_in c₁).capacity = size ∙ ap (λ (q : Plan). q.numbers.capacity) (sym moved.plan) in
      e ∙ ap (λ k. (k + n) % length r) place.tail ∙ mod-add-mod _ (length r) n ∙ ap₂ ◌%◌ (sym now_arrived) sizes

  -- what is brought has room
  pub count_few : n ≤ length r
  count_few = omega (arith, count, at_most brought (a.feeder.counts.progress.requested - a.feeder.counts.progress.arrived), (placed a (length r) size).few)

  arrived_room : a.feeder.counts.progress.arrived + n ≤ taken (plan_in a.feeder.counts) (tick_in a.feeder.counts) + length r
  arrived_room =
      let place = placed a (length r) size in
      omega (arith, count, at_most brought (a.feeder.counts.progress.requested - a.feeder.counts.progress.arrived), place.room, place.order)

  full : Loaded (script.dots 0) a.feeder.counts.progress.arrived n r r₁ → Kept a r (script.dots 0) →
      Holds (length r) (taken (plan_in a.feeder.counts) (tick_in a.feeder.counts)) (a.feeder.counts.progress.arrived + n) r₁ (script.dots 0)
  full l old = holds_loaded _ a.feeder.counts.progress.arrived n r r₁ (script.dots 0) arrived_room l old

  pub played : (b : Fifo) (x : Pixel) (willing : Bool) → b.feeder.counts ≡ c₁ → script.may 0 (tick_in a.feeder.counts) willing ≡ true → brought ≡ answers (demand_of (plan_in a.feeder.counts)) willing a.feeder.counts.progress →
      Loaded (script.dots 0) a.feeder.counts.progress.arrived n r r₁ → x ≡ (exchange_of o (get_or r₁ a.head 0)).pixel → Played script a r x b r₁
  unfolding demand_of
  played b x willing same said answer l ex =
      let c = a.feeder.counts in
      let p = plan_in c in
      let t = tick_in c in
      let place = placed a (length r) size in
      record {
        willing = willing;
        said = said;
        outcome = o;
        follows = subst (λ (k : Counts). Follows c willing o k) (sym same) (follows c c₁ willing brought (Ok o) answer moved);
        size = l.size;
        kept = λ old.
            let hit : (k : ℕ) → o ≡ given.Dot k → get_or r₁ a.head 0 ≡ script.dots 0 (taken p t) = λ k e.
            let got = dot_arrived (demand_of p) brought t c.progress k (sym moved.outcome_is ∙ e) in
            let now = sym (tick_arrived (demand_of p) brought t c.progress) ∙ sym (ap (λ (f : Progress). f.arrived) moved.progress) ∙ now_arrived in
            ap (λ j. get_or r₁ j 0) place.head ∙ full l old (taken p t) (omega arith) (omega (arith, now)) in (
              (λ k low high.
                  let from : taken p t ≤ k = omega (arith, now_taken, ap (λ (q : Counts). taken (plan_in q) (tick_in q)) same) in
                  let to : k < c.progress.arrived + n = omega (arith, now_arrived, ap (λ (q : Counts). q.progress.arrived) same) in
                  ap (λ m. get_or r₁ (k % m) 0) l.size ∙ full l old k from to),
              ex ∙ ap (λ (e : Exchange). e.pixel) (same_exchange o _ _ hit),
            );
      }

-- an answer that the memory may give is never refused before the frame's end
pub never_stuck : (c c₁ : Counts) (willing brought : Bool) (r : Result Outcome StepRefusal) → brought ≡ answers (demand_of (plan_in c)) willing c.progress → Steps c brought r c₁ → tick_in c < frame_ticks (plan_in c) → IsOk r
never_stuck c c₁ willing brought (Ok o) answer h inside = refl
never_stuck c c₁ willing brought (Err e) answer h inside = absurd (omega (arith, (follows c c₁ willing brought (Err e) answer h).0))

-- what the reading of a burst asks
pub record Brings (f : Progress) (m at : ℕ) : Type 0 where
  pub order : f.arrived ≤ f.requested
  pub few : f.requested ≤ f.arrived + m
  pub place : at ≡ f.arrived % m
  pub inside : at < m
  pub fits : f.requested < 4294967296

pub brings_from : (a : Fifo) (m : ℕ) → Placed a m → Brings a.feeder.counts.progress m a.tail
brings_from a m p = record { order = p.order; few = p.few; place = p.tail; inside = p.tail_inside; fits = p.fits }

pub not_over : (c now : Counts) → c ≡ now → false ≡ leb (frame_ticks (plan_in c)) (tick_in c) → tick_in now < frame_ticks (plan_in now)
not_over c now e h = leb-false _ _ (sym (h ∙ ap (λ (k : Counts). leb (frame_ticks (plan_in k)) (tick_in k)) e))

pub takes_few : (o : Outcome) → takes_of o ≤ 1
takes_few (given.Dot n) = omega arith
takes_few (given.Dark n) = omega arith
takes_few (given.Missing n) = omega arith

pub takes_as : (o : Outcome) → from_bool (takes_dot o) ≡ takes_of o
takes_as (given.Dot n) = refl
takes_as (given.Dark n) = refl
takes_as (given.Missing n) = refl
