-- Frames run tick by tick follow the model from its start, and the screen gets what it says.
use Rattle.std.proofs.Common.{◌≡◌, ℕ, zero, suc, ◌+◌, ◌<◌, ◌≤◌, Bool, true, false, List, length, Some, None, Option, sym, refl, ap, ◌∙◌, subst, subst₂, ⊎_elim, add-zero, arith, Ok, Err, Result, IsOk}
use Rattle.std.proofs.lemmas.Bool.{cases_lt, or_from, or_right}
use Rattle.std.specs.Option.{option_or}
use Rattle.std.specs.Bool.{then_some}
use Rattle.timing.specs.Frame.{frame_ticks, taken}
use Rattle.timing.specs.declared.numbers.Numbers.{Numbers}
use Rattle.timing.specs.declared.plans.Plan.{Plan}
use Rattle.feeder.specs.Feed.{Follows, Ran, FirstUnderrun}
use Rattle.feeder.specs.Model.{begun, misses, after_answer, after_tick, after, outcome}
use Rattle.feeder.specs.Model as model
use Rattle.feeder.specs.Panel.{demand_of}
use Rattle.feeder.specs.Step.{plan_in, tick_in}
use Rattle.feeder.specs.declared.outcomes.Outcome.{Outcome}
use Rattle.feeder.specs.declared.outcomes.Outcome.TheVariants as given
use Rattle.feeder.specs.declared.states.Progress.{Progress}
use Rattle.feeder.proofs.Frames.{ran}
use Rattle.feeder.proofs.Laws.{tick_underrun}
use Rattle.fifo.specs.Frame.{Kept, Plays, Played}
use Rattle.playback.specs.Frame.{pixel_of, Served, pixel_in, Shown, Frames, underrun_in, FirstOf, PlayedAll}
use Rattle.fifo.specs.Gives.{exchange_of, is_missing}
use Rattle.fifo.specs.Script.{Script, willing, next_frame, after_frames}
use Rattle.fifo.specs.declared.fifos.Fifo.{Fifo}
use Rattle.fifo.specs.declared.pixels.Pixel.{Pixel}
use Rattle.fifo.specs.declared.refusals.Refusal.{Refusal}
use Rattle.fifo.specs.declared.refusals.Refusal.TheVariants.{Plan as Plan', State, Ring, Brought, Late}
use Rattle.playback.specs.declared.underruns.Underrun.{Underrun}

-- a tick of the frame with a ring that fits is not refused
pub never_stops : (script : Script) (a b : Fifo) (r r₁ : List ℕ) (x : Result Pixel Refusal) → length r ≡ (plan_in a.feeder.counts).capacity → tick_in a.feeder.counts < frame_ticks (plan_in a.feeder.counts) → Plays script a r x b r₁ → IsOk x
never_stops script a b r r₁ (Ok x) size inside h = refl
never_stops script a b r r₁ (Err (Plan' e)) size inside h = absurd h.1
never_stops script a b r r₁ (Err (State e)) size inside h = absurd (omega (arith, h.1.1))
never_stops script a b r r₁ (Err (Ring k)) size inside h = absurd (h.1.0 size)
never_stops script a b r r₁ (Err (Brought k)) size inside h = absurd h.1
never_stops script a b r r₁ (Err (Late t)) size inside h = absurd h.1

-- a pixel is missing just where the outcome is
missing_pixel : (o : Outcome) (x : ℕ) → is_missing (exchange_of o x).pixel ≡ model.is_missing o
missing_pixel (given.Dot n) x = refl
missing_pixel (given.Dark n) x = refl
missing_pixel (given.Missing n) x = refl

-- what a memory says that may say one thing only
pub said_is : (may : Bool → Bool) (said : Bool) → (may false ≡ true → may true ≡ false) → may said ≡ true → said ≡ may true
said_is may true decided h = sym h
said_is may false decided h = sym (decided h)

pub served : {S : Type 0} (accepts : S → Pixel → S → Type 0) (script : Script) (a : Fifo) (r : List ℕ) (x : Pixel) (b : Fifo) (r₁ : List ℕ) (s s₁ : S) (missing : Bool) →
    ((f t : ℕ) → script.may f t false ≡ true → script.may f t true ≡ false) → Played script a r x b r₁ → Kept a r (script.dots 0) → accepts s x s₁ → missing ≡ is_missing x → Served accepts script a s missing b r₁ s₁
unfolding pixel_of
served accepts script a r x b r₁ s s₁ missing decided played old shown miss =
    let p = plan_in a.feeder.counts in
    let t = tick_in a.feeder.counts in
    let f = subst (λ w. Follows a.feeder.counts w played.outcome b.feeder.counts) (said_is (script.may 0 t) played.willing (decided 0 t) played.said) played.follows in
    let gave : x ≡ (exchange_of (outcome (demand_of p) (willing script 0 t) t a.feeder.counts.progress) (script.dots 0 (taken p t))).pixel =
    (played.kept old).1 ∙ ap (λ o. (exchange_of o (script.dots 0 (taken p t))).pixel) f.outcome_is in
    let same : missing ≡ model.is_missing played.outcome =
    miss ∙ ap is_missing (played.kept old).1 ∙ missing_pixel _ (script.dots 0 (taken p t)) in
    record {
      ran = subst (λ m. Ran a.feeder.counts (willing script 0 t) m b.feeder.counts) (sym same) (ran _ _ _ played.outcome f);
      kept = (played.kept old).0;
      shown = subst (λ y. accepts s y s₁) gave shown;
    }

-- the first tick with a missing dot, among those before tick t
pub FirstBefore : Numbers → (ℕ → Bool) → ℕ → Option ℕ → Type 0
FirstBefore p w t None = (after (demand_of p) w t).underrun ≡ false
FirstBefore p w t (Some k) = FirstUnderrun p w (Some k)

first_before : (p : Numbers) (w : ℕ → Bool) (t : ℕ) (first : Option ℕ) (missing : Bool) → t < frame_ticks p → FirstBefore p w t first →
    missing ≡ misses (demand_of p) t (after_answer (demand_of p) (w t) (after (demand_of p) w t)) → FirstBefore p w (suc t) (option_or first (then_some missing t))
unfolding FirstBefore after
first_before p w t (Some k) missing inside before same = before
first_before p w t None true inside before same = (inside, before, tick_underrun (demand_of p) (w t) t (after (demand_of p) w t) ∙ or_right _ _ (sym same))
first_before p w t None false inside before same = tick_underrun (demand_of p) (w t) t (after (demand_of p) w t) ∙ or_from _ _ before (sym same)

pub first_whole : (p : Numbers) (w : ℕ → Bool) (first : Option ℕ) → FirstBefore p w (frame_ticks p) first → FirstUnderrun p w first
unfolding FirstBefore
first_whole p w None h = h
first_whole p w (Some k) h = h

-- before tick t of a frame
pub record Underway {S : Type 0} (accepts : S → Pixel → S → Type 0) (p : Numbers) (script : Script) (t : ℕ) (a : Fifo) (r : List ℕ) (from to : S) (first : Option ℕ) : Type 0 where
  pub plan : plan_in a.feeder.counts ≡ p
  pub tick : tick_in a.feeder.counts ≡ t
  pub progress : a.feeder.counts.progress ≡ after (demand_of p) (willing script 0) t
  pub kept : Kept a r (script.dots 0)
  pub shown : Shown accepts (pixel_in p (willing script 0) (script.dots 0)) t from to
  pub first_is : FirstBefore p (willing script 0) t first

pub underway_start : {S : Type 0} (accepts : S → Pixel → S → Type 0) (p : Numbers) (script : Script) (a : Fifo) (r : List ℕ) (s : S) →
    plan_in a.feeder.counts ≡ p → tick_in a.feeder.counts ≡ 0 → a.feeder.counts.progress ≡ begun → Underway accepts p script 0 a r s s None
unfolding after begun Shown FirstBefore
underway_start accepts p script a r s plan tick progress = record {
  plan = plan;
  tick = tick;
  progress = progress;
  kept = λ k low high. absurd (omega (arith, ap (λ (f : Progress). f.arrived) progress));
  shown = refl;
  first_is = refl;
}

module _ {S : Type 0} (accepts : S → Pixel → S → Type 0) (p : Numbers) (script : Script) (t : ℕ) (a : Fifo) (r : List ℕ) (from s : S) (first : Option ℕ)
    (u : Underway accepts p script t a r from s first) where
  pub underway_more : (b : Fifo) (r₁ : List ℕ) (s₁ : S) (missing : Bool) → t < frame_ticks p → Served accepts script a s missing b r₁ s₁ → Underway accepts p script (suc t) b r₁ from s₁ (option_or first (then_some missing t))
  unfolding after Shown pixel_in
  underway_more b r₁ s₁ missing inside served =
      let plan = u.plan in
      let tick = u.tick in
      let progress = u.progress in
      record {
        plan = ap (λ (q : Plan). q.numbers) served.ran.plan ∙ plan;
        tick = served.ran.tick ∙ ap suc tick;
        progress = served.ran.progress ∙ (cc);
        kept = served.kept;
        shown = (s, u.shown, subst (λ x. accepts s x s₁) (cc) served.shown);
        first_is = first_before p (willing script 0) t first missing inside u.first_is (served.ran.missing_is ∙ (cc));
      }

pub underway_over : {S : Type 0} (accepts : S → Pixel → S → Type 0) (p q : Numbers) (script : Script) (t : ℕ) (a : Fifo) (r : List ℕ) (from to : S) (first : Option ℕ) →
    Underway accepts p script t a r from to first → t ≡ frame_ticks p → p ≡ q → Shown accepts (pixel_in q (willing script 0) (script.dots 0)) (frame_ticks q) from to × FirstUnderrun q (willing script 0) first
underway_over accepts p q script t a r from to first u end same =
    subst (λ (n : Numbers). Shown accepts (pixel_in n (willing script 0) (script.dots 0)) (frame_ticks n) from to × FirstUnderrun n (willing script 0) first) same
    (subst (λ n. Shown accepts (pixel_in p (willing script 0) (script.dots 0)) n from to) end u.shown, first_whole p (willing script 0) first (subst (λ n. FirstBefore p (willing script 0) n first) end u.first_is))

-- frame n of a script is the first once n are over
later : (script : Script) (n f : ℕ) → ((after_frames n script).dots f ≡ script.dots (n + f)) × (willing (after_frames n script) f ≡ willing script (n + f))
unfolding after_frames
later script zero f = let e : f ≡ 0 + f = omega arith in (ap script.dots e, ap (willing script) e)
later script (suc n) f =
    let on = later script n (suc f) in
    let e : n + suc f ≡ suc n + f = omega arith in
    (on.0 ∙ ap script.dots e, on.1 ∙ ap (willing script) e)

pub frame_dots_at : (script : Script) (n : ℕ) → (after_frames n script).dots 0 ≡ script.dots n
frame_dots_at script n = (later script n 0).0 ∙ ap script.dots (add-zero n)

pub frame_willing_at : (script : Script) (n : ℕ) → willing (after_frames n script) 0 ≡ willing script n
frame_willing_at script n = (later script n 0).1 ∙ ap (willing script) (add-zero n)

first_more : (p : Numbers) (script : Script) (n : ℕ) (first : Option Underrun) (tick : Option ℕ) → FirstOf p script n first → FirstUnderrun p (willing script n) tick → FirstOf p script (suc n) (option_or first (underrun_in n tick))
first_more p script n (Some u) tick before here = (omega (arith, before.0), before.1, before.2)
first_more p script n None (Some t) before here = (omega arith, before, here)
first_more p script n None None before here = λ f h. ⊎_elim (before f) (λ (past : n ≤ f). let e : n ≡ f = omega arith in subst (λ k. FirstUnderrun p (willing script k) None) e here) (cases_lt f n)

-- after n frames
pub record Behind {S : Type 0} (accepts : S → Pixel → S → Type 0) (p : Numbers) (script now : Script) (n : ℕ) (from to : S) (first : Option Underrun) : Type 0 where
  pub memory : now ≡ after_frames n script
  pub frames : Frames accepts p script n from to
  pub first_is : FirstOf p script n first

pub behind_none : {S : Type 0} (accepts : S → Pixel → S → Type 0) (p : Numbers) (script : Script) (s : S) → Behind accepts p script script 0 s s None
unfolding after_frames Frames
behind_none accepts p script s = record { memory = refl; frames = refl; first_is = λ f h. absurd (omega arith) }

pub behind_more : {S : Type 0} (accepts : S → Pixel → S → Type 0) (p : Numbers) (script now next : Script) (n : ℕ) (from s s₁ : S) (first : Option Underrun) (tick : Option ℕ) →
    Behind accepts p script now n from s first → Shown accepts (pixel_in p (willing now 0) (now.dots 0)) (frame_ticks p) s s₁ → FirstUnderrun p (willing now 0) tick →
    next ≡ next_frame now → Behind accepts p script next (suc n) from s₁ (option_or first (underrun_in n tick))
unfolding Frames after_frames
behind_more accepts p script now next n from s s₁ first tick b shown here turned =
    let w : willing now 0 ≡ willing script n = ap (λ (k : Script). willing k 0) b.memory ∙ frame_willing_at script n in
    let dots : now.dots 0 ≡ script.dots n = ap (λ (k : Script). k.dots 0) b.memory ∙ frame_dots_at script n in
    record {
      memory = turned ∙ ap next_frame b.memory;
      frames = (s, b.frames, subst₂ (λ v d. Shown accepts (pixel_in p v d) (frame_ticks p) s s₁) w dots shown);
      first_is = first_more p script n first tick b.first_is (subst (λ v. FirstUnderrun p v tick) w here);
    }

pub behind_all : {M S : Type 0} (script : M → Script) (accepts : S → Pixel → S → Type 0) (p : Numbers) (n frames : ℕ) (m m₁ : M) (r : List ℕ) (from to : S) (first : Option Underrun) →
    Behind accepts p (script m) (script m₁) n from to first → n ≡ frames → length r ≡ p.capacity → PlayedAll script accepts p frames m r from first m₁ to
behind_all script accepts p n frames m m₁ r from to first b all size = subst (λ k. PlayedAll script accepts p k m r from first m₁ to) all (record {
  size = size;
  frames = b.frames;
  first_is = b.first_is;
  memory = b.memory;
})
