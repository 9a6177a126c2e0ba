-- What the panel gets in a frame: each dot in its own tick or missing in it, and by a plan in time none is.
use Rattle.std.proofs.Common.{◌≡◌, ℕ, ◌≤◌, Bool, true, false, cond, sym, refl, ap, ◌∙◌, ap₂, inl, inr, ⊎_elim, arith}
use Rattle.std.proofs.lemmas.Bool.{cases_Bool, cases_lt}
use Rattle.timing.specs.Frame.{frame_ticks, takes, taken, index, InFrame, tick_of}
use Rattle.timing.specs.Good.{good}
use Rattle.timing.specs.declared.dots.Dot as place
use Rattle.timing.specs.declared.numbers.Numbers.{Numbers}
use Rattle.timing.proofs.Curves.{taken_all, taken_rises}
use Rattle.timing.proofs.Whens.{taken_in}
use Rattle.feeder.specs.Model.{uses, misses, after_answer, after, outcome, requests}
use Rattle.feeder.specs.Panel.{demand_of, in_time}
use Rattle.feeder.specs.declared.outcomes.Outcome.TheVariants as given
use Rattle.feeder.proofs.Laws.{kept, never_missing, never_late, all_arrive}
use Rattle.feeder.proofs.Plans.{sound, timely, by_plan}
use Rattle.playback.specs.Frame.{pixel_of, pixel_in, InPlace, Complete}
use Rattle.fifo.specs.Gives.{exchange_of}
use Rattle.fifo.specs.declared.pixels.Pixel.TheVariants.{Dot, Dark, Missing}

pixel_given : (u m : Bool) (n x : ℕ) → (exchange_of (cond u (cond m (given.Missing n) (given.Dot n)) (given.Dark n)) x).pixel ≡ cond u (cond m Missing (Dot x)) Dark
pixel_given true true n x = refl
pixel_given true false n x = refl
pixel_given false m n x = refl

module _ (p : Numbers) (w : ℕ → Bool) (picture : ℕ → ℕ) where
  missing_in : ℕ → Bool
  missing_in t = misses (demand_of p) t (after_answer (demand_of p) (w t) (after (demand_of p) w t))

  pixel_is : (t : ℕ) → pixel_in p w picture t ≡ cond (takes p t) (cond (missing_in t) Missing (Dot (picture (taken p t)))) Dark
  unfolding pixel_in pixel_of outcome missing_in
  pixel_is t =
      pixel_given (uses (demand_of p) t) (missing_in t) (requests (demand_of p) (w t) t (after (demand_of p) w t)) (picture (taken p t))
      ∙ ap (λ b. cond b (cond (missing_in t) Missing (Dot (picture (taken p t)))) Dark) ((by_plan p).uses_is t)

  -- in its own tick a dot is missing or the picture's
  own_pixel : (d : place.Dot) → InFrame p d → pixel_in p w picture (tick_of p d) ≡ cond (missing_in (tick_of p d)) Missing (Dot (picture (index p d)))
  own_pixel d inside =
      let there = (taken_in p d (tick_of p d) inside refl).here in
      pixel_is (tick_of p d) ∙ ap₂ (λ b k. cond b (cond (missing_in (tick_of p d)) Missing (Dot (picture k))) Dark) there.0 there.1

  pub in_place : good p ≡ true → InPlace p w picture
  unfolding demand_of
  in_place ok = record {
    own = λ d inside. ⊎_elim
        (λ hit. inr (own_pixel d inside ∙ ap (λ b. cond b Missing (Dot (picture (index p d)))) hit))
        (λ none. inl (own_pixel d inside ∙ ap (λ b. cond b Missing (Dot (picture (index p d)))) none))
        (cases_Bool (missing_in (tick_of p d)));
    once = λ d inside. (taken_in p d (tick_of p d) inside refl).only;
    dark = λ t none. pixel_is t ∙ ap (λ b. cond b (cond (missing_in t) Missing (Dot (picture (taken p t)))) Dark) none;
    room = λ t. (kept (demand_of p) w t (sound p ok)).room;
  }

  -- a pixel of which no dot is missing
  not_missing : (u : Bool) (x : ℕ) → cond u (cond false Missing (Dot x)) Dark ≡ Missing → ⊥
  not_missing true x e = let z : ◌≡◌ {A = ℕ} 0 1 = cc in omega arith
  not_missing false x e = let z : ◌≡◌ {A = ℕ} 0 1 = cc in omega arith

  pub complete : good p ≡ true → in_time p ≡ true → Complete p w picture
  unfolding demand_of missing_in
  complete ok fast =
      let none : (t : ℕ) → missing_in t ≡ false = never_missing (demand_of p) (sound p ok) (timely p fast) w in
      let end = all_arrive (demand_of p) w (frame_ticks p) (sound p ok) (taken_all p) (never_late (demand_of p) (sound p ok) (timely p fast) w (frame_ticks p)) in
      record {
        own = λ d inside. own_pixel d inside ∙ ap (λ b. cond b Missing (Dot (picture (index p d)))) (none (tick_of p d));
        order = λ d e here there before. ⊎_elim (λ h. h)
            (λ (late : tick_of p e ≤ tick_of p d).
            let one = (taken_in p d (tick_of p d) here refl).here.1 in
            let two = (taken_in p e (tick_of p e) there refl).here.1 in
            absurd (omega (arith, taken_rises p _ _ late)))
            (cases_lt (tick_of p d) (tick_of p e));
        never = λ t e. not_missing (takes p t) (picture (taken p t)) (ap (λ b. cond (takes p t) (cond b Missing (Dot (picture (taken p t)))) Dark) (sym (none t)) ∙ sym (pixel_is t) ∙ e);
        all = end.0;
        idle = end.1;
      }
