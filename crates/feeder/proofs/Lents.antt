-- Six numbers with nothing wrong are those of a feeder.
use Rattle.std.proofs.Common.{◌≡◌, ℕ, ◌<◌, ◌≤◌, Bool, true, false, cond, eqb, leb, List, [], ◌∷◌, ◌++◌, length, get_or, Some, None, sym, refl, ◌∙◌, subst, ap₂, arith}
use Rattle.std.proofs.lemmas.Bool.Decides.{nat_tests}
use Rattle.timing.specs.Frame.{frame_ticks}
use Rattle.timing.specs.declared.numbers.Numbers.{Numbers}
use Rattle.feeder.specs.Lent.{tick_at, progress_at, first_wrong, length_wrongs, mark_wrongs, count_wrongs, state_refusal, mark_refusal, count_refusal, state_of}
use Rattle.feeder.specs.Panel.{accepted}
use Rattle.feeder.specs.declared.counts.Counts.{Counts}
use Rattle.feeder.specs.declared.lent.StateRefusal.{StateRefusal}
use Rattle.feeder.specs.declared.lent.StateRefusal.TheVariants.{TooShort, TooLong}
use Rattle.feeder.specs.declared.states.Progress.{Progress}

pub counts_right : (p : Numbers) (t : ℕ) (f : Progress) → count_refusal p t f ≡ None → accepted p t f ≡ true
unfolding count_refusal accepted
counts_right p t f h = grind (arith, nat_tests)

-- what is wrong first in the whole is what is wrong first in the first part that has something wrong
pub first_after : (xs ys : List (Bool × StateRefusal)) → first_wrong xs ≡ None → first_wrong (xs ++ ys) ≡ first_wrong ys
first_after [] ys h = refl
first_after ((true, e) ∷ xs) ys h = absurd (let z : ◌≡◌ {A = ℕ} 0 1 = cc in omega arith)
first_after ((false, e) ∷ xs) ys h = first_after xs ys h

pub first_within : (xs ys : List (Bool × StateRefusal)) (e : StateRefusal) → first_wrong xs ≡ Some e → first_wrong (xs ++ ys) ≡ Some e
first_within [] ys e h = absurd (let z : ◌≡◌ {A = ℕ} 0 1 = cc in omega arith)
first_within ((true, x) ∷ xs) ys e h = h
first_within ((false, x) ∷ xs) ys e h = first_within xs ys e h

module _ (p : Numbers) (s : List ℕ) where
  pub too_short : length s < 6 → state_refusal p s ≡ Some (TooShort (length s))
  unfolding state_refusal
  too_short h = grind (arith, nat_tests)

  pub too_long : 6 < length s → state_refusal p s ≡ Some TooLong
  unfolding state_refusal
  too_long h = grind (arith, nat_tests)

  -- six numbers are refused for the tick and the marks first, and then for the counts
  six : length s ≡ 6 → first_wrong (length_wrongs (length s)) ≡ None
  six h = grind (arith, nat_tests)

  pub at_marks : (e : StateRefusal) → length s ≡ 6 → mark_refusal (leb (frame_ticks p) (tick_at s)) (get_or s 3 0) (get_or s 5 0) ≡ Some e → state_refusal p s ≡ Some e
  unfolding state_refusal mark_refusal
  at_marks e h wrong =
      let marks = mark_wrongs (leb (frame_ticks p) (tick_at s)) (get_or s 3 0) (get_or s 5 0) in
      let counts = count_wrongs p (tick_at s) (progress_at s) in
      first_after (length_wrongs (length s)) (marks ++ counts) (six h) ∙ first_within marks counts e wrong

  pub at_counts : length s ≡ 6 → mark_refusal (leb (frame_ticks p) (tick_at s)) (get_or s 3 0) (get_or s 5 0) ≡ None → state_refusal p s ≡ count_refusal p (tick_at s) (progress_at s)
  unfolding state_refusal mark_refusal count_refusal
  at_counts h none =
      let marks = mark_wrongs (leb (frame_ticks p) (tick_at s)) (get_or s 3 0) (get_or s 5 0) in
      let counts = count_wrongs p (tick_at s) (progress_at s) in
      first_after (length_wrongs (length s)) (marks ++ counts) (six h) ∙ first_after marks counts none

-- a tick whose marks are right lies in the frame
pub inside : (p : Numbers) (t m u : ℕ) → mark_refusal (leb (frame_ticks p) t) m u ≡ None → (t < frame_ticks p) × (m ≤ 1) × (u ≤ 1)
unfolding mark_refusal
inside p t m u h = (grind (arith, nat_tests), grind (arith, nat_tests), grind (arith, nat_tests))

pub state_inside : (p : Numbers) (s : List ℕ) → state_refusal p s ≡ None → tick_at s < frame_ticks p
unfolding state_refusal
state_inside p s h = grind (arith, nat_tests)

-- written and read, the numbers of counts are theirs
mark_back : (b : Bool) → (eqb (cond b 1 0) 1 ≡ b) × (cond b 1 0 ≤ 1)
mark_back true = (refl, omega arith)
mark_back false = (refl, omega arith)

pub progress_back : (c : Counts) → progress_at (state_of c) ≡ c.progress
unfolding state_of
progress_back c = λ i. record {
  requested = c.progress.requested;
  arrived = c.progress.arrived;
  pending = (mark_back c.progress.pending).0 i;
  waited = c.progress.waited;
  underrun = (mark_back c.progress.underrun).0 i;
}

pub tick_back : (c : Counts) → tick_at (state_of c) ≡ c.scan.at.tick
unfolding state_of
tick_back c = refl

pub marks_back : (c : Counts) → (length (state_of c) ≡ 6) × (get_or (state_of c) 3 0 ≤ 1) × (get_or (state_of c) 5 0 ≤ 1)
unfolding state_of
marks_back c = (refl, (mark_back c.progress.pending).1, (mark_back c.progress.underrun).1)

right_counts : (p : Numbers) (t : ℕ) (f : Progress) → accepted p t f ≡ true → count_refusal p t f ≡ None
unfolding count_refusal accepted
right_counts p t f h = grind (arith, nat_tests)

right_marks : (p : Numbers) (t m u : ℕ) → t < frame_ticks p → m ≤ 1 → u ≤ 1 → mark_refusal (leb (frame_ticks p) t) m u ≡ None
unfolding mark_refusal
right_marks p t m u h hm hu = grind (arith, nat_tests)

-- so before the frame's end they are accepted again
pub accepted_back : (c : Counts) → c.scan.at.tick < frame_ticks c.scan.plan.numbers → state_refusal c.scan.plan.numbers (state_of c) ≡ None
accepted_back c inside =
    let p = c.scan.plan.numbers in
    let marks = marks_back c in
    at_counts p (state_of c) marks.0 (right_marks p _ _ _ (subst (λ n. n < frame_ticks p) (sym (tick_back c)) inside) marks.1 marks.2)
    ∙ ap₂ (count_refusal p) (tick_back c) (progress_back c) ∙ right_counts p c.scan.at.tick c.progress c.ok
