-- The count of dots taken: line by line, in closed form, and as a curve over the ticks.
use Rattle.std.proofs.Common.{◌≡◌, ℕ, zero, suc, ◌+◌, ◌-◌, ◌*◌, ◌/◌, ◌%◌, ◌<◌, ◌≤◌, min, true, false, cond, leb, sym, refl, ap, ◌∙◌, subst, ⊎_elim, add-zero, add-suc, mod-lt, suc-mul, mul_comm, div-add-mod', zero-mul, mul-div_cancel, arith}
use native.Mathlib.Nat.{mul-mod_left}
use lib.Arith.{digits_lt, digits_mod}
use Rattle.std.proofs.lemmas.Nat.{div_below}
use Rattle.std.proofs.lemmas.Bool.{cases_lt}
use Rattle.std.proofs.lemmas.Bool.Decides.{nat_tests}
use Rattle.timing.specs.Frame.{line_ticks, frame_ticks, frame_dots, takes, taken, Curve}
use Rattle.timing.specs.Good.{good}
use Rattle.timing.specs.declared.numbers.Numbers.{Numbers}
use Rattle.timing.proofs.Goods.{small}

-- one more tick
taken_suc : (p : Numbers) (t : ℕ) → taken p (suc t) ≡ taken p t + cond (takes p t) 1 0
unfolding taken
taken_suc p t = refl

pub taken_when : (p : Numbers) (t : ℕ) → takes p t ≡ true → taken p (suc t) ≡ taken p t + 1
taken_when p t h = taken_suc p t ∙ ap (λ b. taken p t + cond b 1 0) h

pub taken_unless : (p : Numbers) (t : ℕ) → takes p t ≡ false → taken p (suc t) ≡ taken p t
taken_unless p t h = omega (arith, taken_suc p t ∙ ap (λ b. taken p t + cond b 1 0) h)

-- a tick takes none or one
pub taken_step : (p : Numbers) (t : ℕ) → (taken p t ≤ taken p (suc t)) × (taken p (suc t) ≤ taken p t + 1)
taken_step p t = rw taken_suc (grind arith)

taken_rises_by : (p : Numbers) (t d : ℕ) → taken p t ≤ taken p (t + d)
taken_rises_by p t zero = rw add-zero (omega arith)
taken_rises_by p t (suc d) = rw add-suc (omega (arith, taken_rises_by p t d, taken_step p (t + d)))

pub taken_slowly : (p : Numbers) (t d : ℕ) → taken p (t + d) ≤ taken p t + d
taken_slowly p t zero = rw (add-zero t) (omega arith)
taken_slowly p t (suc d) = rw (add-suc t d) (omega (arith, taken_slowly p t d, taken_step p (t + d)))

pub taken_rises : (p : Numbers) (s t : ℕ) → s ≤ t → taken p s ≤ taken p t
taken_rises p s t h =
    let e : s + (t - s) ≡ t = omega arith in
    subst (λ n. taken p s ≤ taken p n) e (taken_rises_by p s (t - s))

-- nothing is taken before the frame's blanking is over, nor past the frame's end
takes_dark : (p : Numbers) (t : ℕ) → t < p.vblank → takes p t ≡ false
unfolding takes
takes_dark p t h = grind (arith, nat_tests)

pub takes_past : (p : Numbers) (t : ℕ) → frame_ticks p ≤ t → takes p t ≡ false
unfolding takes
takes_past p t h = grind (arith, nat_tests)

pub taken_dark : (p : Numbers) (t : ℕ) → t ≤ p.vblank → taken p t ≡ 0
unfolding taken
taken_dark p zero h = refl
taken_dark p (suc t) h = taken_unless p t (takes_dark p t h) ∙ taken_dark p t (omega arith)

taken_past_by : (p : Numbers) (d : ℕ) → taken p (frame_ticks p + d) ≡ taken p (frame_ticks p)
taken_past_by p zero = rw add-zero
taken_past_by p (suc d) = rw add-suc (taken_unless p (frame_ticks p + d) (takes_past p _ (omega arith)) ∙ taken_past_by p d)

pub taken_past : (p : Numbers) (t : ℕ) → frame_ticks p ≤ t → taken p t ≡ taken p (frame_ticks p)
taken_past p t h =
    let e : t ≡ frame_ticks p + (t - frame_ticks p) = omega arith in
    ap (taken p) e ∙ taken_past_by p (t - frame_ticks p)

-- place r of line q takes a dot where r lies behind the line's blanking
pub takes_at : (p : Numbers) (q r : ℕ) → q < p.height → r < line_ticks p → takes p (p.vblank + (q * line_ticks p + r)) ≡ leb p.hblank r
unfolding takes frame_ticks
takes_at p q r hq hr =
    let before : q * line_ticks p + r < p.height * line_ticks p = digits_lt hq hr in
    let inside : p.vblank + (q * line_ticks p + r) - p.vblank ≡ q * line_ticks p + r = omega arith in
    let place : (p.vblank + (q * line_ticks p + r) - p.vblank) % line_ticks p ≡ r = ap (λ n. n % line_ticks p) inside ∙ digits_mod q hr in
    grind (arith, nat_tests)

-- up to place r of a line, its dots up to there
taken_in_line : (p : Numbers) (q r : ℕ) → q < p.height → r ≤ line_ticks p → taken p (p.vblank + (q * line_ticks p + r)) ≡ taken p (p.vblank + q * line_ticks p) + (r - p.hblank)
taken_in_line p q zero hq hr = rw add-zero (omega arith)
taken_in_line p q (suc r) hq hr =
    let here = takes_at p q r hq hr in
    let before = taken_in_line p q r hq (omega arith) in
    rw (add-suc, add-suc, taken_suc, here, before) (grind (arith, nat_tests))

-- in whole lines, whole widths
taken_lines : (p : Numbers) (q : ℕ) → q ≤ p.height → taken p (p.vblank + q * line_ticks p) ≡ q * p.width
taken_lines p zero h = simp (zero-mul, add-zero) (taken_dark p p.vblank (omega arith))
taken_lines p (suc q) h =
    let line = taken_in_line p q (line_ticks p) h (omega arith) in
    let dots : line_ticks p - p.hblank ≡ p.width = unfold line_ticks in omega arith in
    simp (suc-mul, line, taken_lines p q (omega arith), dots)

-- before place r of line q: the lines above, and the line's own up to there
pub taken_at : (p : Numbers) (q r : ℕ) → q < p.height → r ≤ line_ticks p → taken p (p.vblank + (q * line_ticks p + r)) ≡ q * p.width + (r - p.hblank)
taken_at p q r hq hr = taken_in_line p q r hq hr ∙ ap (λ n. n + (r - p.hblank)) (taken_lines p q (omega arith))

pub taken_all : (p : Numbers) → taken p (frame_ticks p) ≡ frame_dots p
unfolding frame_ticks frame_dots
taken_all p = taken_lines p p.height (omega arith) ∙ mul_comm p.height p.width

pub curve : (p : Numbers) → Curve p
curve p = record {
  rises = taken_rises p;
  slowly = taken_slowly p;
  dark = taken_dark p;
  within = λ t. ⊎_elim
      (λ inside. omega (arith, taken_rises p t (frame_ticks p) (omega arith), taken_all p))
      (λ past. omega (arith, taken_past p t past, taken_all p))
      (cases_lt t (frame_ticks p));
}

-- the closed form, over the ticks of the lines alone
taken_closed : (p : Numbers) → 0 < line_ticks p → (s : ℕ) → s ≤ p.height * line_ticks p → taken p (p.vblank + s) ≡ s / line_ticks p * p.width + (s % line_ticks p - p.hblank)
taken_closed p some s h = ⊎_elim
    (λ inside. ap (λ n. taken p (p.vblank + n)) (sym (div-add-mod' s (line_ticks p))) ∙ taken_at p (s / line_ticks p) (s % line_ticks p) (div_below s (line_ticks p) p.height some inside) (omega (arith, mod-lt s some)))
    (λ past.
    let end : s ≡ p.height * line_ticks p = omega arith in
    let full : p.height * line_ticks p / line_ticks p ≡ p.height = mul-div_cancel p.height some in
    let none : p.height * line_ticks p % line_ticks p ≡ 0 = mul-mod_left p.height (line_ticks p) in
    rw (end, full, none) (omega (arith, taken_lines p p.height (omega arith))))
    (cases_lt s (p.height * line_ticks p))

-- a tick before the lines counts as their first, and one past them as their end
clipped : Numbers → ℕ → ℕ
clipped p t = min (t - p.vblank) (p.height * line_ticks p)

taken_clipped : (p : Numbers) (t : ℕ) → taken p t ≡ taken p (p.vblank + clipped p t)
unfolding clipped frame_ticks
taken_clipped p t =
    let dark : t < p.vblank → taken p t ≡ taken p (p.vblank + clipped p t) = λ h. taken_dark p t (omega arith) ∙ sym (taken_dark p _ (omega arith)) in
    let inside : p.vblank ≤ t → t < frame_ticks p → t ≡ p.vblank + clipped p t = omega arith in
    let past : frame_ticks p ≤ t → frame_ticks p ≡ p.vblank + clipped p t = omega arith in
    ⊎_elim dark
    (λ lit. ⊎_elim (λ h. ap (taken p) (inside lit h)) (λ h. taken_past p t h ∙ ap (taken p) (past h)) (cases_lt t (frame_ticks p)))
    (cases_lt t p.vblank)

pub taken_is : (p : Numbers) (t s l : ℕ) → 0 < l → l ≡ line_ticks p → s ≡ min (t - p.vblank) (p.height * l) → taken p t ≡ s / l * p.width + (s % l - p.hblank)
unfolding clipped
taken_is p t s l some el es =
    let e : s ≡ clipped p t = rw el at es in
    let some' : 0 < line_ticks p = omega arith in
    rw el (taken_clipped p t ∙ ap (λ n. taken p (p.vblank + n)) (sym e) ∙ taken_closed p some' s (omega arith))

pub taken_few : (p : Numbers) → good p ≡ true → (t : ℕ) → taken p t ≤ 16777216
taken_few p h t = omega (arith, (curve p).within t, (small p h).dots_most)
