-- Which tick takes which dot: one tick only for each.
use Rattle.std.proofs.Common.{◌≡◌, ℕ, suc, ◌+◌, ◌-◌, ◌*◌, ◌/◌, ◌%◌, ◌<◌, ◌≤◌, true, ap, ◌∙◌, ⊎_elim, mod-lt, div-add-mod', arith}
use lib.Arith.{digits_lt}
use Rattle.std.proofs.lemmas.Nat.{div_below}
use Rattle.std.proofs.lemmas.Bool.{cases_order, le-leb}
use Rattle.std.proofs.lemmas.Bool.Decides.{nat_tests}
use Rattle.timing.specs.Frame.{line_ticks, frame_ticks, tick_of, index, takes, taken, InFrame, TakesDot, TakenIn}
use Rattle.timing.specs.Good.{good}
use Rattle.timing.specs.declared.dots.Dot.{Dot}
use Rattle.timing.specs.declared.numbers.Numbers.{Numbers}
use Rattle.timing.proofs.Curves.{takes_at, taken_at, taken_when, taken_rises}
use Rattle.timing.proofs.Goods.{small}

-- two ticks that take the same dot of the frame are one
never_later : (p : Numbers) (k s t : ℕ) → TakesDot p k s → TakesDot p k t → s < t → ⊥
never_later p k s t a b h = omega (arith, taken_when p s a.0, taken_rises p (suc s) t h)

once : (p : Numbers) (k s t : ℕ) → TakesDot p k s → TakesDot p k t → s ≡ t
once p k s t a b = ⊎_elim (λ e. e) (⊎_elim (λ h. absurd (never_later p k s t a b h)) (λ h. absurd (never_later p k t s b a h))) (cases_order s t)

-- dot x of line y stands behind the line's blanking, at place hblank + x
pub taken_in : (p : Numbers) (d : Dot) (t : ℕ) → InFrame p d → t ≡ tick_of p d → TakenIn p d t
unfolding tick_of index line_ticks
taken_in p d t i e =
    let place : p.hblank + d.x < line_ticks p = omega arith in
    let hit : takes p t ≡ true = ap (takes p) e ∙ takes_at p d.y (p.hblank + d.x) i.1 place ∙ le-leb _ _ (omega arith) in
    let count : taken p t ≡ index p d = ap (taken p) e ∙ taken_at p d.y (p.hblank + d.x) i.1 (omega arith) ∙ omega arith in
    record { inside = i; tick = e; here = (hit, count); only = λ s h. once p (index p d) s t h (hit, count) }

-- what a tick that takes a dot is
pub takes_says : (p : Numbers) (t : ℕ) → takes p t ≡ true → (p.vblank ≤ t) × (t < frame_ticks p) × (p.hblank ≤ (t - p.vblank) % line_ticks p)
unfolding takes
takes_says p t h = (grind (arith, nat_tests), grind (arith, nat_tests), grind (arith, nat_tests))

-- the dot of such a tick, by the line that it lies in and its place there
pub dot_in : (p : Numbers) (t : ℕ) → 0 < line_ticks p → takes p t ≡ true → TakenIn p (record { x = (t - p.vblank) % line_ticks p - p.hblank; y = (t - p.vblank) / line_ticks p }) t
unfolding tick_of frame_ticks
dot_in p t some h =
    let says = takes_says p t h in
    let gone : t - p.vblank < p.height * line_ticks p = omega arith in
    let place : (t - p.vblank) % line_ticks p < p.hblank + p.width = unfold line_ticks in mod-lt (t - p.vblank) some in
    taken_in p _ t
    (omega arith, div_below (t - p.vblank) (line_ticks p) p.height some gone)
    (omega (arith, div-add-mod' (t - p.vblank) (line_ticks p)))

-- it lies in the frame, so it is small
pub tick_small : (p : Numbers) (d : Dot) → good p ≡ true → InFrame p d → tick_of p d < 33619968
unfolding tick_of frame_ticks line_ticks
tick_small p d h i =
    let place : p.hblank + d.x < p.hblank + p.width = omega arith in
    omega (arith, digits_lt i.1 place, (small p h).frame_most)
