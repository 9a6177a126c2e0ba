-- The next dot of a scan is taken in the tick in which it is due, and in no tick before.
use Rattle.std.proofs.Common.{◌≡◌, ℕ, ◌+◌, ◌-◌, ◌*◌, ◌/◌, ◌%◌, ◌<◌, ◌≤◌, true, false, eqb, refl, sym, ap, ◌∙◌, ap₂, ⊎_elim, mod-lt, mul_comm, add-mul, div-add-mod', le_of_mul-le-mul_right, add-one, arith}
use lib.Arith.{digits_div, digits_mod}
use Rattle.std.proofs.lemmas.Nat.{mul-le}
use Rattle.std.proofs.lemmas.Bool.{cases_Bool, both_ways, cases_lt, eq-eqb, ne_eqb}
use Rattle.timing.specs.Frame.{line_ticks, frame_ticks, frame_dots, tick_of, index, takes, taken}
use Rattle.timing.specs.Good.{good}
use Rattle.timing.specs.declared.dots.Dot.{Dot}
use Rattle.timing.specs.Scan.{Tracks}
use Rattle.timing.specs.declared.numbers.Numbers.{Numbers}
use Rattle.timing.specs.declared.positions.Position.{Position}
use Rattle.timing.proofs.Curves.{taken_when, taken_unless, curve}
use Rattle.timing.proofs.Goods.{good_says, small}
use Rattle.timing.proofs.Whens.{taken_in, dot_in}

-- a place in the frame is one line and one column
same_line : (w x y x' y' : ℕ) → x < w → x' < w → y * w + x ≡ y' * w + x' → (x ≡ x') × (y ≡ y')
same_line w x y x' y' h h' e =
    (sym (digits_mod y h) ∙ ap (λ n. n % w) e ∙ digits_mod y' h', sym (digits_div y h) ∙ ap (λ n. n / w) e ∙ digits_div y' h')

-- below the last line a dot would be due past the frame
due_inside : (p : Numbers) (d : Dot) → tick_of p d < frame_ticks p → d.y < p.height
unfolding tick_of frame_ticks
due_inside p d h = ⊎_elim (λ below. below)
    (λ past. absurd (omega (arith, mul-le p.height (line_ticks p) d.y (line_ticks p) past (omega arith))))
    (cases_lt d.y p.height)

pub due_takes : (p : Numbers) (d : Dot) (t : ℕ) → good p ≡ true → d.x < p.width → taken p t ≡ index p d → t < frame_ticks p → takes p t ≡ eqb t (tick_of p d)
unfolding index tick_of
due_takes p d t ok column count inside = ⊎_elim hit miss (cases_Bool (takes p t)) where
  hit : takes p t ≡ true → takes p t ≡ eqb t (tick_of p d)
  hit h =
      let there = dot_in p t (small p ok).line_some h in
      let same = same_line p.width ((t - p.vblank) % line_ticks p - p.hblank) ((t - p.vblank) / line_ticks p) d.x d.y there.inside.0 column (sym there.here.1 ∙ count) in
      let due : t ≡ tick_of p d = there.tick ∙ ap₂ (λ x y. p.vblank + (y * line_ticks p + (p.hblank + x))) same.0 same.1 in
      h ∙ sym (eq-eqb t (tick_of p d) due)

  miss : takes p t ≡ false → takes p t ≡ eqb t (tick_of p d)
  miss h =
      let never : t ≡ tick_of p d → ⊥ = λ e.
      let hits : takes p t ≡ true = (taken_in p d t (column, due_inside p d (omega arith)) e).here.0 in
      both_ways _ h hits in
      h ∙ sym (ne_eqb t (tick_of p d) never)

module _ (p : Numbers) (at : Position) (ok : good p ≡ true) (now : Tracks p at) (inside : at.tick < frame_ticks p) where
  pub takes_due : takes p at.tick ≡ eqb at.tick at.due
  takes_due = due_takes p at.next at.tick ok now.column (sym now.counted ∙ now.placed) inside ∙ ap (eqb at.tick) (sym now.timed)

  -- a tick before the next dot is due leaves all but the tick
  pub tracks_dark : (at.tick ≡ at.due → ⊥) → Tracks p (record { tick = at.tick + 1; count = at.count; next = at.next; due = at.due })
  tracks_dark not_due = record {
    inside = omega arith;
    counted = now.counted ∙ sym (taken_unless p at.tick (takes_due ∙ ne_eqb _ _ not_due)) ∙ ap (taken p) (sym (add-one at.tick));
    placed = now.placed;
    column = now.column;
    timed = now.timed;
  }

  taken_one : at.tick ≡ at.due → at.count + 1 ≡ taken p (at.tick + 1)
  taken_one due = ap (λ n. n + 1) now.counted ∙ sym (taken_when p at.tick (takes_due ∙ eq-eqb _ _ due)) ∙ ap (taken p) (sym (add-one at.tick))

  -- the tick in which it is due goes on to the dot beside it
  pub tracks_beside : at.tick ≡ at.due → (at.next.x + 1 ≡ p.width → ⊥) → Tracks p (record { tick = at.tick + 1; count = at.count + 1; next = record { x = at.next.x + 1; y = at.next.y }; due = at.due + 1 })
  unfolding index tick_of
  tracks_beside due beside = record {
    inside = omega arith;
    counted = taken_one due;
    placed = omega (arith, now.placed);
    column = omega (arith, now.column);
    timed = omega (arith, now.timed);
  }

  -- or, at a line's end, to the first of the next line
  pub tracks_below : at.tick ≡ at.due → at.next.x + 1 ≡ p.width → Tracks p (record { tick = at.tick + 1; count = at.count + 1; next = record { x = 0; y = at.next.y + 1 }; due = at.due + 1 + p.hblank })
  unfolding index tick_of line_ticks
  tracks_below due end = record {
    inside = omega arith;
    counted = taken_one due;
    placed = omega (arith, now.placed, add-mul at.next.y 1 p.width);
    column = omega arith;
    timed = omega (arith, now.timed, add-mul at.next.y 1 (line_ticks p));
  }

-- where a tick is not past the frame, what was taken before it gives its position
pub tracks_at : (p : Numbers) (t count : ℕ) → good p ≡ true → t ≤ frame_ticks p → count ≡ taken p t → Tracks p (record { tick = t; count = count; next = record { x = count % p.width; y = count / p.width }; due = tick_of p (record { x = count % p.width; y = count / p.width }) })
unfolding index
tracks_at p t count ok inside counted =
    let some : 0 < p.width = (good_says p ok).width_least in
    record {
      inside = inside;
      counted = counted;
      placed = sym (div-add-mod' count p.width);
      column = mod-lt count some;
      timed = refl;
    }

-- such a position's numbers are small
pub record Near (p : Numbers) (at : Position) : Type 0 where
  pub count_most : at.count ≤ 16777216
  pub y_most : at.next.y ≤ 4096
  pub due_most : at.due + p.hblank < 34000000

pub near : (p : Numbers) (at : Position) → good p ≡ true → Tracks p at → Near p at
unfolding index tick_of frame_dots
near p at ok now =
    let g = good_says p ok in
    let s = small p ok in
    let few : at.count ≤ p.width * p.height = omega (arith, now.counted, (curve p).within at.tick) in
    let dots : at.next.y * p.width ≤ p.height * p.width = omega (arith, now.placed, few, mul_comm p.width p.height) in
    let lines : at.next.y ≤ p.height = le_of_mul-le-mul_right dots g.width_least in
    let y_most : at.next.y ≤ 4096 = omega (arith, g) in
    let above : at.next.y * line_ticks p ≤ 33554432 = mul-le at.next.y (line_ticks p) 4096 8192 y_most s.line_most in
    record {
      count_most = omega (arith, few, s.dots_most);
      y_most = y_most;
      due_most = omega (arith, now.timed, now.column, g);
    }
