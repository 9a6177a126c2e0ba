-- The least and the most over some ticks, one tick more at a time.
use Rattle.std.proofs.Common.{◌≡◌, ℕ, suc, ◌+◌, ◌*◌, ◌/◌, ◌%◌, ◌<◌, ◌≤◌, min, max, true, cond, ltb, ◌≢◌, List, length, get_or, set, ap, ◌∙◌, subst, ⊎_elim, mod-lt, suc-mul, mul_comm, div-add-mod', zero-mul, arith}
use Rattle.std.proofs.lemmas.Nat.{mul-le}
use Rattle.std.proofs.lemmas.List.{get_or-set_same, get_or-set_other}
use Rattle.std.proofs.lemmas.Bool.{cases_lt}
use Rattle.std.proofs.lemmas.Bool.Decides.{nat_tests}
use Rattle.timing.specs.Frame.{line_ticks, frame_ticks}
use Rattle.timing.specs.Good.{good}
use Rattle.timing.specs.declared.numbers.Numbers.{Numbers}
use Rattle.timing.proofs.Goods.{good_says}
use Rattle.feeder.specs.Step.{plan_in, tick_in}
use Rattle.feeder.specs.declared.counts.Counts.{Counts}
use Rattle.scope.specs.Fill.{fill, Spans, column_start, column_size, span_at, Charted}
use Rattle.scope.specs.declared.charts.Chart.{Chart}
use Rattle.scope.specs.declared.spans.Span.{Span}

pub spans_more : (p : Numbers) (t n least most x : ℕ) → Spans p t n least most → x ≡ fill p (t + n) → Spans p t (n + 1) (min least x) (max most x)
spans_more p t n least most x b e = record {
  inside = λ k h. ⊎_elim
      (λ (old : k < n). let at = b.inside k old in (omega arith, omega arith))
      (λ (new : n ≤ k). let last : n ≡ k = omega arith in subst (λ j. (min least x ≤ fill p (t + j)) × (fill p (t + j) ≤ max most x)) last (omega arith, omega arith))
      (cases_lt k n);
  least_met = ⊎_elim
      (λ (new : x < least). (n, omega arith, omega arith))
      (λ (old : least ≤ x). (b.least_met.0, omega (arith, b.least_met.1), b.least_met.2 ∙ omega arith))
      (cases_lt x least);
  most_met = ⊎_elim
      (λ (new : most < x). (n, omega arith, omega arith))
      (λ (old : x ≤ most). (b.most_met.0, omega (arith, b.most_met.1), b.most_met.2 ∙ omega arith))
      (cases_lt most x);
}

-- the columns below i, of which each has so many ticks and the first ones one more
pub Columns : Numbers → (each longer i : ℕ) → List Span → Type 0
Columns p each longer i columns =
    (j : ℕ) → j < i → Spans p (suc (j * each + min j longer)) (each + cond (ltb j longer) 1 0) (get_or columns j (record { least = 0; most = 0 })).least (get_or columns j (record { least = 0; most = 0 })).most

pub columns_more : (p : Numbers) (each longer i : ℕ) (columns : List Span) (c : Span) → i < length columns → Columns p each longer i columns →
    Spans p (suc (i * each + min i longer)) (each + cond (ltb i longer) 1 0) c.least c.most → Columns p each longer (i + 1) (set columns i c)
unfolding Columns
columns_more p each longer i columns c inside before here j h = ⊎_elim
    (λ (old : j < i). let other : j ≢ i = omega arith in rw (get_or-set_other columns i j c (record { least = 0; most = 0 }) other) (before j old))
    (λ (new : i ≤ j).
    let last : i ≡ j = omega arith in
    subst (λ k. Spans p (suc (k * each + min k longer)) (each + cond (ltb k longer) 1 0) (get_or (set columns i c) k (record { least = 0; most = 0 })).least (get_or (set columns i c) k (record { least = 0; most = 0 })).most) last
    (rw (get_or-set_same columns i c (record { least = 0; most = 0 }) inside) here))
    (cases_lt j i)

-- a column begins where the one before it ends, and the last one ends with the frame
pub column_on : (t n i : ℕ) → suc i * (t / n) + min (suc i) (t % n) ≡ i * (t / n) + min i (t % n) + (t / n + cond (ltb i (t % n)) 1 0)
column_on t n i = rw (suc-mul i (t / n)) (grind (arith, nat_tests))

pub columns_whole : (t n : ℕ) → 0 < n → n * (t / n) + min n (t % n) ≡ t
columns_whole t n some =
    let rest = mod-lt t some in
    omega (arith, div-add-mod' t n, mul_comm n (t / n))

pub column_some : (t n : ℕ) → 0 < n → n ≤ t → 0 < t / n
column_some t n some fits =
    ⊎_elim (λ (more : 0 < t / n). more) (λ (none : t / n ≤ 0). absurd (omega (arith, div-add-mod' t n, mod-lt t some, ap (λ q. q * n) (quotient none), zero-mul n))) (cases_lt 0 (t / n)) where
      quotient : t / n ≤ 0 → t / n ≡ 0
      quotient h = omega arith

pub columns_none : (p : Numbers) (each longer : ℕ) (columns : List Span) → Columns p each longer 0 columns
unfolding Columns
columns_none p each longer columns j h = absurd (omega arith)

pub columns_at : (p q : Numbers) (each longer i n : ℕ) (columns : List Span) → p ≡ q → i ≡ n → Columns p each longer i columns →
    (j : ℕ) → j < n → Spans q (suc (j * each + min j longer)) (each + cond (ltb j longer) 1 0) (get_or columns j (record { least = 0; most = 0 })).least (get_or columns j (record { least = 0; most = 0 })).most
unfolding Columns
columns_at p q each longer i n columns plan all before j h =
    subst (λ (r : Numbers). Spans r (suc (j * each + min j longer)) (each + cond (ltb j longer) 1 0) (get_or columns j (record { least = 0; most = 0 })).least (get_or columns j (record { least = 0; most = 0 })).most) plan (before j (omega arith))

-- a frame has a tick
pub frame_some : (p : Numbers) → good p ≡ true → 0 < frame_ticks p
unfolding frame_ticks line_ticks
frame_some p ok = let g = good_says p ok in omega (arith, g.width_least, mul-le 1 1 p.height (p.hblank + p.width) g.height_least (omega (arith, g.width_least)))

-- before column i, where the probe stood at the frame's start as `from`
pub record Drawn (from now : Counts) (each longer i : ℕ) (columns : List Span) : Type 0 where
  pub plan : plan_in now ≡ plan_in from
  pub tick : tick_in now ≡ i * each + min i longer
  pub size : length columns ≡ 80
  pub done : Columns (plan_in from) each longer i columns

pub charted : (p : Numbers) (t : ℕ) (c : Chart) (from now : Counts) (i : ℕ) → t ≡ frame_ticks p → 0 < t → c.count ≡ min t 80 → plan_in from ≡ p → i ≡ c.count → Drawn from now (t / c.count) (t % c.count) i c.columns → Charted p c
charted p t c from now i ticks some count plan all drawn =
    let few : 0 < c.count = omega arith in
    let each = column_some t c.count few (omega arith) in
    record {
      count_is = count ∙ ap (λ k. min k 80) ticks;
      column = subst (λ k. (j : ℕ) → j < c.count → Spans p (suc (column_start k c.count j)) (column_size k c.count j) (span_at c j).least (span_at c j).most) ticks (columns_at _ p (t / c.count) (t % c.count) i c.count c.columns plan all drawn.done);
      some = λ j h. subst (λ k. 0 < column_size k c.count j) ticks (omega arith);
      on = λ j h. column_on (frame_ticks p) c.count j;
      whole = columns_whole (frame_ticks p) c.count few;
    }
