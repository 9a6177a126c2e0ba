-- A row whose numbers are all in range is a good plan, and a good plan is such a row.
use Rattle.std.proofs.Common.{◌≡◌, ℕ, zero, suc, ◌<◌, true, false, List, [], ◌∷◌, get_or, slice_index, ⊎_elim, arith}
use Rattle.std.proofs.lemmas.Bool.{cases_Bool}
use Rattle.timing.specs.Good.{good}
use Rattle.timing.specs.Row.{numbers_in, least, most, InRange, FirstWrong}
use Rattle.timing.specs.declared.numbers.Numbers.{Numbers}
use Rattle.timing.proofs.Goods.{good_from, good_says}

pub good_row : (row : List ℕ) → ((k : ℕ) → k < 7 → InRange row k) → good (numbers_in row) ≡ true
unfolding numbers_in
good_row row in_range =
    let at_width = in_range 0 (omega arith) in
    let at_height = in_range 1 (omega arith) in
    let at_hblank = in_range 2 (omega arith) in
    let at_vblank = in_range 3 (omega arith) in
    let at_capacity = in_range 4 (omega arith) in
    let at_burst = in_range 5 (omega arith) in
    let at_latency = in_range 6 (omega arith) in
    good_from _ (record {
      width_least = at_width.0;
      width_most = at_width.1;
      height_least = at_height.0;
      height_most = at_height.1;
      hblank_most = at_hblank.1;
      vblank_most = at_vblank.1;
      capacity_most = at_capacity.1;
      burst_least = at_burst.0;
      burst_most = at_burst.1;
      latency_least = at_latency.0;
      latency_most = at_latency.1;
    })

-- each number with its limits, as the check goes through them
abbrev pub limits_of : Numbers → List (ℕ × ℕ × ℕ)
limits_of p = (p.width, 1, 4096) ∷ (p.height, 1, 4096) ∷ (p.hblank, 0, 4096) ∷ (p.vblank, 0, 65536) ∷ (p.capacity, 0, 65536) ∷ (p.burst, 1, p.capacity) ∷ (p.latency, 1, 65536) ∷ []

abbrev pub limits_at_place : List ℕ → ℕ → ℕ × ℕ × ℕ
limits_at_place row k = (slice_index row k, least k, most row k)

pub limits_at : (row : List ℕ) (p : Numbers) (k : ℕ) → p ≡ numbers_in row → k < 7 → get_or (limits_of p) k (0, 0, 0) ≡ limits_at_place row k
unfolding numbers_in
limits_at row p zero e h = rw e
limits_at row p (suc zero) e h = rw e
limits_at row p (suc (suc zero)) e h = rw e
limits_at row p (suc (suc (suc zero))) e h = rw e
limits_at row p (suc (suc (suc (suc zero)))) e h = rw e
limits_at row p (suc (suc (suc (suc (suc zero))))) e h = rw e
limits_at row p (suc (suc (suc (suc (suc (suc zero)))))) e h = rw e
limits_at row p (suc (suc (suc (suc (suc (suc (suc k))))))) e h = absurd (omega arith)

pub row_good : (row : List ℕ) → good (numbers_in row) ≡ true → (k : ℕ) → k < 7 → InRange row k
unfolding numbers_in
row_good row ok zero h = let g = good_says _ ok in (g.width_least, g.width_most)
row_good row ok (suc zero) h = let g = good_says _ ok in (g.height_least, g.height_most)
row_good row ok (suc (suc zero)) h = let g = good_says _ ok in (omega arith, g.hblank_most)
row_good row ok (suc (suc (suc zero))) h = let g = good_says _ ok in (omega arith, g.vblank_most)
row_good row ok (suc (suc (suc (suc zero)))) h = let g = good_says _ ok in (omega arith, g.capacity_most)
row_good row ok (suc (suc (suc (suc (suc zero))))) h = let g = good_says _ ok in (g.burst_least, g.burst_most)
row_good row ok (suc (suc (suc (suc (suc (suc zero)))))) h = let g = good_says _ ok in (g.latency_least, g.latency_most)
row_good row ok (suc (suc (suc (suc (suc (suc (suc k))))))) h = absurd (omega arith)

-- so a row of seven is refused just where it is not good
pub refused_wrong : (row : List ℕ) (place low high : ℕ) → FirstWrong row place low high → good (numbers_in row) ≡ false
refused_wrong row place low high w = ⊎_elim (λ ok. absurd (w.wrong (row_good row ok place w.inside))) (λ none. none) (cases_Bool (good (numbers_in row)))
