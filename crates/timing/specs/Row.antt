-- Which rows of numbers are plans, and why the others are refused. Assumes nothing: these are definitions.
use Rattle.std.specs.Prelude.{◌≡◌, ℕ, ◌<◌, ◌≤◌, List, [], ◌∷◌, length, slice_index}
use Rattle.timing.specs.declared.numbers.Numbers.{Numbers}
use Rattle.timing.specs.declared.refusals.PlanRefusal.{PlanRefusal}
use Rattle.timing.specs.declared.refusals.PlanRefusal.TheVariants.{TooShort, TooLong, OutOfRange}

-- the plan that a row of seven numbers writes
unfoldable pub numbers_in : List ℕ → Numbers
numbers_in row = record {
  width = slice_index row 0;
  height = slice_index row 1;
  hblank = slice_index row 2;
  vblank = slice_index row 3;
  capacity = slice_index row 4;
  burst = slice_index row 5;
  latency = slice_index row 6;
}

-- the least and the most that the number at a place may be; a burst is at most the capacity
abbrev pub least : ℕ → ℕ
least place = slice_index (1 ∷ 1 ∷ 0 ∷ 0 ∷ 0 ∷ 1 ∷ 1 ∷ []) place

abbrev pub most : List ℕ → ℕ → ℕ
most row place = slice_index (4096 ∷ 4096 ∷ 4096 ∷ 65536 ∷ 65536 ∷ slice_index row 4 ∷ 65536 ∷ []) place

abbrev pub InRange : List ℕ → ℕ → Type 0
InRange row place = (least place ≤ slice_index row place) × (slice_index row place ≤ most row place)

-- the first number that is out of its range
pub record FirstWrong (row : List ℕ) (place low high : ℕ) : Type 0 where
  pub seven : length row ≡ 7
  pub inside : place < 7
  pub first : (k : ℕ) → k < place → InRange row k
  pub wrong : InRange row place → ⊥
  pub low_is : low ≡ least place
  pub high_is : high ≡ most row place

-- a row is refused for its length first, then for its first number that is out of range
abbrev pub Refuses : List ℕ → PlanRefusal → Type 0
Refuses row (TooShort place) = (length row < 7) × (place ≡ length row)
Refuses row TooLong = 7 < length row
Refuses row (OutOfRange place low high) = FirstWrong row place low high

-- where in the row the refusal points
abbrev pub place_of : PlanRefusal → ℕ
place_of (TooShort place) = place
place_of TooLong = 7
place_of (OutOfRange place low high) = place

-- every refused plan is known outside as number 1
abbrev pub number_of : PlanRefusal → ℕ
number_of (TooShort place) = 1
number_of TooLong = 1
number_of (OutOfRange place low high) = 1
