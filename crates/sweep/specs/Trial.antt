-- What a sweep tries and counts. Assumes nothing: these are definitions.
use Rattle.std.specs.Prelude.{◌≡◌, ℕ, ◌+◌, ◌*◌, ◌/◌, ◌%◌, ◌^◌, ◌<◌, ◌≤◌, min, Bool, true, false, List, [], ◌∷◌, Some, None, Option, ◌==◌, nat_lt}
use Rattle.timing.specs.Frame.{frame_ticks}
use Rattle.timing.specs.declared.numbers.Numbers.{Numbers}
use Rattle.sweep.specs.declared.trials.Trial.{Trial}

-- a dot is missing by the one before it is by the other
abbrev pub sooner : Option ℕ → Option ℕ → Bool
sooner None other = false
sooner (Some tick) None = true
sooner (Some tick) (Some late) = nat_lt tick late

-- the flag of a tick in the number of a way
abbrev pub flag_in : ℕ → ℕ → Bool
flag_in way t = way / 2 ^ t % 2 == 1

-- every way of answering in the first n ticks has a number below 2 ^ n
abbrev pub Covers : ℕ → Type 0
Covers n = (w : ℕ → Bool) → (way : ℕ) × (way < 2 ^ n) × ((t : ℕ) → t < n → flag_in way t ≡ w t)

-- every way of answering in the first 20 ticks is tried, and none disagrees with the rule
pub record Tried (p : Numbers) (r : Trial) : Type 0 where
  pub ways_are : r.ways ≡ 2 ^ min (frame_ticks p) 20
  pub covered : Covers (min (frame_ticks p) 20)
  pub underruns_most : r.underruns ≤ r.ways
  pub agreed : r.disagreements ≡ 0

-- each row of a small size, by its number
abbrev pub small_row : ℕ → List ℕ
small_row index = (index % 6 + 1) ∷ (index / 6 % 2 + 1) ∷ (index / 12 % 2) ∷ (index / 24 % 6) ∷ (index / 144 % 6 + 1) ∷ (index / 864 % 6 + 1) ∷ (index / 5184 % 5 + 1) ∷ []

-- one line of just as many dots as make the rule exact
abbrev pub long_line : ℕ → ℕ → ℕ → ℕ → List ℕ
long_line vblank capacity burst latency = ((capacity + burst) * latency) ∷ 1 ∷ 0 ∷ vblank ∷ capacity ∷ burst ∷ latency ∷ []

abbrev pub long_row : ℕ → List ℕ
long_row index = long_line (index % 21) (index / 21 % 20 + 1) (index / 420 % 20 + 1) (index / 8400 % 20 + 1)
