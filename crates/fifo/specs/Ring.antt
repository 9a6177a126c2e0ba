-- The FIFO as a ring: dot k of the frame stands at place k modulo the capacity. Assumes nothing: these are definitions.
use Rattle.std.specs.Prelude.{◌≡◌, ℕ, ◌+◌, ◌%◌, ◌<◌, ◌≤◌, List, [], ◌∷◌, length, ◌≢◌, slice_index, slice_set}

-- the ring of m places with the dots that the memory brings from dot c on at their places, and every other place as it was
unfoldable pub filled : ℕ → ℕ → List ℕ → List ℕ → List ℕ
filled m c [] r = r
filled m c (x ∷ brought) r = filled m (c + 1) brought (slice_set r (c % m) x)

-- the ring of m places holds the dots of a picture from dot a up to, and not with, dot c
abbrev pub Holds : (m from to : ℕ) → List ℕ → (ℕ → ℕ) → Type 0
Holds m from to r picture = (k : ℕ) → from ≤ k → k < to → slice_index r (k % m) ≡ picture k

-- what is brought are the dots of a picture from dot c on
abbrev pub Continues : List ℕ → ℕ → (ℕ → ℕ) → Type 0
Continues brought c picture = (i : ℕ) → i < length brought → slice_index brought i ≡ picture (c + i)

-- a ring with n dots of a picture from dot c on at their places, and every other place as it was
pub record Loaded (picture : ℕ → ℕ) (c n : ℕ) (r r₁ : List ℕ) : Type 0 where
  pub size : length r₁ ≡ length r
  pub here : (i : ℕ) → i < n → slice_index r₁ ((c + i) % length r) ≡ picture (c + i)
  pub other : (k : ℕ) → ((i : ℕ) → i < n → (c + i) % length r ≢ k) → slice_index r₁ k ≡ slice_index r k
