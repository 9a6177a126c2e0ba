-- What the two tests of a range's `contains` tell of numbers.
use Rattle.std.proofs.Common.{◌≡◌, ℕ, ◌<◌, ◌≤◌, true, false, ◌⊎◌, arith}
use Rattle.std.specs.Ordering.{is_le, is_lt, nat_cmp}
use Rattle.std.proofs.lemmas.Bool.Decides.{leb_tells, eqb_tells, nat_tests}

pub is_le_tells : (a b : ℕ) → ((is_le (nat_cmp a b) ≡ true) × (a ≤ b)) ⊎ ((is_le (nat_cmp a b) ≡ false) × (b < a))
is_le_tells a b = grind (arith, nat_tests)

pub is_lt_tells : (a b : ℕ) → ((is_lt (nat_cmp a b) ≡ true) × (a < b)) ⊎ ((is_lt (nat_cmp a b) ≡ false) × (b ≤ a))
is_lt_tells a b = grind (arith, nat_tests)

pub ruleset range_tests = (is_le_tells, is_lt_tells, leb_tells, eqb_tells)
