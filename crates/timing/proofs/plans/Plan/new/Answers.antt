use Rattle.std.proofs.Common.{◌≡◌, ℕ, ap, below_more, arith, rules}
use Rattle.timing.specs.Row.{numbers_in}
use Rattle.timing.proofs.Ranges.{range_tests}
use Rattle.timing.proofs.Rows.{good_row, limits_at}
use Rattle.timing.proofs.plans.Plan.new.Goals as goal

pub returns-then-number-least : goal.returns-then-number-least
returns-then-number-least c =
    let of_row : c.from-numbers.result ≡ numbers_in c.args.row.now = search rules in
    let there = limits_at c.args.row.now c.from-numbers.result c.loop-place.place of_row (omega arith) in
    record {
      low_is = ap (λ (line : ℕ × ℕ × ℕ). line.1) there;
      high_is = ap (λ (line : ℕ × ℕ × ℕ). line.2) there;
      seven = search rules;
      inside = omega arith;
      first = c.loop-place.invariant;
      wrong = λ in_range. grind (arith, range_tests);
    }

pub loop-place-preserved : goal.loop-place-preserved
loop-place-preserved c =
    let of_row : c.from-numbers.result ≡ numbers_in c.args.row.now = search rules in
    let there = limits_at c.args.row.now c.from-numbers.result c.loop-place.place of_row (omega arith) in
    below_more _ _ c.loop-place.invariant (grind (arith, range_tests), grind (arith, range_tests))

pub invariant_of-result : goal.invariant_of-result
invariant_of-result c =
    let of_row : c.from-numbers.result ≡ numbers_in c.args.row.now = search rules in
    record { ok = rw of_row (good_row c.args.row.now (λ k h. c.loop-place.invariant k (omega arith))) }
