-- What a good plan's numbers are, one fact each.
use Rattle.std.proofs.Common.{◌≡◌, ◌+◌, ◌*◌, ◌<◌, ◌≤◌, true, arith}
use Rattle.std.proofs.lemmas.Nat.{mul-le}
use Rattle.std.proofs.lemmas.Bool.Decides.{nat_tests}
use Rattle.timing.specs.Frame.{line_ticks, frame_ticks, frame_dots}
use Rattle.timing.specs.Good.{good}
use Rattle.timing.specs.declared.numbers.Numbers.{Numbers}

pub record Good (p : Numbers) : Type 0 where
  pub width_least : 1 ≤ p.width
  pub width_most : p.width ≤ 4096
  pub height_least : 1 ≤ p.height
  pub height_most : p.height ≤ 4096
  pub hblank_most : p.hblank ≤ 4096
  pub vblank_most : p.vblank ≤ 65536
  pub capacity_most : p.capacity ≤ 65536
  pub burst_least : 1 ≤ p.burst
  pub burst_most : p.burst ≤ p.capacity
  pub latency_least : 1 ≤ p.latency
  pub latency_most : p.latency ≤ 65536

pub good_says : (p : Numbers) → good p ≡ true → Good p
unfolding good
good_says p h = record {
  width_least = grind (arith, nat_tests);
  width_most = grind (arith, nat_tests);
  height_least = grind (arith, nat_tests);
  height_most = grind (arith, nat_tests);
  hblank_most = grind (arith, nat_tests);
  vblank_most = grind (arith, nat_tests);
  capacity_most = grind (arith, nat_tests);
  burst_least = grind (arith, nat_tests);
  burst_most = grind (arith, nat_tests);
  latency_least = grind (arith, nat_tests);
  latency_most = grind (arith, nat_tests);
}

pub good_from : (p : Numbers) → Good p → good p ≡ true
unfolding good
good_from p g = grind (arith, nat_tests)

-- so no number that is worked out from a plan is large
pub record Small (p : Numbers) : Type 0 where
  pub line_some : 0 < line_ticks p
  pub line_most : line_ticks p ≤ 8192
  pub lines_most : p.height * line_ticks p ≤ 33554432
  pub frame_most : frame_ticks p ≤ 33619968
  pub dots_most : frame_dots p ≤ 16777216

pub small : (p : Numbers) → good p ≡ true → Small p
unfolding line_ticks frame_ticks frame_dots
small p h =
    let g = good_says p h in
    let line : p.hblank + p.width ≤ 8192 = omega (arith, g) in
    let lines : p.height * (p.hblank + p.width) ≤ 33554432 = mul-le _ _ 4096 8192 g.height_most line in
    record {
      line_some = omega (arith, g.width_least);
      line_most = line;
      lines_most = lines;
      frame_most = omega (arith, lines, g.vblank_most);
      dots_most = mul-le _ _ 4096 4096 g.width_most g.height_most;
    }
