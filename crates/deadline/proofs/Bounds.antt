-- None of the three conditions can be had for less, and the least capacity is what the second one says.
use Rattle.std.proofs.Common.{◌≡◌, ℕ, ◌+◌, ◌-◌, ◌<◌, ◌≤◌, true, refl, arith}
use Rattle.std.proofs.lemmas.Bool.Decides.{nat_tests}
use Rattle.timing.specs.Frame.{frame_dots}
use Rattle.timing.specs.Good.{good}
use Rattle.timing.specs.declared.numbers.Numbers.{Numbers}
use Rattle.timing.proofs.Goods.{good_says}
use Rattle.feeder.specs.Panel.{in_time}
use Rattle.deadline.specs.Least.{with_capacity, NoCapacity, LeastCapacity}
use Rattle.deadline.specs.Tight.{frame_of, RateTight, RoomTight, LeadTight}
use Rattle.deadline.proofs.Exacts.{always_fed, exact}

module _ (size : ℕ) (h : size ≤ 65534) where
  good_rate : good (frame_of 1 (size + 2) (size + 2) 2) ≡ true
  unfolding good
  good_rate = grind (arith, nat_tests)

  good_room : good (frame_of (size + 2) (size + 2) (size + 2) 2) ≡ true
  unfolding good
  good_room = grind (arith, nat_tests)

  good_lead : good (frame_of (size + 1) (size + 1) 0 1) ≡ true
  unfolding good
  good_lead = grind (arith, nat_tests)

  pub rate_tight : RateTight size (frame_of 1 (size + 2) (size + 2) 2)
  unfolding frame_dots
  rate_tight = record {
    rate = refl;
    room = omega arith;
    lead = omega arith;
    large = (omega arith, omega arith);
    missing = (exact _ good_rate).rate refl (omega arith) (omega arith);
  }

  pub room_tight : RoomTight size (frame_of (size + 2) (size + 2) (size + 2) 2)
  unfolding frame_dots
  room_tight = record {
    rate = omega arith;
    room = omega arith;
    lead = omega arith;
    large = (omega arith, omega arith);
    missing = (exact _ good_room).room refl (omega arith) (omega arith);
  }

  pub lead_tight : LeadTight size (frame_of (size + 1) (size + 1) 0 1)
  unfolding frame_dots
  lead_tight = record {
    rate = omega arith;
    room = omega arith;
    lead = refl;
    large = (omega arith, omega arith);
    missing = (exact _ good_lead).lead refl (omega arith) (omega arith);
  }

-- a plan stays good with any capacity that holds its burst
good_with : (p : Numbers) (c : ℕ) → good p ≡ true → p.burst ≤ c → c ≤ 65536 → good (with_capacity c p) ≡ true
unfolding good
good_with p c ok low high = grind (arith, nat_tests)

pub no_capacity : (p : Numbers) → ((c : ℕ) → c ≤ 65536 → p.latency ≤ p.burst → p.latency ≤ p.vblank → c + 1 < p.burst + p.latency) → NoCapacity p
unfolding in_time good
no_capacity p none c ok = grind (arith, nat_tests, none c)

pub least : (p : Numbers) (c : ℕ) → good p ≡ true → p.latency ≤ p.burst → p.latency ≤ p.vblank → c ≡ p.burst + p.latency - 1 → c ≤ 65536 → LeastCapacity p c
unfolding in_time frame_dots
least p c ok rate lead is high =
    let g = good_says p ok in
    let fits : good (with_capacity c p) ≡ true = good_with p c ok (omega (arith, g.latency_least)) high in
    let fast : in_time (with_capacity c p) ≡ true = grind (arith, nat_tests, g.latency_least) in
    record {
      value = is;
      good_is = fits;
      in_time_is = fast;
      fed = always_fed _ fits fast;
      less = λ b below. grind (arith, nat_tests, g.latency_least);
      missing = λ plain enough b holds below. (exact (with_capacity b p) (good_with p b ok holds (omega arith))).room plain (omega arith) (omega (arith, g.latency_least));
    }
