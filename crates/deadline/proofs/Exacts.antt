-- Where lines have no blanking, each condition that is not met leaves a dot missing by the latest memory, so the rule is exact.
use Rattle.std.proofs.Common.{◌≡◌, ℕ, suc, ◌+◌, ◌-◌, ◌*◌, ◌/◌, ◌<◌, ◌≤◌, min, true, refl, ap, ◌∙◌, subst, ⊎_elim, suc-mul, mul_comm, add-mul, div-add-mod', mul-add, div-mul-le_self, arith}
use native.Mathlib.Nat.{lt-div-mul-add}
use Rattle.std.proofs.lemmas.Nat.{mul-le}
use Rattle.std.proofs.lemmas.Bool.{cases_lt, both_ways}
use Rattle.std.proofs.lemmas.Bool.Decides.{nat_tests}
use Rattle.timing.specs.Frame.{line_ticks, frame_ticks, frame_dots, taken}
use Rattle.timing.specs.Good.{good}
use Rattle.timing.specs.declared.numbers.Numbers.{Numbers}
use Rattle.timing.proofs.Curves.{curve, taken_is}
use Rattle.timing.proofs.Goods.{good_says}
use Rattle.feeder.specs.Model.{after, begun, latest}
use Rattle.feeder.specs.Panel.{demand_of, in_time}
use Rattle.feeder.proofs.Laws.{kept, never_late}
use Rattle.feeder.proofs.Plans.{sound, timely}
use Rattle.deadline.specs.Rule.{AlwaysFed, RunsDry, Monotone, Exact}
use Rattle.deadline.proofs.Lates.{sent, come, sent_rises, whole_bursts, come_late, come_by, dry_here, stays_dry}

pub monotone : (p : Numbers) → Monotone p
unfolding in_time
monotone p q e h = grind (arith, nat_tests, e.latency, e.burst, e.room, e.vblank)

-- by a plan in time no dot is ever missing
pub always_fed : (p : Numbers) → good p ≡ true → in_time p ≡ true → AlwaysFed p
always_fed p ok fast w = never_late (demand_of p) (sound p ok) (timely p fast) w (frame_ticks p)

module _ (p : Numbers) (ok : good p ≡ true) (plain : p.hblank ≡ 0) where
  -- dot after dot is taken behind the frame's blanking, until the frame has no more
  pub taken_plain : (t : ℕ) → taken p t ≡ min (t - p.vblank) (frame_dots p)
  unfolding frame_dots line_ticks
  taken_plain t =
      let gone = min (t - p.vblank) (p.height * p.width) in
      let line : p.width ≡ line_ticks p = omega (arith, plain) in
      taken_is p t gone p.width (good_says p ok).width_least line refl ∙ omega (arith, plain, div-add-mod' gone p.width, mul_comm p.width p.height)

  -- a frame is its blanking and its dots
  dots_plain : frame_ticks p ≡ p.vblank + frame_dots p
  unfolding frame_ticks frame_dots line_ticks
  dots_plain = omega (arith, plain, mul_comm p.width p.height, ap (λ n. p.height * (n + p.width)) plain)

  -- dot x is missing where no more than x have arrived by the tick that takes it
  dry_at : (x : ℕ) → x < frame_dots p → come (demand_of p) (suc (p.vblank + x)) ≤ x → RunsDry p
  unfolding demand_of
  dry_at x h few =
      let t = p.vblank + x in
      let before : taken p t ≡ x = omega (arith, taken_plain t) in
      let then : taken p (suc t) ≡ x + 1 = omega (arith, taken_plain (suc t)) in
      stays_dry (demand_of p) latest (suc t) (frame_ticks p) (omega (arith, dots_plain)) (dry_here (demand_of p) t (omega arith) (omega arith))

  lead : 0 < frame_dots p → p.vblank < p.latency → RunsDry p
  unfolding demand_of after begun
  lead some late =
      let none : suc (p.vblank + 0) - p.latency ≡ 0 = omega arith in
      let first : come (demand_of p) (suc (p.vblank + 0)) ≤ 0 = subst (λ n. come (demand_of p) (suc (p.vblank + 0)) ≤ sent (demand_of p) n) none (come_late (demand_of p) (sound p ok) (suc (p.vblank + 0))) in
      dry_at 0 some first

  rate : p.capacity * p.latency < frame_dots p → p.burst < p.latency → RunsDry p
  unfolding demand_of
  rate enough slow =
      let d = demand_of p in
      let v = p.vblank in
      let first : come d (suc v) ≤ p.capacity = omega (arith, come_late d (sound p ok) (suc v), sent_rises d (suc v - p.latency) v (omega (arith, (good_says p ok).latency_least)), (kept d latest v (sound p ok)).room, (curve p).dark v (omega arith)) in
      let same : suc v + p.capacity * p.latency ≡ suc (v + p.capacity * p.latency) = omega arith in
      let all : come d (suc (v + p.capacity * p.latency)) ≤ come d (suc v) + p.capacity * p.burst = subst (λ n. come d n ≤ come d (suc v) + p.capacity * p.burst) same (come_by d (sound p ok) (suc v) p.capacity) in
      let more : p.capacity * (p.burst + 1) ≤ p.capacity * p.latency = mul-le p.capacity (p.burst + 1) p.capacity p.latency (omega arith) (omega arith) in
      dry_at (p.capacity * p.latency) enough (omega (arith, mul-add p.capacity p.burst 1))

  -- burst k of those that fit the FIFO at once is the first that comes too late
  room : p.capacity + p.burst ≤ frame_dots p → p.capacity + 1 < p.burst + p.latency → RunsDry p
  unfolding demand_of
  room enough tight =
      let d = demand_of p in
      let b = p.burst in
      let k = p.capacity / b in
      let some : 0 < b = (good_says p ok).burst_least in
      let below : k * b ≤ p.capacity = div-mul-le_self p.capacity b in
      let above : p.capacity < k * b + b = lt-div-mul-add some in
      let t = suc (p.vblank + k * b) - p.latency in
      let asked : sent d t < k * b + b = omega (arith, (kept d latest t (sound p ok)).room, taken_plain t, (good_says p ok).latency_least) in
      let bursts = whole_bursts d t in
      let fewer : bursts.0 ≤ k = ⊎_elim
      (λ more. absurd (omega (arith, bursts.1, suc-mul k b, mul-le (suc k) b bursts.0 b more (omega arith))))
      (λ h. h)
      (cases_lt k bursts.0) in
      let level : sent d t ≤ k * b = omega (arith, bursts.1, mul-le bursts.0 b k b fewer (omega arith)) in
      dry_at (k * b) (omega arith) (omega (arith, come_late d (sound p ok) (suc (p.vblank + k * b)), level))

  -- in a frame of enough dots for each of the three
  exactly : (p.capacity + p.burst) * p.latency ≤ frame_dots p → AlwaysFed p → in_time p ≡ true
  unfolding in_time
  exactly enough fed =
      let g = good_says p ok in
      let never : RunsDry p → ⊥ = λ dry. both_ways _ (fed latest) dry in
      let grown : p.capacity * p.latency + p.burst * p.latency ≤ frame_dots p = omega (arith, add-mul p.capacity p.burst p.latency) in
      let one : 1 ≤ p.burst * p.latency = mul-le 1 1 p.burst p.latency g.burst_least g.latency_least in
      let whole : (p.capacity + p.burst) * 1 ≤ (p.capacity + p.burst) * p.latency = mul-le (p.capacity + p.burst) 1 (p.capacity + p.burst) p.latency (omega arith) g.latency_least in
      let fast : p.latency ≤ p.burst = ⊎_elim (λ slow. absurd (never (rate (omega arith) slow))) (λ h. h) (cases_lt p.burst p.latency) in
      let wide : p.burst + p.latency ≤ p.capacity + 1 = ⊎_elim (λ tight. absurd (never (room (omega arith) tight))) (λ h. h) (cases_lt (p.capacity + 1) (p.burst + p.latency)) in
      let soon : p.latency ≤ p.vblank = ⊎_elim (λ late. absurd (never (lead (omega arith) late))) (λ h. h) (cases_lt p.vblank p.latency) in
      grind (arith, nat_tests)

pub exact : (p : Numbers) → good p ≡ true → Exact p
exact p ok = record {
  fed = always_fed p ok;
  rate = rate p ok;
  room = room p ok;
  lead = lead p ok;
  exact = λ plain enough. (always_fed p ok, exactly p ok plain enough);
}
