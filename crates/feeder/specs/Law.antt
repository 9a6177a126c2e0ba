-- When no dot can be missing, whatever the memory does within its time. Assumes nothing: these are definitions.
use Rattle.std.specs.Prelude.{◌≡◌, ℕ, suc, ◌+◌, ◌≤◌}
use Rattle.feeder.specs.Model.{Demand}

-- both curves rise, what is given back was used, one dot at most is used in a tick, and no more than there are
pub record Sound (d : Demand) : Type 0 where
  pub starts : d.need 0 ≡ 0
  pub rises : (t : ℕ) → d.need t ≤ d.need (suc t)
  pub slowly : (t : ℕ) → d.need (suc t) ≤ d.need t + 1
  pub within : (t : ℕ) → d.need t ≤ d.total
  pub frees : (t : ℕ) → d.free t ≤ d.free (suc t)
  pub used : (t : ℕ) → d.free t ≤ d.need t
  pub some : 1 ≤ d.burst
  pub fits : d.burst ≤ d.capacity
  pub late : 1 ≤ d.latency

-- the three conditions: while an answer is awaited no more is used than it brings; there is room for a burst beside what is used meanwhile; nothing is used before the first answer
pub record Timely (d : Demand) : Type 0 where
  pub rate : (t : ℕ) → d.need (t + d.latency) ≤ d.need t + d.burst
  pub room : (t : ℕ) → d.need (t + d.latency) + d.burst ≤ d.free t + d.capacity + 1
  pub lead : d.need d.latency ≡ 0
