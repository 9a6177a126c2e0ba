-- Plans that miss one condition by one, and the other two by nothing, however large the rest is. Assumes nothing: these are definitions.
use Rattle.std.specs.Prelude.{◌≡◌, ℕ, ◌+◌, ◌≤◌}
use Rattle.timing.specs.declared.numbers.Numbers.{Numbers}
use Rattle.deadline.specs.Rule.{RunsDry}
use Rattle.deadline.specs.declared.examples.TightPlans.{TightPlans}

-- the largest frame, with no blanking before its lines
abbrev pub frame_of : ℕ → ℕ → ℕ → ℕ → Numbers
frame_of burst capacity vblank latency = record { width = 4096; height = 4096; hblank = 0; vblank = vblank; capacity = capacity; burst = burst; latency = latency }

-- a burst that is one dot too small
pub record RateTight (size : ℕ) (p : Numbers) : Type 0 where
  pub rate : p.latency ≡ p.burst + 1
  pub room : p.burst + p.latency ≤ p.capacity + 1
  pub lead : p.latency ≤ p.vblank
  pub large : (size ≤ p.capacity) × (size ≤ p.vblank)
  pub missing : RunsDry p

-- a capacity that is one place too small
pub record RoomTight (size : ℕ) (p : Numbers) : Type 0 where
  pub rate : p.latency ≤ p.burst
  pub room : p.burst + p.latency ≡ p.capacity + 2
  pub lead : p.latency ≤ p.vblank
  pub large : (size ≤ p.burst) × (size ≤ p.vblank)
  pub missing : RunsDry p

-- a vblank that is one tick too short
pub record LeadTight (size : ℕ) (p : Numbers) : Type 0 where
  pub rate : p.latency ≤ p.burst
  pub room : p.burst + p.latency ≤ p.capacity + 1
  pub lead : p.latency ≡ p.vblank + 1
  pub large : (size ≤ p.burst) × (size ≤ p.capacity)
  pub missing : RunsDry p

pub record Tight (size : ℕ) (t : TightPlans) : Type 0 where
  pub rate_is : t.rate.numbers ≡ frame_of 1 (size + 2) (size + 2) 2
  pub room_is : t.room.numbers ≡ frame_of (size + 2) (size + 2) (size + 2) 2
  pub lead_is : t.lead.numbers ≡ frame_of (size + 1) (size + 1) 0 1
  pub rate : RateTight size t.rate.numbers
  pub room : RoomTight size t.room.numbers
  pub lead : LeadTight size t.lead.numbers
