-- The least capacity by which a plan is in time, its other numbers being what they are. Assumes nothing: these are definitions.
use Rattle.std.specs.Prelude.{◌≡◌, ℕ, ◌+◌, ◌-◌, ◌<◌, ◌≤◌, true, false}
use Rattle.timing.specs.Frame.{frame_dots}
use Rattle.timing.specs.Good.{good}
use Rattle.timing.specs.declared.numbers.Numbers.{Numbers}
use Rattle.feeder.specs.Panel.{in_time}
use Rattle.deadline.specs.Rule.{AlwaysFed, RunsDry}

abbrev pub with_capacity : ℕ → Numbers → Numbers
with_capacity c p = record { width = p.width; height = p.height; hblank = p.hblank; vblank = p.vblank; capacity = c; burst = p.burst; latency = p.latency }

abbrev pub NoCapacity : Numbers → Type 0
NoCapacity p = (c : ℕ) → good (with_capacity c p) ≡ true → in_time (with_capacity c p) ≡ false

-- with it the plan is good and no dot is missing by any way of answering; with any less the rule fails, and where lines have no blanking and the frame has dots enough, a dot is missing by the latest memory
pub record LeastCapacity (p : Numbers) (c : ℕ) : Type 0 where
  pub value : c ≡ p.burst + p.latency - 1
  pub good_is : good (with_capacity c p) ≡ true
  pub in_time_is : in_time (with_capacity c p) ≡ true
  pub fed : AlwaysFed (with_capacity c p)
  pub less : (b : ℕ) → b < c → in_time (with_capacity b p) ≡ false
  pub missing : p.hblank ≡ 0 → c + p.burst ≤ frame_dots p → (b : ℕ) → p.burst ≤ b → b < c → RunsDry (with_capacity b p)
