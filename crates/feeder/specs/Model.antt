-- The feeder over any demand: a tick's three moves, and a frame. Assumes nothing: these are definitions.
use Rattle.std.specs.Prelude.{ℕ, zero, suc, ◌+◌, ◌-◌, min, Bool, true, false, cond, not, ◌&&◌, ◌||◌, nat_le, nat_lt}
use Rattle.feeder.specs.declared.outcomes.Outcome.{Outcome}
use Rattle.feeder.specs.declared.outcomes.Outcome.TheVariants.{Dot, Dark, Missing}
use Rattle.feeder.specs.declared.states.Progress.{Progress}

-- what a panel demands: how many dots it has used before a tick, and how many places of the FIFO it has given back; the dots of the frame, the places of the FIFO, the dots that one answer brings, the ticks that it takes at most
pub record Demand : Type 0 where
  pub need : ℕ → ℕ
  pub free : ℕ → ℕ
  pub total : ℕ
  pub capacity : ℕ
  pub burst : ℕ
  pub latency : ℕ

-- a frame's start: nothing is requested
unfoldable pub begun : Progress
begun = record { requested = 0; arrived = 0; pending = false; waited = 0; underrun = false }

-- first the memory may answer what is pending, and must where this is the last tick that it has
unfoldable pub answers : Demand → Bool → Progress → Bool
answers d willing f = f.pending && (willing || nat_le d.latency (f.waited + 1))

unfoldable pub answered : Progress → Progress
answered f = record { requested = f.requested; arrived = f.requested; pending = false; waited = 0; underrun = f.underrun }

unfoldable pub waiting : Progress → Progress
waiting f = record { requested = f.requested; arrived = f.arrived; pending = f.pending; waited = cond f.pending (f.waited + 1) 0; underrun = f.underrun }

unfoldable pub after_answer : Demand → Bool → Progress → Progress
after_answer d willing f = cond (answers d willing f) (answered f) (waiting f)

-- then the panel may use a dot, which is missing where it has not arrived
unfoldable pub uses : Demand → ℕ → Bool
uses d t = nat_lt (d.need t) (d.need (suc t))

unfoldable pub misses : Demand → ℕ → Progress → Bool
misses d t f = uses d t && nat_le f.arrived (d.need t)

unfoldable pub after_take : Demand → ℕ → Progress → Progress
after_take d t f = record { requested = f.requested; arrived = f.arrived; pending = f.pending; waited = f.waited; underrun = f.underrun || misses d t f }

-- last, where nothing is pending and dots are left, one more burst or what is left is requested, if all of it has room beside what was not given back by the end of this tick
unfoldable pub next_request : Demand → Progress → ℕ
next_request d f = min (f.requested + d.burst) d.total

unfoldable pub asks : Demand → ℕ → Progress → Bool
asks d t f = not f.pending && (nat_lt f.requested d.total && nat_le (next_request d f) (d.free (suc t) + d.capacity))

unfoldable pub asked : Demand → Progress → Progress
asked d f = record { requested = next_request d f; arrived = f.arrived; pending = true; waited = 0; underrun = f.underrun }

unfoldable pub after_ask : Demand → ℕ → Progress → Progress
after_ask d t f = cond (asks d t f) (asked d f) f

unfoldable pub after_tick : Demand → Bool → ℕ → Progress → Progress
after_tick d willing t f = after_ask d t (after_take d t (after_answer d willing f))

-- the feeder before tick t of a frame, where w says in which ticks the memory is willing
unfoldable pub after : Demand → (ℕ → Bool) → ℕ → Progress
after d w zero = begun
after d w (suc t) = after_tick d (w t) t (after d w t)

-- the memory that always takes as long as it may
abbrev pub latest : ℕ → Bool
latest t = false

-- what the panel gets in a tick, with how many dots are requested in it
unfoldable pub requests : Demand → Bool → ℕ → Progress → ℕ
requests d willing t f = (after_tick d willing t f).requested - f.requested

unfoldable pub outcome : Demand → Bool → ℕ → Progress → Outcome
outcome d willing t f =
    cond (uses d t) (cond (misses d t (after_answer d willing f)) (Missing (requests d willing t f)) (Dot (requests d willing t f))) (Dark (requests d willing t f))

-- whether the panel takes a dot, and whether it is missing
abbrev pub takes_dot : Outcome → Bool
takes_dot (Dot n) = true
takes_dot (Dark n) = false
takes_dot (Missing n) = true

abbrev pub is_missing : Outcome → Bool
is_missing (Dot n) = false
is_missing (Dark n) = false
is_missing (Missing n) = true
