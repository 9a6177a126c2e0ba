-- The plain panel, which gives a place back as it takes the dot. Assumes nothing: these are definitions.
use Rattle.std.specs.Prelude.{◌≡◌, ℕ, suc, ◌+◌, min, Bool, true, cond, not, ◌&&◌, ◌||◌, ◌==◌, nat_le, nat_lt}
use Rattle.timing.specs.Frame.{frame_dots, takes, taken}
use Rattle.timing.specs.declared.numbers.Numbers.{Numbers}
use Rattle.feeder.specs.Model.{Demand, after, after_answer, after_take, after_ask, uses, answered, waiting}
use Rattle.feeder.specs.declared.states.Progress.{Progress}

unfoldable pub demand_of : Numbers → Demand
demand_of p = record { need = taken p; free = taken p; total = frame_dots p; capacity = p.capacity; burst = p.burst; latency = p.latency }

-- the rule: the memory brings at once as many dots as an answer takes ticks; there is room for a burst and one dot less than an answer takes ticks; the frame begins as late as an answer may come
unfoldable pub in_time : Numbers → Bool
in_time p = nat_le p.latency p.burst && (nat_le (p.burst + p.latency) (p.capacity + 1) && nat_le p.latency p.vblank)

-- the feeder is one that a frame reaches before tick t, by some way of answering
abbrev pub Reached : Numbers → ℕ → Progress → Type 0
Reached p t f = ∥ ((w : ℕ → Bool) × (after (demand_of p) w t ≡ f)) ∥₁

-- numbers that a feeder can have before tick t
unfoldable pub accepted : Numbers → ℕ → Progress → Bool
accepted p t f =
    nat_le f.arrived f.requested && (nat_le f.requested (frame_dots p) && (nat_le f.requested (taken p t + p.capacity) && (nat_lt f.waited p.latency
    && (nat_le f.requested (f.arrived + p.burst) && cond f.pending (nat_lt f.arrived f.requested) (f.requested == f.arrived && f.waited == 0)))))

-- the take and the ask over plain numbers: whether the dot is missing; and the burst, the frame's dots, and up to which dot there is room
unfoldable pub noted : Bool → Progress → Progress
noted missing f = record { requested = f.requested; arrived = f.arrived; pending = f.pending; waited = f.waited; underrun = f.underrun || missing }

unfoldable pub asked_for : ℕ → ℕ → ℕ → Progress → Progress
asked_for burst total room f =
    cond (not f.pending && (nat_lt f.requested total && nat_le (min (f.requested + burst) total) room))
    (record { requested = min (f.requested + burst) total; arrived = f.arrived; pending = true; waited = 0; underrun = f.underrun }) f

-- For a plan the three moves read: an answer comes within the latency; a dot is missing where the panel takes one and no more have arrived than were taken before; a burst is requested where it has room beside the dots that are not taken by the end of the tick
pub record ByPlan (p : Numbers) : Type 0 where
  pub uses_is : (t : ℕ) → uses (demand_of p) t ≡ takes p t
  pub answer_is : (w : Bool) (f : Progress) → after_answer (demand_of p) w f ≡ cond (f.pending && (w || nat_le p.latency (f.waited + 1))) (answered f) (waiting f)
  pub take_is : (t : ℕ) (f : Progress) → after_take (demand_of p) t f ≡ noted (takes p t && nat_le f.arrived (taken p t)) f
  pub ask_is : (t : ℕ) (f : Progress) → after_ask (demand_of p) t f ≡ asked_for p.burst (frame_dots p) (taken p (suc t) + p.capacity) f
