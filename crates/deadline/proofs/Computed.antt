-- The plans worked out to the tick: the frame of a plain line computes, tick by tick.
use Rattle.std.proofs.Common.{◌≡◌, ℕ, suc, ◌-◌, ◌<◌, min, Bool, true, false, not, ◌&&◌, Some, None, refl, ap, ◌∙◌, lit<}
use mathlib.Core.Path.{fun_ext}
use Rattle.std.proofs.lemmas.Bool.{and_parts, not-true}
use Rattle.timing.specs.Frame.{frame_ticks, frame_dots, line_ticks}
use Rattle.timing.specs.Good.{good}
use Rattle.timing.specs.declared.numbers.Numbers.{Numbers}
use Rattle.feeder.specs.Feed.{FirstUnderrun}
use Rattle.feeder.specs.Model.{Demand, begun, answers, answered, waiting, after_answer, uses, misses, after_take, next_request, asks, asked, after_ask, after_tick, after, latest}
use Rattle.feeder.specs.Panel.{demand_of, in_time}
use Rattle.feeder.proofs.Frames.{soonest}
use Rattle.deadline.specs.Rule.{AlwaysFed}
use Rattle.deadline.specs.Worked.{line_of, Works, Fails, Worked}
use Rattle.deadline.proofs.Exacts.{taken_plain, always_fed}

-- the demand of a plain line, whose curve computes at once
plain_demand : Numbers → Demand
plain_demand p =
    let dots = frame_dots p in
    record { need = λ t. min (t - p.vblank) dots; free = λ t. min (t - p.vblank) dots; total = dots; capacity = p.capacity; burst = p.burst; latency = p.latency }

same_demand : (p : Numbers) → good p ≡ true → p.hblank ≡ 0 → demand_of p ≡ plain_demand p
unfolding demand_of plain_demand
same_demand p ok plain =
    ap (λ (curve : ℕ → ℕ). record { need = curve; free = curve; total = frame_dots p; capacity = p.capacity; burst = p.burst; latency = p.latency }) (fun_ext (taken_plain p ok plain))

-- whether a dot was missing before tick t, by the latest memory; and whether t is the first tick that misses one
dry : Numbers → ℕ → Bool
dry p t = (after (plain_demand p) latest t).underrun

first_dry : Numbers → ℕ → Bool
first_dry p t = not (dry p t) && dry p (suc t)

same_run : (p : Numbers) → good p ≡ true → p.hblank ≡ 0 → (t : ℕ) → (after (demand_of p) latest t).underrun ≡ dry p t
unfolding dry
same_run p ok plain t = ap (λ d. (after d latest t).underrun) (same_demand p ok plain)

works : (p : Numbers) → good p ≡ true → in_time p ≡ true → Works p
works p ok fast = (fast, always_fed p ok fast)

fails : (p : Numbers) (t : ℕ) → good p ≡ true → p.hblank ≡ 0 → in_time p ≡ false → t < frame_ticks p → first_dry p t ≡ true → Fails p t
unfolding first_dry
fails p t ok plain late inside h =
    let parts = and_parts _ _ h in
    let first : FirstUnderrun p latest (Some t) = (inside, same_run p ok plain t ∙ not-true _ parts.0, same_run p ok plain (suc t) ∙ parts.1) in
    record { late = late; first = first; soonest = soonest p (Some t) first }

spared : (p : Numbers) → good p ≡ true → p.hblank ≡ 0 → dry p (frame_ticks p) ≡ false → AlwaysFed p
spared p ok plain none = soonest p None (same_run p ok plain (frame_ticks p) ∙ none)

-- what computing says
record Runs : Type 0 where
  slow : first_dry (line_of 4000 2 500 500 3) 1496 ≡ true
  cramped : first_dry (line_of 4000 3 4 500 3) 503 ≡ true
  sudden : first_dry (line_of 4000 3 500 2 3) 2 ≡ true
  short : dry (line_of 8 1 5 9 2) 17 ≡ false
  long : first_dry (line_of 4000 1 5 9 2) 17 ≡ true

runs : Runs
unfolding first_dry dry plain_demand frame_dots begun answers answered waiting after_answer uses misses after_take next_request asks asked after_ask after_tick after
runs = record { slow = refl; cramped = refl; sudden = refl; short = refl; long = refl }

pub worked : Worked
unfolding good in_time frame_ticks line_ticks
worked = record {
  threes = works (line_of 4000 3 5 3 3) refl refl;
  slow = fails (line_of 4000 2 500 500 3) 1496 refl refl refl (lit< tt) runs.slow;
  cramped = fails (line_of 4000 3 4 500 3) 503 refl refl refl (lit< tt) runs.cramped;
  sudden = fails (line_of 4000 3 500 2 3) 2 refl refl refl (lit< tt) runs.sudden;
  fives = works (line_of 4000 5 9 5 5) refl refl;
  short = (refl, spared (line_of 8 1 5 9 2) refl refl runs.short);
  long = fails (line_of 4000 1 5 9 2) 17 refl refl refl (lit< tt) runs.long;
}
