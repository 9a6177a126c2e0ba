-- Which verdict a plan gets, and by which number it is known outside. Assumes nothing: these are definitions.
use Rattle.std.specs.Prelude.{◌≡◌, ℕ, ◌+◌, ◌-◌, Bool, cond, ◌&&◌, List, length, MatchBool, ◌==◌, nat_lt}
use Rattle.timing.specs.Good.{good}
use Rattle.timing.specs.Row.{numbers_in, Refuses}
use Rattle.timing.specs.declared.numbers.Numbers.{Numbers}
use Rattle.timing.specs.declared.refusals.PlanRefusal.{PlanRefusal}
use Rattle.deadline.specs.declared.verdicts.Verdict.{Verdict}
use Rattle.deadline.specs.declared.verdicts.Verdict.TheVariants.{InTime, TurnedAway, Slow, Cramped, Sudden}

-- the first of the three conditions that is not met, with what is and what would have to be
unfoldable pub verdict_of : Numbers → Verdict
verdict_of p =
    cond (nat_lt p.burst p.latency) (Slow p.burst p.latency)
    (cond (nat_lt (p.capacity + 1) (p.burst + p.latency)) (Cramped p.capacity (p.burst + p.latency - 1) p.burst p.latency)
    (cond (nat_lt p.vblank p.latency) (Sudden p.vblank p.latency) InTime))

abbrev pub number_of : Verdict → ℕ
number_of InTime = 0
number_of (TurnedAway refusal) = 1
number_of (Slow burst latency) = 2
number_of (Cramped capacity needed burst latency) = 3
number_of (Sudden vblank latency) = 4

abbrev pub is_plan : List ℕ → Bool
is_plan row = length row == 7 && good (numbers_in row)

-- a row that is a plan is judged by the rule, and any other is turned away for what is wrong with it
abbrev pub Judges : List ℕ → Verdict → Type 0
Judges row v = MatchBool (is_plan row) (v ≡ verdict_of (numbers_in row)) ((e : PlanRefusal) × (v ≡ TurnedAway e) × Refuses row e)

abbrev pub verdict_in : List ℕ → ℕ
verdict_in row = cond (is_plan row) (number_of (verdict_of (numbers_in row))) 1
