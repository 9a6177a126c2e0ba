-- The verdict is that a plan is in time just where the rule says so, and a row that is no plan is turned away.
use Rattle.std.proofs.Common.{◌≡◌, ℕ, ◌+◌, true, false, ltb, List, length, Decides, Ok, Err, Result, MatchResult, IsOk, rules, sym, ap, ◌∙◌, ⊎_elim, arith}
use Rattle.std.proofs.lemmas.Bool.{cases_Bool, cond_both, and_parts, and_left, and_right, ne_eqb, both_ways}
use Rattle.std.proofs.lemmas.Bool.Decides.{nat_tests}
use Rattle.timing.specs.Row.{numbers_in, Refuses}
use Rattle.timing.specs.declared.numbers.Numbers.{Numbers}
use Rattle.timing.specs.declared.plans.Plan.{Plan}
use Rattle.timing.specs.declared.refusals.PlanRefusal.{PlanRefusal}
use Rattle.timing.specs.declared.refusals.PlanRefusal.TheVariants.{TooShort, TooLong, OutOfRange}
use Rattle.timing.proofs.Rows.{refused_wrong}
use Rattle.feeder.specs.Panel.{in_time}
use Rattle.deadline.specs.Rule.{AlwaysFed, Exact}
use Rattle.deadline.specs.Verdict.{verdict_of, number_of, is_plan, verdict_in, Judges}
use Rattle.deadline.specs.declared.verdicts.Verdict.{Verdict}
use Rattle.deadline.specs.declared.verdicts.Verdict.TheVariants.{InTime, TurnedAway}
use Rattle.deadline.proofs.Exacts.{always_fed, exact}

verdict_in_time : (p : Numbers) → in_time p ≡ true → verdict_of p ≡ InTime
unfolding verdict_of in_time
verdict_in_time p h = grind (arith, nat_tests)

in_time_number : (p : Numbers) → number_of (verdict_of p) ≡ 0 → in_time p ≡ true
unfolding verdict_of in_time
in_time_number p = cond_both (ltb p.burst p.latency) _ _ (λ (v : Verdict). number_of v ≡ 0 → in_time p ≡ true)
    (λ slow e. absurd (omega arith))
    (λ fast. cond_both (ltb (p.capacity + 1) (p.burst + p.latency)) _ _ (λ (v : Verdict). number_of v ≡ 0 → in_time p ≡ true)
    (λ tight e. absurd (omega arith))
    (λ wide. cond_both (ltb p.vblank p.latency) _ _ (λ (v : Verdict). number_of v ≡ 0 → in_time p ≡ true)
    (λ late e. absurd (omega arith))
    (λ soon e. grind (arith, nat_tests))))

pub judged : (p : Numbers) (v : Verdict) → v ≡ verdict_of p → Decides (in_time p) (v ≡ InTime)
judged p v e = (λ h. e ∙ verdict_in_time p h, λ h. in_time_number p (ap number_of (sym e ∙ h)))

-- a refused row is no plan
pub no_plan : (row : List ℕ) (e : PlanRefusal) → Refuses row e → is_plan row ≡ false
no_plan row (TooShort place) h = and_left _ _ (ne_eqb (length row) 7 (λ seven. omega (arith, h.0)))
no_plan row TooLong h = and_left _ _ (ne_eqb (length row) 7 (λ seven. omega (arith, h)))
no_plan row (OutOfRange place low high) w = and_right _ _ (refused_wrong row place low high w)

pub turned_away : (row : List ℕ) (v : Verdict) (e : PlanRefusal) → v ≡ TurnedAway e → Refuses row e → Judges row v
turned_away row v e is h = rw (no_plan row e h) (e, is, h)

pub fed_by_number : (row : List ℕ) → verdict_in row ≡ 0 → AlwaysFed (numbers_in row)
fed_by_number row = cond_both (is_plan row) _ _ (λ n. n ≡ 0 → AlwaysFed (numbers_in row))
    (λ plan e. always_fed _ (and_parts _ _ plan).1 (in_time_number _ e))
    (λ none e. absurd (omega arith))

pub exact_row : (row : List ℕ) → is_plan row ≡ true → Exact (numbers_in row)
exact_row row plan = exact _ (and_parts _ _ plan).1

pub number_judged : (row : List ℕ) (v : Verdict) → Judges row v → number_of v ≡ verdict_in row
number_judged row v = ⊎_elim
    (λ plan. rw plan (λ e. ap number_of e))
    (λ none. rw none (λ away. ap number_of away.1))
    (cases_Bool (is_plan row))

-- a row that is a plan is read as one
pub no_refusal : (row : List ℕ) (read : Result Plan PlanRefusal) → is_plan row ≡ true → MatchResult read (λ plan. (length row ≡ 7) × (plan.numbers ≡ numbers_in row)) (Refuses row) → IsOk read
no_refusal row (Ok plan) ok is = search rules
no_refusal row (Err e) ok is = absurd (both_ways _ (no_plan row e is) ok)

pub row_judged : (row : List ℕ) (read : Result Plan PlanRefusal) (v : Verdict) → MatchResult read (λ plan. (length row ≡ 7) × (plan.numbers ≡ numbers_in row)) (Refuses row) → MatchResult read (λ plan. v ≡ verdict_of plan.numbers) (λ e. v ≡ TurnedAway e) → Judges row v
row_judged row (Ok plan) v is judged =
    let ok : is_plan row ≡ true = rw (is.0, ← is.1) plan.ok in
    rw ok (judged ∙ ap verdict_of is.1)
row_judged row (Err e) v is judged = turned_away row v e judged is
