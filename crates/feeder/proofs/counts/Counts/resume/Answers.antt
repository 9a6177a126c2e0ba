use Rattle.std.proofs.Common.{◌≡◌, None, get_or, leb, sym, refl, ap, ◌∙◌, ap₂, arith, rules, ℕ, ◌<◌, Some, Option, MatchOption, IsSome, subst}
use Rattle.std.proofs.lemmas.Result.{err_from_is_err_and}
use Rattle.timing.specs.Frame.{frame_ticks, frame_dots}
use Rattle.timing.specs.declared.plans.Plan.{Plan}
use Rattle.timing.specs.declared.scans.Scan.{Scan}
use Rattle.feeder.specs.Panel.{accepted}
use Rattle.feeder.specs.Lent.{tick_at, progress_at, mark_refusal}
use Rattle.feeder.proofs.Lents.{too_long, too_short, at_marks, at_counts, inside, counts_right}
use Rattle.feeder.proofs.counts.Counts.resume.Goals as goal
use Rattle.feeder.proofs.counts.Counts.resume.Goals.{In_ok-check_marks}

pub returns-then-state-gt6 : goal.returns-then-state-gt6
returns-then-state-gt6 c = too_long _ _ c.if-state-gt6.true

pub returns-in_default : goal.returns-in_default
returns-in_default c = too_short _ _ (search rules)

pub returns-in_err-check_marks : goal.returns-in_err-check_marks
returns-in_err-check_marks c =
    let e = err_from_is_err_and c.from_residual.result c.from_residual.ensures.1 in
    rw (e.1, e.2) (at_marks _ _ _ (search rules) (rw (← c.frame_ticks.ensures) c.in_err-check_marks.ensures))

-- past the marks only the counts can be wrong
marked : (c : In_ok-check_marks) → mark_refusal (leb (frame_ticks c.args.plan.numbers) (tick_at c.args.state.now)) (get_or c.args.state.now 3 0) (get_or c.args.state.now 5 0) ≡ None
marked c = rw (← c.frame_ticks.ensures) c.in_ok-check_marks.ensures

pub returns-in_err-check_counts : goal.returns-in_err-check_counts
returns-in_err-check_counts c =
    let e = err_from_is_err_and c.from_residual-in_err-check_counts.result c.from_residual-in_err-check_counts.ensures.1 in
    rw (e.1, e.2) (at_counts _ _ (search rules) (marked (goal.at.returns-in_err-check_counts c).In_ok-check_marks) ∙ c.in_err-check_counts.ensures)

-- a tick of the frame has a scan, and it is the one that is asked for
abbrev There : Plan → ℕ → Option Scan → Type 0
There plan t r = MatchOption r (frame_ticks plan.numbers < t) (λ scan. (scan.plan ≡ plan) × (scan.at.tick ≡ t))

there_is : (plan : Plan) (t : ℕ) (r : Option Scan) → There plan t r → t < frame_ticks plan.numbers → IsSome r
there_is plan t None h inside = absurd (omega arith)
there_is plan t (Some s) h inside = refl

scan_is : (plan : Plan) (t : ℕ) (r : Option Scan) (s : Scan) → r ≡ Some s → There plan t r → (s.plan ≡ plan) × (s.at.tick ≡ t)
scan_is plan t r s e h = subst (There plan t) e h

pub unwrap-scan-requires : goal.unwrap-scan-requires
unwrap-scan-requires c =
    let here = inside _ _ _ _ (marked (goal.at.unwrap-scan-requires c).In_ok-check_marks) in
    there_is _ _ c.resume.result c.resume.ensures (omega (arith, here))

pub invariant_of-result : goal.invariant_of-result
invariant_of-result c =
    let scan = scan_is _ _ c.resume.result c.unwrap-scan.result c.unwrap-scan.ensures c.resume.ensures in record {
      dots = c.frame_dots.ensures.value ∙ ap (λ (q : Plan). frame_dots q.numbers) (sym scan.0);
      ok = ap₂ (λ (q : Plan) t. accepted q.numbers t (progress_at c.args.state.now)) scan.0 scan.1 ∙ counts_right _ _ _ c.in_ok-check_counts.ensures;
    }

pub returns : goal.returns
returns c =
    let scan = scan_is _ _ c.resume.result c.unwrap-scan.result c.unwrap-scan.ensures c.resume.ensures in
    record {
      right = at_counts _ _ (search rules) (marked (goal.at.returns c).In_ok-check_marks) ∙ c.in_ok-check_counts.ensures;
      plan_is = scan.0;
      tick_is = scan.1;
      progress_is = refl;
    }
