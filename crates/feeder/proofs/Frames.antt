-- A frame run to its end follows the model from its start.
use Rattle.std.proofs.Common.{◌≡◌, ℕ, suc, ◌<◌, Bool, true, false, cond, ◌&&◌, leb, Some, None, Option, sym, refl, ap, ◌∙◌, subst}
use Rattle.std.proofs.lemmas.Bool.{both_ways, or_from, or_right}
use Rattle.timing.specs.Frame.{frame_ticks}
use Rattle.timing.specs.Good.{good}
use Rattle.timing.specs.declared.numbers.Numbers.{Numbers}
use Rattle.timing.specs.declared.plans.Plan.{Plan}
use Rattle.feeder.specs.Feed.{Follows, Ran, FirstUnderrun, Worst, Soonest}
use Rattle.feeder.specs.Model.{Demand, begun, uses, misses, after_answer, after, outcome, requests, latest, is_missing}
use Rattle.feeder.specs.Panel.{demand_of, in_time}
use Rattle.feeder.specs.Step.{plan_in, tick_in}
use Rattle.feeder.specs.declared.counts.Counts.{Counts}
use Rattle.feeder.specs.declared.outcomes.Outcome.{Outcome}
use Rattle.feeder.specs.declared.outcomes.Outcome.TheVariants.{Dot, Dark, Missing}
use Rattle.feeder.specs.declared.states.Progress.{Progress}
use Rattle.feeder.proofs.Laws.{tick_underrun, never_late}
use Rattle.feeder.proofs.Plans.{sound, timely}
use Rattle.feeder.proofs.Reach.{none_sooner}
use Rattle.feeder.proofs.Worst.{latest_least, latest_misses}

missing_given : (u m : Bool) (n : ℕ) → is_missing (cond u (cond (u && m) (Missing n) (Dot n)) (Dark n)) ≡ (u && m)
missing_given true true n = refl
missing_given true false n = refl
missing_given false m n = refl

-- the outcome is `Missing` just where the model misses a dot
missing_outcome : (d : Demand) (w : Bool) (t : ℕ) (f : Progress) → is_missing (outcome d w t f) ≡ misses d t (after_answer d w f)
unfolding outcome misses
missing_outcome d w t f = missing_given (uses d t) (leb (after_answer d w f).arrived (d.need t)) (requests d w t f)

pub ran : (a b : Counts) (willing : Bool) (o : Outcome) → Follows a willing o b → Ran a willing (is_missing o) b
ran a b willing o f = record {
  plan = f.plan;
  tick = f.tick;
  progress = f.progress;
  missing_is = ap is_missing f.outcome_is ∙ missing_outcome (demand_of (plan_in a)) willing (tick_in a) a.progress;
}

-- before tick t of a run: the feeder is the model's, and no dot was missing
pub record Along (p : Numbers) (w : ℕ → Bool) (t : ℕ) (c : Counts) : Type 0 where
  pub plan : plan_in c ≡ p
  pub tick : tick_in c ≡ t
  pub progress : c.progress ≡ after (demand_of p) w t
  pub clean : (after (demand_of p) w t).underrun ≡ false

pub along_start : (p : Numbers) (w : ℕ → Bool) (c : Counts) → plan_in c ≡ p → tick_in c ≡ 0 → c.progress ≡ begun → Along p w 0 c
unfolding after begun
along_start p w c plan tick progress = record { plan = plan; tick = tick; progress = progress; clean = refl }

-- what a tick of the run missed is what the model misses in it
module _ (p : Numbers) (w : ℕ → Bool) (t : ℕ) (a b : Counts) (willing missing : Bool) (along : Along p w t a) (same : willing ≡ w t) (r : Ran a willing missing b) where
  missing_here : missing ≡ misses (demand_of p) t (after_answer (demand_of p) (w t) (after (demand_of p) w t))
  missing_here = r.missing_is ∙ (cc)

  pub along_more : missing ≡ false → Along p w (suc t) b
  unfolding after
  along_more none = record {
    plan = ap (λ (q : Plan). q.numbers) r.plan ∙ along.plan;
    tick = r.tick ∙ ap suc along.tick;
    progress = r.progress ∙ (cc);
    clean = tick_underrun (demand_of p) (w t) t (after (demand_of p) w t) ∙ or_from _ _ along.clean (sym missing_here ∙ none);
  }

  pub first_here : t < frame_ticks p → missing ≡ true → FirstUnderrun p w (Some t)
  unfolding after
  first_here inside hit = (inside, along.clean, tick_underrun (demand_of p) (w t) t (after (demand_of p) w t) ∙ or_right _ _ (sym missing_here ∙ hit))

pub first_none : (p : Numbers) (w : ℕ → Bool) (t : ℕ) (c : Counts) → Along p w t c → t ≡ frame_ticks p → FirstUnderrun p w None
first_none p w t c along end = subst (λ n. (after (demand_of p) w n).underrun ≡ false) end along.clean

-- what the first tick by the latest memory says of every other
pub soonest : (p : Numbers) (r : Option ℕ) → FirstUnderrun p latest r → Soonest p r
soonest p None h = λ w. none_sooner p w (frame_ticks p) h
soonest p (Some t) h = λ w. none_sooner p w t h.1

pub worst : (p : Numbers) → Worst p
worst p = record { fewest = latest_least (demand_of p); missing = latest_misses (demand_of p) }

pub none_in_time : (p : Numbers) (r : Option ℕ) → good p ≡ true → in_time p ≡ true → FirstUnderrun p latest r → r ≡ None
none_in_time p None ok fast h = refl
none_in_time p (Some t) ok fast h = absurd (both_ways _ (never_late (demand_of p) (sound p ok) (timely p fast) latest (suc t)) h.2)
