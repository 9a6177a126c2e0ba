-- A probe follows the latest memory from a frame's start, and its samples are what is seen of that.
use Rattle.std.proofs.Common.{◌≡◌, ℕ, suc, ◌-◌, Bool, true, false, cond, Some, None, Option, MatchOption, sym, refl, ap, ◌∙◌, ap₂, subst}
use Rattle.timing.specs.Frame.{takes, taken}
use Rattle.timing.specs.declared.numbers.Numbers.{Numbers}
use Rattle.timing.specs.declared.plans.Plan.{Plan}
use Rattle.feeder.specs.Feed.{Over, Follows}
use Rattle.feeder.specs.Model.{begun, after, after_tick, after_answer, misses, uses, outcome, requests, latest, is_missing, takes_dot}
use Rattle.feeder.specs.Panel.{demand_of}
use Rattle.feeder.specs.Step.{plan_in, tick_in}
use Rattle.feeder.specs.declared.counts.Counts.{Counts}
use Rattle.feeder.specs.declared.outcomes.Outcome.{Outcome}
use Rattle.feeder.specs.declared.outcomes.Outcome.TheVariants as given
use Rattle.feeder.specs.declared.states.Progress.{Progress}
use Rattle.feeder.proofs.Frames.{ran}
use Rattle.feeder.proofs.Plans.{by_plan}
use Rattle.std.specs.Bool.{then_some}
use Rattle.scope.specs.Fill.{fill, dot_of, sample_in, Sampled}
use Rattle.scope.specs.Late.{late}
use Rattle.scope.specs.declared.samples.Sample.{Sample}

pub late_start : (c : Counts) → tick_in c ≡ 0 → c.progress ≡ begun → c.progress ≡ late c
unfolding after
late_start c tick progress = progress ∙ sym (ap (after (demand_of (plan_in c)) latest) tick)

dot_as : (o : Outcome) (k : ℕ) → then_some (takes_dot o) k ≡ dot_of o k
dot_as (given.Dot n) k = refl
dot_as (given.Dark n) k = refl
dot_as (given.Missing n) k = refl

module _ (a b : Counts) (o : Outcome) (follows : Follows a false o b) (here : a.progress ≡ late a) where
  -- one tick on
  on : b.progress ≡ after (demand_of (plan_in a)) latest (suc (tick_in a))
  unfolding after
  on = follows.progress ∙ ap (after_tick (demand_of (plan_in a)) false (tick_in a)) here

  late_next : b.progress ≡ late b
  late_next = on ∙ sym (ap₂ (λ (p : Numbers) t. after (demand_of p) latest t) (ap (λ (q : Plan). q.numbers) follows.plan) follows.tick)

  dot_given : (u m : Bool) (n k : ℕ) → dot_of (cond u (cond m (given.Missing n) (given.Dot n)) (given.Dark n)) k ≡ cond u (Some k) None
  dot_given true true n k = refl
  dot_given true false n k = refl
  dot_given false m n k = refl

  dot_seen : dot_of o (taken (plan_in a) (tick_in a)) ≡ cond (takes (plan_in a) (tick_in a)) (Some (taken (plan_in a) (tick_in a))) None
  unfolding outcome
  dot_seen =
      let d = demand_of (plan_in a) in
      let t = tick_in a in
      ap (λ q. dot_of q (taken (plan_in a) t)) follows.outcome_is
      ∙ dot_given (uses d t) (misses d t (after_answer d false a.progress)) (requests d false t a.progress) (taken (plan_in a) t)
      ∙ ap (λ u. cond u (Some (taken (plan_in a) t)) None) ((by_plan (plan_in a)).uses_is t)

  pub sampled : (s : Sample) → s.tick ≡ tick_in a → s.dot ≡ then_some (takes_dot o) (taken (plan_in a) (tick_in a)) → s.missing ≡ is_missing o →
      s.requested ≡ b.progress.requested → s.arrived ≡ b.progress.arrived → s.pending ≡ b.progress.pending → s.fill ≡ b.progress.arrived - taken (plan_in b) (tick_in b) → Sampled a s b
  unfolding sample_in fill
  sampled s tick dot missing requested arrived pending level =
      let dots = dot ∙ dot_as o _ ∙ dot_seen in
      let misses_is = missing ∙ (ran a b false o follows).missing_is ∙ ap (λ f. misses (demand_of (plan_in a)) (tick_in a) (after_answer (demand_of (plan_in a)) false f)) here in
      let asked = requested ∙ ap (λ (f : Progress). f.requested) on in
      let come = arrived ∙ ap (λ (f : Progress). f.arrived) on in
      let waits = pending ∙ ap (λ (f : Progress). f.pending) on in
      let full = level ∙ ap₂ (λ (f : Progress) k. f.arrived - k) on (ap₂ taken (ap (λ (q : Plan). q.numbers) follows.plan) follows.tick) in
      record {
        inside = follows.inside;
        plan = follows.plan;
        tick = follows.tick;
        sample = λ i. record { tick = tick i; dot = dots i; missing = misses_is i; requested = asked i; arrived = come i; pending = waits i; fill = full i };
      }

-- whether or not there was a tick to follow
pub stays_late : (a b : Counts) (r : Option Outcome) → MatchOption r (Over a b) (λ o. Follows a false o b) → a.progress ≡ late a → b.progress ≡ late b
stays_late a b None over here = subst (λ (c : Counts). c.progress ≡ late c) (sym over.1) here
stays_late a b (Some o) follows here = late_next a b o follows here
