use Rattle.std.proofs.Common.{sym, subst}
use Rattle.feeder.specs.Model.{after}
use Rattle.feeder.specs.Panel.{Reached}
use Rattle.feeder.specs.Step.{plan_in}
use Rattle.feeder.proofs.Plans.{by_plan}
use Rattle.feeder.proofs.Reach.{reached_start}
use Rattle.feeder.proofs.feeders.Feeder.start.Goals as goal

pub invariant_of-result : goal.invariant_of-result
unfolding after
invariant_of-result c = record { reached = subst (λ t. Reached (plan_in c.start.result) t c.start.result.progress) (sym c.start.ensures.tick) (reached_start (plan_in c.start.result) _ (sym c.start.ensures.progress)) }

pub returns-clause-model : goal.returns-clause-model
returns-clause-model c = by_plan _
