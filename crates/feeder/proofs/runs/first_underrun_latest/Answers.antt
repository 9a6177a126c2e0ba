use Rattle.feeder.proofs.Frames.{soonest, worst, none_in_time}
use Rattle.feeder.proofs.runs.first_underrun_latest.Goals as goal

pub returns-clause-soonest : goal.returns-clause-soonest
returns-clause-soonest c = soonest _ _ c.first_underrun.ensures

pub returns-clause-worst : goal.returns-clause-worst
returns-clause-worst c = worst _

pub returns-clause-fed : goal.returns-clause-fed
returns-clause-fed c = λ fast. none_in_time _ _ c.args.plan.ok fast c.first_underrun.ensures
