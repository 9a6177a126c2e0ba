use Rattle.feeder.proofs.Reach.{follows}
use Rattle.feeder.proofs.feeders.Feeder.follow.Goals as goal

pub returns-clause-follows : goal.returns-clause-follows
returns-clause-follows c = rw c.ok.ensures.value (follows c.args.self.now.counts _ c.args.willing c.answers-brought.result c.step.result c.answers-brought.ensures c.step.ensures.steps)
