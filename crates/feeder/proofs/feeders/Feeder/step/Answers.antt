use Rattle.feeder.proofs.Reach.{steps_reached, steps_fed, held, whole}
use Rattle.feeder.proofs.feeders.Feeder.step.Goals as goal

pub invariant_of-self : goal.invariant_of-self
invariant_of-self c = let s = c.args.self.now in record { reached = steps_reached s.counts c.step.new.self c.args.brought c.step.result c.step.ensures s.reached }

pub returns-clause-fed : goal.returns-clause-fed
returns-clause-fed c = let s = c.args.self.now in steps_fed s.counts c.step.new.self c.args.brought c.step.result c.step.ensures s.reached

pub returns-clause-held : goal.returns-clause-held
returns-clause-held c = held c.step.new.self

pub returns-clause-whole : goal.returns-clause-whole
returns-clause-whole c = let s = c.args.self.now in whole c.step.new.self (steps_reached s.counts c.step.new.self c.args.brought c.step.result c.step.ensures s.reached)
