use Rattle.std.proofs.Common.{arith}
use Rattle.timing.proofs.Whens.{taken_in, tick_small}
use Rattle.timing.proofs.plans.Plan.tick_of.Goals as goal

pub due-requires : goal.due-requires
due-requires c = omega (arith, tick_small _ c.args.dot c.args.self.now.ok (omega arith))

pub returns : goal.returns
returns c = taken_in _ _ _ (omega arith) c.due.ensures
