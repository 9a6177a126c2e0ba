use Rattle.std.proofs.Common.{arith}
use Rattle.deadline.proofs.Bounds.{least}
use Rattle.deadline.proofs.capacities.least_capacity.Goals as goal

pub returns : goal.returns
returns c = least _ _ c.args.plan.now.ok (grind arith) (grind arith) (grind arith) (grind arith)
