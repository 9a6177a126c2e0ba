use Rattle.feeder.specs.Feed.{willing_in}
use Rattle.feeder.specs.Step.{plan_in}
use Rattle.feeder.proofs.Frames.{Along}
use Rattle.feeder.proofs.runs.first_underrun.Given as goal

abbrev pub invariant-loop-tick : goal.invariant-loop-tick
invariant-loop-tick l = Along (plan_in l.initial.feeder.counts) (willing_in l.willing) l.tick l.feeder.counts
