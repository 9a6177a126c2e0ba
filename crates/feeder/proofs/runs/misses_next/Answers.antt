use Rattle.std.proofs.Common.{subst, MatchOption, Option}
use Rattle.feeder.specs.Feed.{Over, Follows}
use Rattle.feeder.specs.declared.outcomes.Outcome.{Outcome}
use Rattle.feeder.proofs.Frames.{ran}
use Rattle.feeder.proofs.runs.misses_next.Goals as goal

pub returns : goal.returns
returns c =
    rw c.is_missing.ensures (ran _ _ _ _ (subst (λ (r : Option Outcome). MatchOption r (Over c.args.feeder.now.counts c.follow.new.self.counts) (λ o. Follows c.args.feeder.now.counts c.args.willing o c.follow.new.self.counts)) c.unwrap.ensures c.follow.ensures.follows))
