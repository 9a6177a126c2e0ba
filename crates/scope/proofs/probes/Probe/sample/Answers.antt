use Rattle.scope.proofs.Seen.{stays_late, sampled}
use Rattle.scope.proofs.probes.Probe.sample.Goals as goal

pub invariant_of-self : goal.invariant_of-self
invariant_of-self c = record { latest = stays_late _ _ _ c.follow.ensures.follows c.args.self.now.latest }

pub returns : goal.returns
returns c = sampled _ _ _ c.in_ok-outcome.ensures.follows c.args.self.now.latest _ (cc) (cc) (cc) (cc) (cc) (cc) (cc)
