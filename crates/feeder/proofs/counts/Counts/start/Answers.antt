use Rattle.std.proofs.Common.{◌≡◌, rules}
use Rattle.feeder.specs.Model.{begun}
use Rattle.feeder.proofs.Plans.{start_accepted}
use Rattle.feeder.proofs.counts.Counts.start.Goals as goal

pub invariant_of-result : goal.invariant_of-result
unfolding begun
invariant_of-result c =
    let new : c.default.result ≡ begun = search rules in
    record { dots = rw c.start.ensures.plan c.frame_dots.ensures.value; ok = rw new (start_accepted _ c.start.result.plan.ok _) }
