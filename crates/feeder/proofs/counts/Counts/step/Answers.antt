use Rattle.std.proofs.Common.{◌≡◌, suc, arith}
use Rattle.feeder.proofs.Plans.{accepted_tick}
use Rattle.feeder.proofs.counts.Counts.step.Goals as goal

pub invariant_of-self : goal.invariant_of-self
invariant_of-self c =
    let s = c.args.self.now in
    let tick : c.advance.new.self.at.tick ≡ suc s.scan.at.tick = omega (arith, c.advance.ensures.tick, c.in_ok-check.ensures.0) in
    rw (c.advance.ensures.plan, tick, c.moves-outcome.ensures.progress)
    record { dots = s.dots; ok = accepted_tick s.scan.plan.numbers c.args.brought s.scan.at.tick s.progress s.scan.plan.ok s.ok }
