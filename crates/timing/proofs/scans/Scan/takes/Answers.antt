use Rattle.std.proofs.Common.{sym, ◌∙◌, arith}
use Rattle.std.proofs.lemmas.Bool.{le-ltb}
use Rattle.timing.proofs.Curves.{takes_past}
use Rattle.timing.proofs.Dues.{takes_due}
use Rattle.timing.proofs.scans.Scan.takes.Goals as goal

pub returns-then-self : goal.returns-then-self
returns-then-self c =
    let s = c.args.self.now in
    sym (takes_due s.plan.numbers s.at s.plan.ok s.tracks (omega (arith, s.ends)))

pub returns-else-self : goal.returns-else-self
returns-else-self c =
    let s = c.args.self.now in
    le-ltb _ _ c.if-self.false ∙ sym (takes_past s.plan.numbers s.at.tick (omega (arith, s.ends)))
