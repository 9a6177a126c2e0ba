use Rattle.std.proofs.Common.{◌≡◌, false, ap, ◌∙◌, arith, rules}
use mir.Val.{bool_byte}
use Rattle.std.proofs.lemmas.Grind.{common_steps}
use Rattle.feeder.specs.Feed.{willing_in}
use Rattle.sweep.proofs.Numbered.{covers}
use Rattle.sweep.proofs.trials.try_ways.Goals as goal

pub loop-way-preserved : goal.loop-way-preserved
loop-way-preserved c =
    let agreed : c.disagrees.result ≡ false = c.disagrees.ensures (willing_in c.flags_of.result) c.first_underrun-first.ensures c.first_underrun_latest-worst.ensures.soonest in
    let none : c.from-disagreements.result ≡ 0 = c.from-disagreements.ensures ∙ ap bool_byte agreed in
    (grind (arith, common_steps), omega arith)

pub returns : goal.returns
returns c = record { ways_are = search rules; covered = covers _; underruns_most = search rules; agreed = search rules }
