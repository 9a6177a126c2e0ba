-- The first key that the line begins with is found.
use Rattle.std.proofs.Common.{rules, ap, ◌∙◌, subst}
use Rattle.std.specs.Iterator.Runs.{ItemsMapTo}
use Rattle.text.proofs.Found.{found}
use Rattle.text.proofs.keys.Key.split.Goals as goal

pub returns : goal.returns
returns c =
    let run = c.find_map.ensures.runs in
    found _ _ c.args.line.now run.0 (search rules) (λ key r q k. search rules) (subst (ItemsMapTo run.0 (λ key. key.now)) (ap (λ s. s.rest.now) run.1 ∙ c.iter.ensures.rest) (c.iter.ensures.runs run.0 run.0.seen)) c.find_map.result run.2
