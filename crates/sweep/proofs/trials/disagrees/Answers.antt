use Rattle.std.proofs.Common.{◌∙◌, sym}
use Rattle.sweep.proofs.Agree.{not_sooner, none_missing}
use Rattle.sweep.proofs.trials.disagrees.Goals as goal

pub returns-then-is_sooner : goal.returns-then-is_sooner
returns-then-is_sooner c = λ w h s. c.is_sooner.ensures ∙ not_sooner _ w _ _ h s

pub returns-then-is_in_time : goal.returns-then-is_in_time
returns-then-is_in_time c = λ w h s. c.is_some.ensures ∙ none_missing _ w _ c.args.plan.now.ok (sym c.is_in_time.ensures.rule ∙ c.if-is_in_time.true) h
