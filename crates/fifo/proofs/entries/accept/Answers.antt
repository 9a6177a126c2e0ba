use Rattle.std.proofs.Common.{◌≤◌, sym, subst, rules}
use Rattle.feeder.specs.declared.states.Progress.{Progress}
use Rattle.feeder.proofs.Plans.{accepted_kept}
use Rattle.fifo.proofs.Checks.{misfit_refuses}
use Rattle.fifo.proofs.entries.accept.Goals as goal

pub may_bring-requires : goal.may_bring-requires
may_bring-requires c = subst (λ (f : Progress). f.arrived ≤ f.requested) (sym c.progress.ensures) (accepted_kept _ _ _ c.in_ok-counts.counts.ok).order

pub returns-in_err-counts : goal.returns-in_err-counts
returns-in_err-counts c = let wrong = misfit_refuses _ _ _ c.args.brought c.in_err-counts.field-0.0 c.in_err-counts.ensures in search rules
