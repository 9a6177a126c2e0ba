-- Some flags are a run by them, and none are not.
use Rattle.std.proofs.Common.{sym, rules}
use Rattle.std.proofs.lemmas.Bool.{eqb-false}
use Rattle.text.proofs.Table.{run_is}
use Rattle.text.proofs.commands.run_by.Goals as goal

pub returns : goal.returns
returns c = run_is c.args.text.now c.in_ok-flags.field-0 c.map.result (search rules) c.in_ok-flags.ensures (eqb-false _ _ (sym c.if-is_empty.ensures))
