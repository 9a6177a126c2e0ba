use Rattle.std.proofs.Common.{rules}
use Rattle.deadline.proofs.Judged.{row_judged}
use Rattle.deadline.proofs.judges.judge_row.Goals as goal

pub returns : goal.returns
returns c = row_judged _ _ _ c.new.ensures (search rules)
