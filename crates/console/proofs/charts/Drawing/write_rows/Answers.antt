-- A row's level is a number of its type, since a plan has room for 65,536 dots at most.
use Rattle.std.proofs.Common.{rules}
use Rattle.std.proofs.lemmas.Nat.{mul-le}
use Rattle.timing.proofs.Goods.{good_says}
use Rattle.console.proofs.charts.Drawing.write_rows.Goals as goal

pub overflow_mul-row : goal.overflow_mul-row
overflow_mul-row g c = search (rules, good_says, mul-le)
