use Rattle.scope.proofs.Bands.{Drawn}
use Rattle.scope.proofs.charts.Chart.of.Given as goal

abbrev pub invariant-loop-column : goal.invariant-loop-column
invariant-loop-column l = Drawn l.initial.probe.feeder.counts l.probe.feeder.counts l.each l.longer l.column l.columns
