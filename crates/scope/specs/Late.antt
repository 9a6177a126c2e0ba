-- The feeder by the latest memory. Assumes nothing: this is a definition.
use Rattle.feeder.specs.Model.{after, latest}
use Rattle.feeder.specs.Panel.{demand_of}
use Rattle.feeder.specs.Step.{plan_in, tick_in}
use Rattle.feeder.specs.declared.counts.Counts.{Counts}
use Rattle.feeder.specs.declared.states.Progress.{Progress}

-- how far it has come where these counts stand
abbrev pub late : Counts → Progress
late c = after (demand_of (plan_in c)) latest (tick_in c)
