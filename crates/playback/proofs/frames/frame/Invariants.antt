use Rattle.std.proofs.Common.{◌≡◌}
use Rattle.feeder.specs.Step.{plan_in}
use Rattle.playback.proofs.Runs.{Underway}
use Rattle.playback.proofs.frames.frame.Given as goal

abbrev pub invariant-loop-tick : goal.invariant-loop-tick
invariant-loop-tick g l =
    (g.M.Memory.script l.memory ≡ g.M.Memory.script l.initial.memory)
    × Underway g.S.Screen.accepts (plan_in l.initial.fifo.feeder.counts) (g.M.Memory.script l.initial.memory) l.tick l.fifo l.ring l.initial.screen l.screen l.first
