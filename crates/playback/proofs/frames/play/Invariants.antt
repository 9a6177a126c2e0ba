use Rattle.playback.proofs.Runs.{Behind}
use Rattle.playback.proofs.frames.play.Given as goal

abbrev pub invariant-loop-number : goal.invariant-loop-number
invariant-loop-number g l = Behind g.S.Screen.accepts l.plan.numbers (g.M.Memory.script l.initial.memory) (g.M.Memory.script l.memory) l.number l.initial.screen l.screen l.first
