use Rattle.std.proofs.Common.{Result, subst}
use Rattle.fifo.specs.Frame.{Plays}
use Rattle.fifo.specs.declared.pixels.Pixel.{Pixel}
use Rattle.fifo.specs.declared.refusals.Refusal.{Refusal}
use Rattle.playback.proofs.Runs.{never_stops, served}
use Rattle.playback.proofs.frames.serve.Goals as goal

pub unwrap-pixel-requires : goal.unwrap-pixel-requires
unwrap-pixel-requires g c = never_stops _ c.args.fifo.now _ _ _ c.step.result c.requires.size c.requires.inside c.step.ensures.plays

pub returns : goal.returns
returns g c = record {
  same = c.step.ensures.same;
  served = served g.S.Screen.accepts _ _ _ c.unwrap-pixel.result _ _ _ _ _ (g.met.M.Scripted.decided c.args.memory.now)
      (subst (λ (x : Result Pixel Refusal). Plays (g.M.Memory.script c.args.memory.now) c.args.fifo.now c.args.ring.now x c.step.new.self c.step.new.ring) c.unwrap-pixel.ensures c.step.ensures.plays)
      c.requires.kept c.show.ensures c.is_missing.ensures;
}
