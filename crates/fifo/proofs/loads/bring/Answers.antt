use Rattle.std.proofs.Common.{◌+◌, ap, ◌∙◌, rules}
use Rattle.fifo.specs.Script.{Script}
use Rattle.fifo.proofs.Places.{loaded}
use Rattle.fifo.proofs.loads.bring.Goals as goal

pub returns : goal.returns
returns g c = record {
  count = search rules;
  same = c.read-2.ensures.same ∙ c.read.ensures.same;
  loaded = loaded c.args.f.arrived c.args.at c.min-straight.result _ c.args.ring.now c.read.new.part c.read-2.new.part ((g.M.Memory.script c.args.memory.now).dots 0)
      c.requires.place c.requires.inside (search rules) c.min-straight.ensures (search rules) (search rules) c.read.ensures.read
      (λ i h. c.read-2.ensures.read i h ∙ ap (λ (s : Script). s.dots 0 (c.args.f.arrived + c.min-straight.result + i)) c.read.ensures.same);
}
