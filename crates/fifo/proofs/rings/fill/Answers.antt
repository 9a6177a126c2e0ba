use Rattle.std.proofs.Common.{◌∙◌, rules}
use Rattle.std.proofs.lemmas.List.{take_rest}
use Rattle.fifo.proofs.Places.{filled_wrapped}
use Rattle.fifo.proofs.rings.fill.Goals as goal

pub returns : goal.returns
returns c =
    filled_wrapped _ c.args.first c.args.at c.min-straight.result c.args.brought.now c.args.ring.now c.copy_from_slice.new.self c.copy_from_slice-2.new.self (search rules) c.requires.place c.requires.inside c.requires.few
    c.min-straight.ensures c.copy_from_slice.ensures.after (c.copy_from_slice-2.ensures.after ∙ take_rest c.args.brought.now c.min-straight.result)
