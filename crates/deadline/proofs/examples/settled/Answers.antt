use Rattle.deadline.proofs.Judged.{no_refusal}
use Rattle.deadline.proofs.examples.settled.Goals as goal

pub unwrap-requires : goal.unwrap-requires
unwrap-requires c = no_refusal _ _ c.requires c.new.ensures
