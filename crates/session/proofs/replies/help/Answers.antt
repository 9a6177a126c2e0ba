-- The list of commands is the one that the specification has.
use Rattle.std.proofs.Common.{refl}
use Rattle.session.specs.Help.{help_text}
use Rattle.session.proofs.replies.help.Goals as goal

pub returns : goal.returns
unfolding help_text
returns c = refl
