-- Each message about counts is the text that the specification gives it.
use Rattle.session.specs.Messages.{counts_text}
use Rattle.session.proofs.Printed.{prints_of}
use Rattle.session.proofs.whys.CountsWhyDisplay.fmt.Goals as goal

pub returns-in-ArrivedMore-clause-writes : goal.returns-in-ArrivedMore-clause-writes
returns-in-ArrivedMore-clause-writes g c = prints_of g.W.Write.write_str_gives counts_text _ _ _ _ _ c.in-ArrivedMore.is c.write.ensures.writes

pub returns-in-PastFrame-clause-writes : goal.returns-in-PastFrame-clause-writes
returns-in-PastFrame-clause-writes g c = prints_of g.W.Write.write_str_gives counts_text _ _ _ _ _ c.in-PastFrame.is c.write-in-PastFrame.ensures.writes

pub returns-in-PastRoom-clause-writes : goal.returns-in-PastRoom-clause-writes
returns-in-PastRoom-clause-writes g c = prints_of g.W.Write.write_str_gives counts_text _ _ _ _ _ c.in-PastRoom.is c.write-in-PastRoom.ensures.writes

pub returns-in-WaitedLong-clause-writes : goal.returns-in-WaitedLong-clause-writes
returns-in-WaitedLong-clause-writes g c = prints_of g.W.Write.write_str_gives counts_text _ _ _ _ _ c.in-WaitedLong.is c.write-in-WaitedLong.ensures.writes

pub returns-in-PastBurst-clause-writes : goal.returns-in-PastBurst-clause-writes
returns-in-PastBurst-clause-writes g c = prints_of g.W.Write.write_str_gives counts_text _ _ _ _ _ c.in-PastBurst.is c.write-in-PastBurst.ensures.writes

pub returns-in-NotPending-clause-writes : goal.returns-in-NotPending-clause-writes
returns-in-NotPending-clause-writes g c = prints_of g.W.Write.write_str_gives counts_text _ _ _ _ _ c.in-NotPending.is c.write-in-NotPending.ensures.writes

pub returns-in-WaitedIdle-clause-writes : goal.returns-in-WaitedIdle-clause-writes
returns-in-WaitedIdle-clause-writes g c = prints_of g.W.Write.write_str_gives counts_text _ _ _ _ _ c.in-WaitedIdle.is c.write-in-WaitedIdle.ensures.writes
