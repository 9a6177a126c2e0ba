-- Each message is the text that the specification gives it.
use Rattle.session.specs.Messages.{why_text}
use Rattle.session.proofs.Printed.{prints_of}
use Rattle.session.proofs.whys.WhyDisplay.fmt.Goals as goal

pub returns-in-NotAllDots-clause-writes : goal.returns-in-NotAllDots-clause-writes
returns-in-NotAllDots-clause-writes g c = prints_of g.W.Write.write_str_gives why_text _ _ _ _ _ c.in-NotAllDots.is c.write-in-NotAllDots.ensures.writes

pub returns-in-StateLength-clause-writes : goal.returns-in-StateLength-clause-writes
returns-in-StateLength-clause-writes g c = prints_of g.W.Write.write_str_gives why_text _ _ _ _ _ c.in-StateLength.is c.write-in-StateLength.ensures.writes

pub returns-in-FrameOver-clause-writes : goal.returns-in-FrameOver-clause-writes
returns-in-FrameOver-clause-writes g c = prints_of g.W.Write.write_str_gives why_text _ _ _ _ _ c.in-FrameOver.is c.write-in-FrameOver.ensures.writes

pub returns-in-Mark-clause-writes : goal.returns-in-Mark-clause-writes
returns-in-Mark-clause-writes g c = prints_of g.W.Write.write_str_gives why_text _ _ _ _ _ c.in-Mark.is c.write-in-Mark.ensures.writes

pub returns-in-RingLength-clause-writes : goal.returns-in-RingLength-clause-writes
returns-in-RingLength-clause-writes g c = prints_of g.W.Write.write_str_gives why_text _ _ _ _ _ c.in-RingLength.is c.write-in-RingLength.ensures.writes

pub returns-in-NothingPending-clause-writes : goal.returns-in-NothingPending-clause-writes
returns-in-NothingPending-clause-writes g c = prints_of g.W.Write.write_str_gives why_text _ _ _ _ _ c.in-NothingPending.is c.write-in-NothingPending.ensures.writes

pub returns-in-NotWhole-clause-writes : goal.returns-in-NotWhole-clause-writes
returns-in-NotWhole-clause-writes g c = prints_of g.W.Write.write_str_gives why_text _ _ _ _ _ c.in-NotWhole.is c.write-in-NotWhole.ensures.writes
