-- Each message about a row that is no plan is the text that the specification gives it.
use Rattle.std.proofs.Common.{◌++◌, codes, decimal}
use Rattle.session.specs.Messages.{plan_text}
use Rattle.session.proofs.Printed.{prints_is, prints_of}
use Rattle.session.proofs.whys.PlanWhyDisplay.fmt.Goals as goal

pub returns-in-TooSmall-clause-writes : goal.returns-in-TooSmall-clause-writes
returns-in-TooSmall-clause-writes g c =
    prints_of g.W.Write.write_str_gives plan_text _ _ _ _ _ c.in-TooSmall.is
    (prints_is g.W.Write.write_str_gives _ _ _ _ _ (λ i. c.name.ensures i ++ (codes " is " ++ (decimal c.in-TooSmall.number ++ (codes ", at least " ++ decimal c.in-TooSmall.least)))) c.write-in-TooSmall.ensures.writes)

pub returns-in-TooLarge-clause-writes : goal.returns-in-TooLarge-clause-writes
returns-in-TooLarge-clause-writes g c =
    prints_of g.W.Write.write_str_gives plan_text _ _ _ _ _ c.in-TooLarge.is
    (prints_is g.W.Write.write_str_gives _ _ _ _ _ (λ i. c.name-in-TooLarge.ensures i ++ (codes " is " ++ (decimal c.in-TooLarge.number ++ (c.more.ensures i ++ (codes ", at most " ++ decimal c.in-TooLarge.most))))) c.write-in-TooLarge.ensures.writes)

pub returns-in-NoRoomFor-clause-writes : goal.returns-in-NoRoomFor-clause-writes
returns-in-NoRoomFor-clause-writes g c =
    prints_of g.W.Write.write_str_gives plan_text _ _ _ _ _ c.in-NoRoomFor.is
    (prints_is g.W.Write.write_str_gives _ _ _ _ _ (λ i. c.name-in-NoRoomFor.ensures i ++ (codes " is " ++ (decimal c.in-NoRoomFor.number ++ (c.more-in-NoRoomFor.ensures i ++ (codes ", and there is no room for it"))))) c.write-in-NoRoomFor.ensures.writes)
