-- What is written of what is turned away. Assumes nothing: these are definitions.
use Rattle.std.specs.Prelude.{ℕ, ◌-◌, ◌^◌, cond, List, [], ◌++◌, codes, decimal, ◌==◌}
use Rattle.session.specs.declared.turned.Turned.{Turned}
use Rattle.session.specs.declared.whys.Why.{Why}
use Rattle.session.specs.declared.whys.Why.TheVariants.{NoCommand, NotADot, NotAllDots, Plan, StateLength, FrameOver, Mark, Counts, RingLength, NothingPending, NotWhole, Late}
use Rattle.session.specs.declared.whys.PlanWhy.{PlanWhy}
use Rattle.session.specs.declared.whys.PlanWhy.TheVariants.{Length, TooSmall, TooLarge, NoRoomFor}
use Rattle.session.specs.declared.whys.CountsWhy.{CountsWhy}
use Rattle.session.specs.declared.whys.CountsWhy.TheVariants.{ArrivedMore, PastFrame, PastRoom, WaitedLong, AllArrived, PastBurst, NotPending, WaitedIdle}

-- one text after another
infixr 65 ◌&◌
abbrev pub ◌&◌ : List ℕ → List ℕ → List ℕ
a & b = a ++ b

-- the largest number of its type stands for all that are too large
abbrev pub more_text : ℕ → List ℕ
more_text n = cond (n == 2 ^ 32 - 1) (codes " or more") []

-- what the numbers of a plan are called, by place
abbrev pub name_text : ℕ → List ℕ
name_text p =
    cond (p == 0) (codes "dots in a line")
    (cond (p == 1) (codes "lines")
    (cond (p == 2) (codes "ticks before a line")
    (cond (p == 3) (codes "ticks before the picture")
    (cond (p == 4) (codes "room")
    (cond (p == 5) (codes "at once") (codes "latest"))))))

abbrev pub plan_text : PlanWhy → List ℕ
plan_text (Length k) = decimal k & codes " numbers, a plan has 7"
plan_text (TooSmall p n least) = name_text p & codes " is " & decimal n & codes ", at least " & decimal least
plan_text (TooLarge p n most) = name_text p & codes " is " & decimal n & more_text n & codes ", at most " & decimal most
plan_text (NoRoomFor p n) = name_text p & codes " is " & decimal n & more_text n & codes ", and there is no room for it"

abbrev pub counts_text : CountsWhy → List ℕ
counts_text (ArrivedMore a r) = decimal a & codes " have come, and " & decimal r & codes " were asked for"
counts_text (PastFrame r d) = decimal r & codes " were asked for, and the picture has " & decimal d
counts_text (PastRoom r m) = decimal r & codes " were asked for, and there is room up to " & decimal m
counts_text (WaitedLong w l) = codes "it waited " & decimal w & codes " ticks, and an answer takes " & decimal l
counts_text (AllArrived r) = codes "it waits, and all " & decimal r & codes " have come"
counts_text (PastBurst p b) = decimal p & codes " are waited for, and " & decimal b & codes " come at once"
counts_text (NotPending r a) = decimal r & codes " were asked for, " & decimal a & codes " have come, and it does not wait"
counts_text (WaitedIdle w) = codes "it waited " & decimal w & codes " ticks, and it does not wait"

abbrev pub why_text : Why → List ℕ
why_text NoCommand = codes "no command, see help"
why_text (NotADot i n) = codes "dot " & decimal i & codes " is " & decimal n & codes ", at most 65535"
why_text (NotAllDots k d) = decimal k & codes " dots, and the picture has " & decimal d
why_text (Plan w) = plan_text w
why_text (StateLength k) = decimal k & codes " numbers, a state has 6"
why_text (FrameOver t ts) = codes "the tick is " & decimal t & codes ", and the picture has " & decimal ts
why_text (Mark n) = codes "the mark is " & decimal n & codes ", at most 1"
why_text (Counts w) = counts_text w
why_text (RingLength l m) = decimal l & codes " dots, and there is room for " & decimal m
why_text (NothingPending k) = decimal k & codes " dots, and nothing is waited for"
why_text (NotWhole k p) = decimal k & codes " dots, and " & decimal p & codes " are waited for"
why_text Late = codes "nothing is brought, and the answer must come in this tick"

abbrev pub turned_text : Turned → List ℕ
turned_text t = codes "turned away " & decimal t.number & codes " at " & decimal t.place & codes ": " & why_text t.why
