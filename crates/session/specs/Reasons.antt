-- What is wrong with what is turned away: by the refusal, and the numbers that were lent. Assumes nothing: these are definitions.
use Rattle.std.specs.Prelude.{ℕ, ◌+◌, ◌-◌, ◌^◌, min, cond, List, length, nat_lt, slice_index}
use Rattle.timing.specs.Frame.{frame_ticks, frame_dots, taken}
use Rattle.timing.specs.declared.numbers.Numbers.{Numbers}
use Rattle.timing.specs.declared.refusals.PlanRefusal.{PlanRefusal}
use Rattle.timing.specs.declared.refusals.PlanRefusal.TheVariants as row
use Rattle.feeder.specs.declared.lent.StateRefusal.{StateRefusal}
use Rattle.feeder.specs.declared.lent.StateRefusal.TheVariants.{TooShort, TooLong, FrameOver, PendingMark, UnderrunMark, ArrivedMore, PastFrame, NoRoom, WaitedLong, NothingPending, PastBurst, NotPending, WaitedIdle}
use Rattle.fifo.specs.declared.refusals.Refusal.{Refusal}
use Rattle.fifo.specs.declared.refusals.Refusal.TheVariants.{Plan, State, Ring, Brought, Late}
use Rattle.session.specs.declared.whys.CountsWhy.TheVariants as counts
use Rattle.session.specs.declared.whys.PlanWhy.{PlanWhy}
use Rattle.session.specs.declared.whys.PlanWhy.TheVariants.{Length, TooSmall, TooLarge, NoRoomFor}
use Rattle.session.specs.declared.whys.Why.{Why}
use Rattle.session.specs.declared.whys.Why.TheVariants as why

-- of a number n that is out of its range: too small, or nothing is in the range, or too large
abbrev pub range_why : (place n low high : ℕ) → PlanWhy
range_why place n low high = cond (nat_lt n low) (TooSmall place n low) (cond (nat_lt high low) (NoRoomFor place n) (TooLarge place n high))

abbrev pub plan_why : List ℕ → PlanRefusal → PlanWhy
plan_why xs (row.TooShort place) = Length (length xs)
plan_why xs row.TooLong = Length (length xs)
plan_why xs (row.OutOfRange place low high) = range_why place (slice_index xs place) low high

-- the six numbers s: the tick, requested, arrived, 1 if an answer is pending, for how many ticks, 1 if a dot was missing
abbrev pub state_why : Numbers → List ℕ → StateRefusal → Why
state_why p s (TooShort place) = why.StateLength (length s)
state_why p s TooLong = why.StateLength (length s)
state_why p s FrameOver = why.FrameOver (slice_index s 0) (frame_ticks p)
state_why p s PendingMark = why.Mark (slice_index s 3)
state_why p s UnderrunMark = why.Mark (slice_index s 5)
state_why p s ArrivedMore = why.Counts (counts.ArrivedMore (slice_index s 2) (slice_index s 1))
state_why p s PastFrame = why.Counts (counts.PastFrame (slice_index s 1) (frame_dots p))
state_why p s NoRoom = why.Counts (counts.PastRoom (slice_index s 1) (min (taken p (slice_index s 0) + p.capacity) (2 ^ 32 - 1)))
state_why p s WaitedLong = why.Counts (counts.WaitedLong (slice_index s 4) p.latency)
state_why p s NothingPending = why.Counts (counts.AllArrived (slice_index s 1))
state_why p s PastBurst = why.Counts (counts.PastBurst (slice_index s 1 - slice_index s 2) p.burst)
state_why p s NotPending = why.Counts (counts.NotPending (slice_index s 1) (slice_index s 2))
state_why p s WaitedIdle = why.Counts (counts.WaitedIdle (slice_index s 4))

-- k dots were brought: not all that are waited for, or none are
abbrev pub brought_why : List ℕ → ℕ → Why
brought_why s k = cond (nat_lt (slice_index s 2) (slice_index s 1)) (why.NotWhole k (slice_index s 1 - slice_index s 2)) (why.NothingPending k)

abbrev pub lent_why : Numbers → List ℕ → Refusal → Why
lent_why p s (Plan e) = why.Plan (Length 0)
lent_why p s (State e) = state_why p s e
lent_why p s (Ring k) = why.RingLength k p.capacity
lent_why p s (Brought k) = brought_why s k
lent_why p s (Late t) = why.Late
