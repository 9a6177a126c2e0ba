-- Six lent numbers: the tick, requested, arrived, 1 if an answer is pending, for how many ticks, 1 if a dot was missing. Assumes nothing: these are definitions.
use Rattle.std.specs.Prelude.{◌≡◌, ℕ, ◌+◌, Bool, cond, not, ◌&&◌, List, [], ◌∷◌, ◌++◌, length, Some, None, Option, ◌==◌, nat_le, nat_lt, slice_index}
use Rattle.timing.specs.Frame.{frame_ticks, frame_dots, taken}
use Rattle.timing.specs.declared.numbers.Numbers.{Numbers}
use Rattle.timing.specs.declared.plans.Plan.{Plan}
use Rattle.feeder.specs.declared.counts.Counts.{Counts}
use Rattle.feeder.specs.declared.lent.StateRefusal.{StateRefusal}
use Rattle.feeder.specs.declared.lent.StateRefusal.TheVariants.{TooShort, TooLong, FrameOver, PendingMark, UnderrunMark, ArrivedMore, PastFrame, NoRoom, WaitedLong, NothingPending, PastBurst, NotPending, WaitedIdle}
use Rattle.feeder.specs.declared.states.Progress.{Progress}

abbrev pub tick_at : List ℕ → ℕ
tick_at s = slice_index s 0

abbrev pub progress_at : List ℕ → Progress
progress_at s = record { requested = slice_index s 1; arrived = slice_index s 2; pending = (slice_index s 3 == 1); waited = slice_index s 4; underrun = (slice_index s 5 == 1) }

-- the six numbers of a feeder's counts
unfoldable pub state_of : Counts → List ℕ
state_of c =
    c.scan.at.tick ∷ c.progress.requested ∷ c.progress.arrived ∷ cond c.progress.pending 1 0 ∷ c.progress.waited ∷ cond c.progress.underrun 1 0 ∷ []

-- the first of the things that are wrong
abbrev pub first_wrong : List (Bool × StateRefusal) → Option StateRefusal
first_wrong [] = None
first_wrong ((wrong, e) ∷ rest) = cond wrong (Some e) (first_wrong rest)

-- what can be wrong, in the order in which it is looked for: the numbers are not six; the tick or a mark is out of range; the counts do not fit the plan or each other
abbrev pub length_wrongs : ℕ → List (Bool × StateRefusal)
length_wrongs n = (nat_lt n 6, TooShort n) ∷ (nat_lt 6 n, TooLong) ∷ []

abbrev pub mark_wrongs : Bool → ℕ → ℕ → List (Bool × StateRefusal)
mark_wrongs over pending underrun = (over, FrameOver) ∷ (nat_lt 1 pending, PendingMark) ∷ (nat_lt 1 underrun, UnderrunMark) ∷ []

abbrev pub count_wrongs : Numbers → ℕ → Progress → List (Bool × StateRefusal)
count_wrongs p tick f =
    (nat_lt f.requested f.arrived, ArrivedMore)
    ∷ (nat_lt (frame_dots p) f.requested, PastFrame)
    ∷ (nat_lt (taken p tick + p.capacity) f.requested, NoRoom)
    ∷ (nat_le p.latency f.waited, WaitedLong)
    ∷ (f.pending && (f.arrived == f.requested), NothingPending)
    ∷ (nat_lt (f.arrived + p.burst) f.requested, PastBurst)
    ∷ (not f.pending && not (f.requested == f.arrived), NotPending)
    ∷ (not f.pending && not (f.waited == 0), WaitedIdle)
    ∷ []

unfoldable pub mark_refusal : Bool → ℕ → ℕ → Option StateRefusal
mark_refusal over pending underrun = first_wrong (mark_wrongs over pending underrun)

unfoldable pub count_refusal : Numbers → ℕ → Progress → Option StateRefusal
count_refusal p tick f = first_wrong (count_wrongs p tick f)

unfoldable pub state_refusal : Numbers → List ℕ → Option StateRefusal
state_refusal p s = first_wrong (length_wrongs (length s) ++ (mark_wrongs (nat_le (frame_ticks p) (tick_at s)) (slice_index s 3) (slice_index s 5) ++ count_wrongs p (tick_at s) (progress_at s)))

-- the counts that six numbers are
pub record Resumed (plan : Plan) (s : List ℕ) (c : Counts) : Type 0 where
  pub right : state_refusal plan.numbers s ≡ None
  pub plan_is : c.scan.plan ≡ plan
  pub tick_is : c.scan.at.tick ≡ tick_at s
  pub progress_is : c.progress ≡ progress_at s

abbrev pub state_number : StateRefusal → ℕ
state_number e = 2

abbrev pub state_place : StateRefusal → ℕ
state_place (TooShort place) = place
state_place TooLong = 6
state_place FrameOver = 0
state_place PendingMark = 3
state_place UnderrunMark = 5
state_place ArrivedMore = 2
state_place PastFrame = 1
state_place NoRoom = 1
state_place WaitedLong = 4
state_place NothingPending = 3
state_place PastBurst = 1
state_place NotPending = 1
state_place WaitedIdle = 4
