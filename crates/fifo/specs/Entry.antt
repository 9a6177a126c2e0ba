-- What the entries over lent numbers answer and leave behind. Assumes nothing: these are definitions.
use Rattle.std.specs.Prelude.{◌≡◌, ℕ, zero, suc, ◌+◌, ◌-◌, ◌%◌, ◌<◌, ◌≤◌, min, Bool, true, false, not, List, [], ◌++◌, length, take, drop, None, Ok, Err, Result, ◌==◌, slice_index}
use Rattle.timing.specs.Frame.{frame_ticks, taken}
use Rattle.timing.specs.Row.{numbers_in}
use Rattle.timing.specs.declared.numbers.Numbers.{Numbers}
use Rattle.feeder.specs.Lent.{tick_at, progress_at, state_refusal}
use Rattle.feeder.specs.Model.{after_tick, outcome}
use Rattle.feeder.specs.Panel.{demand_of, in_time, Reached}
use Rattle.feeder.specs.Step.{plan_in, Allows}
use Rattle.feeder.specs.declared.counts.Counts.{Counts}
use Rattle.feeder.specs.declared.outcomes.Outcome.{Outcome}
use Rattle.feeder.specs.declared.outcomes.Outcome.TheVariants as given
use Rattle.feeder.specs.declared.states.Progress.{Progress}
use Rattle.fifo.specs.Gives.{exchange_of, is_missing}
use Rattle.fifo.specs.Refusal.{PlanOk, StateOk, may_bring, must_bring, Refuses, refusal}
use Rattle.fifo.specs.Ring.{filled, Holds, Continues}
use Rattle.fifo.specs.declared.outs.Out.{Out}
use Rattle.fifo.specs.declared.outs.Out.TheVariants.{Dot, Dark, Missing, Refused}
use Rattle.fifo.specs.declared.pixels.Exchange.{Exchange}
use Rattle.fifo.specs.declared.refusals.Refusal.{Refusal}

-- counts of a good plan's state, with a ring that fits it
pub record Opened (xs s : List ℕ) (m : ℕ) (c : Counts) : Type 0 where
  pub plan_ok : PlanOk xs
  pub state_ok : StateOk xs s
  pub size : m ≡ (numbers_in xs).capacity
  pub plan_is : c.scan.plan.numbers ≡ numbers_in xs
  pub tick_is : c.scan.at.tick ≡ tick_at s
  pub progress_is : c.progress ≡ progress_at s

-- and what is brought may be
pub record Ready (xs s : List ℕ) (m n : ℕ) (c : Counts) : Type 0 where
  pub opened : Opened xs s m c
  pub whole : may_bring (progress_at s) n ≡ true
  pub early : must_bring (numbers_in xs) (progress_at s) n ≡ false

-- the memory answers where it brings something
abbrev pub brings : ℕ → Bool
brings n = not (n == 0)

-- counts with a tick to come, in which the memory may bring n dots for a ring of m places
pub record Going (c : Counts) (m n : ℕ) : Type 0 where
  pub size : m ≡ (plan_in c).capacity
  pub allowed : Allows c (brings n)
  pub whole : 0 < n → c.progress.arrived + n ≡ c.progress.requested

-- what is answered: the outcome of the model's tick, with the dot that stands at the place of the one taken
abbrev pub out_of : Outcome → ℕ → Out
out_of (given.Dot n) dot = Dot dot n
out_of (given.Dark n) dot = Dark n
out_of (given.Missing n) dot = Missing n

abbrev pub NotMissing : Out → Type 0
NotMissing (Dot x n) = Unit {0}
NotMissing (Dark n) = Unit {0}
NotMissing (Missing n) = ⊥
NotMissing (Refused n) = Unit {0}

-- a tick of plan p with feeder f, ring r and what is brought gives x, which is made of the model's outcome and a dot and is fine where none is missing, and leaves the numbers s₁ and the ring r₁
pub record TickedAs {X : Type 0} (made : Outcome → ℕ → X) (Fine : X → Type 0) (p : Numbers) (t : ℕ) (f : Progress) (r b : List ℕ) (x : X) (s₁ r₁ : List ℕ) : Type 0 where
  pub six : length s₁ ≡ 6
  pub marks : (slice_index s₁ 3 ≤ 1) × (slice_index s₁ 5 ≤ 1)
  pub tick : tick_at s₁ ≡ t + 1
  pub feeder : progress_at s₁ ≡ after_tick (demand_of p) (brings (length b)) t f
  pub ring : r₁ ≡ filled p.capacity f.arrived b r
  pub gives : x ≡ made (outcome (demand_of p) (brings (length b)) t f) (slice_index r₁ (taken p t % p.capacity))
  -- a picture that the ring holds from the next dot on, and that what is brought continues, it holds again; and a dot that is given is the picture's
  pub picture : (dots : ℕ → ℕ) → Holds p.capacity (taken p t) f.arrived r dots → Continues b f.arrived dots →
      Holds p.capacity (taken p (t + 1)) (progress_at s₁).arrived r₁ dots × (x ≡ made (outcome (demand_of p) (brings (length b)) t f) (dots (taken p t)))
  -- the numbers are accepted again until the frame ends
  pub again : t + 1 < frame_ticks p → state_refusal p s₁ ≡ None
  -- numbers that a frame reaches lead to such, and by a plan in time the dot is not missing
  pub reached : Reached p t f → Reached p (t + 1) (progress_at s₁)
  pub fed : Reached p t f → in_time p ≡ true → Fine x

-- what is answered to whoever lent the numbers
abbrev pub Ticked : Numbers → ℕ → Progress → (r b : List ℕ) → Out → (s₁ r₁ : List ℕ) → Type 0
Ticked p t f r b o s₁ r₁ = TickedAs out_of NotMissing p t f r b o s₁ r₁

-- and by types
abbrev pub Exchanged : Numbers → ℕ → Progress → (r b : List ℕ) → Exchange → (s₁ r₁ : List ℕ) → Type 0
Exchanged p t f r b e s₁ r₁ = TickedAs exchange_of (λ e. is_missing e.pixel ≡ false) p t f r b e s₁ r₁

-- a tick, or the refusal and all as it was
abbrev pub TriesTick : (plan state ring brought : List ℕ) → Result Exchange Refusal → (state₁ ring₁ : List ℕ) → Type 0
TriesTick xs s r b (Ok e) s₁ r₁ = (refusal xs s (length r) (length b) ≡ 0) × Exchanged (numbers_in xs) (tick_at s) (progress_at s) r b e s₁ r₁
TriesTick xs s r b (Err why) s₁ r₁ = Refuses xs s (length r) (length b) why × (s₁ ≡ s) × (r₁ ≡ r)

-- by the number of the refusal: nought is a tick, and any other leaves all as it was
abbrev pub TickSays : ℕ → (plan state ring brought : List ℕ) → Out → (state₁ ring₁ : List ℕ) → Type 0
TickSays zero xs s r b o s₁ r₁ = Ticked (numbers_in xs) (tick_at s) (progress_at s) r b o s₁ r₁
TickSays (suc n) xs s r b o s₁ r₁ = (o ≡ Refused (suc n)) × (s₁ ≡ s) × (r₁ ≡ r)

-- of the dots from dot k up to dot c those up to the ring's end
unfoldable pub next_part : (m k c : ℕ) → List ℕ → List ℕ
next_part m k c r = take (min (c - k) (m - k % m)) (drop (k % m) r)

-- a plan, a state and a ring that fit each other
abbrev pub Fits : (plan state ring : List ℕ) → Type 0
Fits xs s r = PlanOk xs × StateOk xs s × (length r ≡ (numbers_in xs).capacity)

-- what is handed back: a part of the ring, or none
pub record NextSays (xs s r part : List ℕ) : Type 0 where
  pub refused : (Fits xs s r → ⊥) → part ≡ []
  pub next : Fits xs s r → part ≡ next_part (length r) (taken (numbers_in xs) (tick_at s)) (progress_at s).arrived r

-- the part up to the ring's end, and the one from its start that is next once those dots are taken, are together all dots from k up to c, in their order
pub record TwoParts (m k c : ℕ) (r : List ℕ) : Type 0 where
  pub both : List ℕ
  pub parts : both ≡ next_part m k c r ++ next_part m (k + length (next_part m k c r)) c r
  pub count : length both ≡ c - k
  pub each : (dots : ℕ → ℕ) → Holds m k c r dots → (i : ℕ) → i < c - k → slice_index both i ≡ dots (k + i)
