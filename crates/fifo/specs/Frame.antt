-- A typed FIFO, tick by tick. Assumes nothing: these are definitions.
use Rattle.std.specs.Prelude.{◌≡◌, ℕ, ◌≤◌, Bool, true, false, List, length, Ok, Err, Result, ◌≢◌}
use Rattle.timing.specs.Frame.{frame_ticks, taken}
use Rattle.feeder.specs.Feed.{Follows}
use Rattle.feeder.specs.Step.{plan_in, tick_in}
use Rattle.feeder.specs.declared.outcomes.Outcome.{Outcome}
use Rattle.feeder.specs.declared.outcomes.Outcome.TheVariants as given
use Rattle.fifo.specs.Gives.{exchange_of, is_missing}
use Rattle.fifo.specs.Ring.{Holds}
use Rattle.fifo.specs.Script.{Script}
use Rattle.fifo.specs.declared.fifos.Fifo.{Fifo}
use Rattle.feeder.specs.declared.lent.StateRefusal.TheVariants.{FrameOver}
use Rattle.fifo.specs.declared.refusals.Refusal.{Refusal}
use Rattle.fifo.specs.declared.refusals.Refusal.TheVariants.{Plan, State, Ring, Brought, Late}
use Rattle.fifo.specs.declared.pixels.Pixel.{Pixel}

-- what the panel gets of an outcome, with the dot that is taken
abbrev pub pixel_of : Outcome → ℕ → Pixel
pixel_of o dot = (exchange_of o dot).pixel

-- no dot is missing
abbrev pub Given : Pixel → Type 0
Given x = is_missing x ≡ false

-- how many dots it takes
abbrev pub takes_of : Outcome → ℕ
takes_of (given.Dot n) = 1
takes_of (given.Dark n) = 0
takes_of (given.Missing n) = 1

-- the ring holds the picture's dots that have arrived and were not taken
abbrev pub Kept : Fifo → List ℕ → (ℕ → ℕ) → Type 0
Kept a r picture = Holds (length r) (taken (plan_in a.feeder.counts) (tick_in a.feeder.counts)) a.feeder.counts.progress.arrived r picture

-- a tick with a memory: the feeder follows the model by what the memory may say, the ring goes on holding the picture, and what the panel gets is the picture's dot, dark or missing
pub record Played (script : Script) (a : Fifo) (r : List ℕ) (x : Pixel) (b : Fifo) (r₁ : List ℕ) : Type 0 where
  pub willing : Bool
  pub said : script.may 0 (tick_in a.feeder.counts) willing ≡ true
  pub outcome : Outcome
  pub follows : Follows a.feeder.counts willing outcome b.feeder.counts
  pub size : length r₁ ≡ length r
  pub kept : Kept a r (script.dots 0) → Kept b r₁ (script.dots 0) × (x ≡ pixel_of outcome (script.dots 0 (taken (plan_in a.feeder.counts) (tick_in a.feeder.counts))))

-- or it is refused, and nothing changes
abbrev pub Stays : Fifo → List ℕ → Fifo → List ℕ → Type 0
Stays a r b r₁ = (b ≡ a) × (r₁ ≡ r)

abbrev pub Stops : Fifo → List ℕ → Refusal → Type 0
Stops a r (Plan e) = ⊥
Stops a r (State e) = (length r ≡ (plan_in a.feeder.counts).capacity) × (frame_ticks (plan_in a.feeder.counts) ≤ tick_in a.feeder.counts) × (e ≡ FrameOver)
Stops a r (Ring k) = (length r ≢ (plan_in a.feeder.counts).capacity) × (k ≡ length r)
Stops a r (Brought k) = ⊥
Stops a r (Late t) = ⊥

abbrev pub Plays : Script → Fifo → List ℕ → Result Pixel Refusal → Fifo → List ℕ → Type 0
Plays script a r (Ok x) b r₁ = Played script a r x b r₁
Plays script a r (Err e) b r₁ = Stays a r b r₁ × Stops a r e
