-- Frames from first tick to last. Assumes nothing: these are definitions.
use Rattle.std.specs.Prelude.{◌≡◌, ℕ, zero, suc, ◌+◌, ◌<◌, ◌≤◌, Bool, false, ◌⊎◌, List, length, Some, None, Ok, Err, Option, Result, ◌≢◌}
use Rattle.std.specs.Option.{option_map}
use Rattle.timing.specs.Frame.{frame_ticks, frame_dots, takes, taken, index, InFrame, TakesDot, tick_of}
use Rattle.timing.specs.declared.dots.Dot as place
use Rattle.timing.specs.declared.numbers.Numbers.{Numbers}
use Rattle.feeder.specs.Feed.{Ran, FirstUnderrun}
use Rattle.feeder.specs.Model.{after, outcome}
use Rattle.feeder.specs.Panel.{demand_of}
use Rattle.feeder.specs.Step.{plan_in, tick_in}
use Rattle.feeder.specs.declared.states.Progress.{Progress}
use Rattle.fifo.specs.Gives.{exchange_of}
use Rattle.fifo.specs.Frame.{Kept}
use Rattle.fifo.specs.Script.{Script, willing, after_frames}
use Rattle.fifo.specs.declared.fifos.Fifo.{Fifo}
use Rattle.fifo.specs.declared.pixels.Pixel.{Pixel}
use Rattle.fifo.specs.declared.pixels.Pixel.TheVariants.{Dot, Dark, Missing}
use Rattle.fifo.specs.declared.refusals.Refusal.{Refusal}
use Rattle.fifo.specs.declared.refusals.Refusal.TheVariants.{Ring}
use Rattle.playback.specs.declared.underruns.Underrun.{Underrun}

-- what the panel gets in tick t, where the memory is willing or not
unfoldable pub pixel_of : Numbers → Bool → (ℕ → ℕ) → ℕ → Progress → Pixel
pixel_of p w picture t f = (exchange_of (outcome (demand_of p) w t f) (picture (taken p t))).pixel

-- a tick with a memory, shown on a screen: the feeder follows the model by what the memory says, the ring goes on holding the picture, and the screen gets the picture's dot, dark or missing
pub record Served {S : Type 0} (accepts : S → Pixel → S → Type 0) (script : Script) (a : Fifo) (s : S) (missing : Bool) (b : Fifo) (r₁ : List ℕ) (s₁ : S) : Type 0 where
  pub ran : Ran a.feeder.counts (willing script 0 (tick_in a.feeder.counts)) missing b.feeder.counts
  pub kept : Kept b r₁ (script.dots 0)
  pub shown : accepts s (pixel_of (plan_in a.feeder.counts) (willing script 0 (tick_in a.feeder.counts)) (script.dots 0) (tick_in a.feeder.counts) a.feeder.counts.progress) s₁

-- what the panel gets in tick t of a frame, from a memory that holds a picture and is willing where w says
unfoldable pub pixel_in : Numbers → (ℕ → Bool) → (ℕ → ℕ) → ℕ → Pixel
pixel_in p w picture t = pixel_of p (w t) picture t (after (demand_of p) w t)

module _ {S : Type 0} (accepts : S → Pixel → S → Type 0) where
  -- a screen that gets what x says in each of the first n ticks, one after the other
  unfoldable pub Shown : (ℕ → Pixel) → ℕ → S → S → Type 0
  Shown x zero from to = to ≡ from
  Shown x (suc n) from to = (between : S) × Shown x n from between × accepts between (x n) to

  -- one that gets n frames, one after the other, each from its first tick to its last
  unfoldable pub Frames : Numbers → Script → ℕ → S → S → Type 0
  Frames p script zero from to = to ≡ from
  Frames p script (suc n) from to = (between : S) × Frames p script n from between × Shown (pixel_in p (willing script n) (script.dots n)) (frame_ticks p) between to

abbrev pub underrun_in : ℕ → Option ℕ → Option Underrun
underrun_in f tick = option_map (λ t. record { frame = f; tick = t }) tick

-- the first dot that is missing in n frames, if any
abbrev pub FirstOf : Numbers → Script → ℕ → Option Underrun → Type 0
FirstOf p script n None = (f : ℕ) → f < n → FirstUnderrun p (willing script f) None
FirstOf p script n (Some u) = (u.frame < n) × ((f : ℕ) → f < u.frame → FirstUnderrun p (willing script f) None) × FirstUnderrun p (willing script u.frame) (Some u.tick)

-- n frames from a memory on a screen; or it is refused by a ring of another length than the capacity, and nothing changes
pub record PlayedAll {M S : Type 0} (script : M → Script) (accepts : S → Pixel → S → Type 0) (p : Numbers) (n : ℕ) (m : M) (r : List ℕ) (s : S) (first : Option Underrun) (m₁ : M) (s₁ : S) : Type 0 where
  pub size : length r ≡ p.capacity
  pub frames : Frames accepts p (script m) n s s₁
  pub first_is : FirstOf p (script m) n first
  pub memory : script m₁ ≡ after_frames n (script m)

pub record Unplayed {M S : Type 0} (p : Numbers) (m : M) (r : List ℕ) (s : S) (e : Refusal) (m₁ : M) (r₁ : List ℕ) (s₁ : S) : Type 0 where
  pub size : length r ≡ p.capacity → ⊥
  pub why : e ≡ Ring (length r)
  pub same : (m₁ ≡ m) × (r₁ ≡ r) × (s₁ ≡ s)

abbrev pub PlaysAll : {M S : Type 0} (script : M → Script) (accepts : S → Pixel → S → Type 0) → Numbers → ℕ → M → List ℕ → S → Result (Option Underrun) Refusal → M → List ℕ → S → Type 0
PlaysAll script accepts p n m r s (Ok first) m₁ r₁ s₁ = PlayedAll script accepts p n m r s first m₁ s₁
PlaysAll script accepts p n m r s (Err e) m₁ r₁ s₁ = Unplayed p m r s e m₁ r₁ s₁

-- BY ANY GOOD PLAN, however the memory answers within its time: dot x of line y is given in its own tick or said to be missing in that tick, once, and is not replaced by another; in the other ticks the panel gets none; and the FIFO is never asked to hold more than it can
pub record InPlace (p : Numbers) (w : ℕ → Bool) (picture : ℕ → ℕ) : Type 0 where
  pub own : (d : place.Dot) → InFrame p d → (pixel_in p w picture (tick_of p d) ≡ Dot (picture (index p d))) ⊎ (pixel_in p w picture (tick_of p d) ≡ Missing)
  pub once : (d : place.Dot) → InFrame p d → (t : ℕ) → TakesDot p (index p d) t → t ≡ tick_of p d
  pub dark : (t : ℕ) → takes p t ≡ false → pixel_in p w picture t ≡ Dark
  pub room : (t : ℕ) → (after (demand_of p) w t).requested ≤ taken p t + p.capacity

-- BY A PLAN IN TIME: dot x of line y is given in its own tick, with the memory's value, and in the memory's order; none is ever missing; and at the frame's end all have arrived and nothing is pending
pub record Complete (p : Numbers) (w : ℕ → Bool) (picture : ℕ → ℕ) : Type 0 where
  pub own : (d : place.Dot) → InFrame p d → pixel_in p w picture (tick_of p d) ≡ Dot (picture (index p d))
  pub order : (d e : place.Dot) → InFrame p d → InFrame p e → index p d < index p e → tick_of p d < tick_of p e
  pub never : (t : ℕ) → pixel_in p w picture t ≢ Missing
  pub all : (after (demand_of p) w (frame_ticks p)).arrived ≡ frame_dots p
  pub idle : (after (demand_of p) w (frame_ticks p)).pending ≡ false
