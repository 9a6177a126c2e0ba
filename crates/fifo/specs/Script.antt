-- What a memory will do, frame by frame. Assumes nothing: these are definitions.
use Rattle.std.specs.Prelude.{ℕ, zero, suc, Bool, true, not, cond}

-- frame 0 is the one that is played, and the others follow it
pub record Script : Type 0 where
  -- dot k of frame f
  pub dots : ℕ → ℕ → ℕ
  -- may it say so in tick t of frame f, when it is asked whether it answers though it need not
  pub may : ℕ → ℕ → Bool → Bool

-- of a memory that may say one thing only, what it says
abbrev pub willing : Script → ℕ → ℕ → Bool
willing s f t = s.may f t true

-- the one thing that may be said
abbrev pub just : Bool → Bool → Bool
just answer said = cond said answer (not answer)

-- what is left of it once a frame is over, and once n are
abbrev pub next_frame : Script → Script
next_frame s = record { dots = λ f. s.dots (suc f); may = λ f. s.may (suc f) }

unfoldable pub after_frames : ℕ → Script → Script
after_frames zero s = s
after_frames (suc n) s = next_frame (after_frames n s)
