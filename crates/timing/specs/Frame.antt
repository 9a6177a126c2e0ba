-- When the panel takes a dot, and which. Assumes nothing: these are definitions.
use Rattle.std.specs.Prelude.{◌≡◌, ℕ, zero, suc, ◌+◌, ◌-◌, ◌*◌, ◌%◌, ◌<◌, ◌≤◌, Bool, true, cond, ◌&&◌, nat_le, nat_lt}
use Rattle.timing.specs.declared.numbers.Numbers.{Numbers}
use Rattle.timing.specs.declared.dots.Dot.{Dot}

-- ticks of a line: its blanking, then one for each dot
unfoldable pub line_ticks : Numbers → ℕ
line_ticks p = p.hblank + p.width

-- ticks of a frame: its blanking, then its lines
unfoldable pub frame_ticks : Numbers → ℕ
frame_ticks p = p.vblank + p.height * line_ticks p

unfoldable pub frame_dots : Numbers → ℕ
frame_dots p = p.width * p.height

-- the panel takes a dot in a tick of the frame that lies behind the blanking of the frame and of its line
unfoldable pub takes : Numbers → ℕ → Bool
takes p t = nat_le p.vblank t && (nat_lt t (frame_ticks p) && nat_le p.hblank ((t - p.vblank) % line_ticks p))

-- how many dots it has taken before a tick
unfoldable pub taken : Numbers → ℕ → ℕ
taken p zero = 0
taken p (suc t) = taken p t + cond (takes p t) 1 0

-- the count of dots taken, as a curve over the ticks
pub record Curve (p : Numbers) : Type 0 where
  pub rises : (s t : ℕ) → s ≤ t → taken p s ≤ taken p t
  pub slowly : (t d : ℕ) → taken p (t + d) ≤ taken p t + d
  pub dark : (t : ℕ) → t ≤ p.vblank → taken p t ≡ 0
  pub within : (t : ℕ) → taken p t ≤ frame_dots p

-- dot x of line y is dot y * width + x of the frame
unfoldable pub index : Numbers → Dot → ℕ
index p d = d.y * p.width + d.x

abbrev pub InFrame : Numbers → Dot → Type 0
InFrame p d = (d.x < p.width) × (d.y < p.height)

-- the tick in which a dot is taken
unfoldable pub tick_of : Numbers → Dot → ℕ
tick_of p d = p.vblank + (d.y * line_ticks p + (p.hblank + d.x))

-- a tick takes dot k of the frame: it takes one, and k were taken before it
abbrev pub TakesDot : Numbers → ℕ → ℕ → Type 0
TakesDot p k t = (takes p t ≡ true) × (taken p t ≡ k)

-- a dot is taken in one tick and in no other
pub record TakenIn (p : Numbers) (d : Dot) (t : ℕ) : Type 0 where
  pub inside : InFrame p d
  pub tick : t ≡ tick_of p d
  pub here : TakesDot p (index p d) t
  pub only : (s : ℕ) → TakesDot p (index p d) s → s ≡ t
