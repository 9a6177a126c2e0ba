-- A position between two ticks, against the count of dots taken.
use Rattle.std.specs.Prelude.{◌≡◌, ◌<◌, ◌≤◌}
use Rattle.timing.specs.declared.numbers.Numbers.{Numbers}
use Rattle.timing.specs.declared.positions.Position.{Position}
use Rattle.timing.specs.Frame.{frame_ticks, taken, index, tick_of}

-- a position is the one before its tick
pub record Tracks (p : Numbers) (at : Position) : Type 0 where
  pub inside : at.tick ≤ frame_ticks p
  pub counted : at.count ≡ taken p at.tick
  pub placed : at.count ≡ index p at.next
  pub column : at.next.x < p.width
  pub timed : at.due ≡ tick_of p at.next
