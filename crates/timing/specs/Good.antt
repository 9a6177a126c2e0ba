-- Which numbers make a plan. Assumes nothing: this is a definition.
use Rattle.std.specs.Prelude.{ℕ, Bool, ◌&&◌, nat_le}
use Rattle.timing.specs.declared.numbers.Numbers.{Numbers}

abbrev pub between : ℕ → ℕ → ℕ → Bool
between low high n = nat_le low n && nat_le n high

-- every number is within its limits, and a burst within the capacity
unfoldable pub good : Numbers → Bool
good p =
    between 1 4096 p.width && (between 1 4096 p.height && (nat_le p.hblank 4096 && (nat_le p.vblank 65536
    && (nat_le p.capacity 65536 && (between 1 p.capacity p.burst && between 1 65536 p.latency)))))
