-- What a tick gives the panel, and asks of the memory. Assumes nothing: these are definitions.
use Rattle.std.specs.Prelude.{ℕ, Bool, true, false}
use Rattle.feeder.specs.declared.outcomes.Outcome.{Outcome}
use Rattle.feeder.specs.declared.outcomes.Outcome.TheVariants as given
use Rattle.fifo.specs.declared.pixels.Exchange.{Exchange}
use Rattle.fifo.specs.declared.outs.Out.{Out}
use Rattle.fifo.specs.declared.outs.Out.TheVariants as lent
use Rattle.fifo.specs.declared.pixels.Pixel.{Pixel}
use Rattle.fifo.specs.declared.pixels.Pixel.TheVariants.{Dot, Dark, Missing}

-- of a feeder's outcome, with the dot that is taken
abbrev pub exchange_of : Outcome → ℕ → Exchange
exchange_of (given.Dot n) dot = record { pixel = Dot dot; requested = n }
exchange_of (given.Dark n) dot = record { pixel = Dark; requested = n }
exchange_of (given.Missing n) dot = record { pixel = Missing; requested = n }

abbrev pub is_missing : Pixel → Bool
is_missing (Dot x) = false
is_missing Dark = false
is_missing Missing = true

-- the same as it is answered to whoever lent the numbers
abbrev pub out_with : Pixel → ℕ → Out
out_with (Dot x) n = lent.Dot x n
out_with Dark n = lent.Dark n
out_with Missing n = lent.Missing n

abbrev pub out_from : Exchange → Out
out_from e = out_with e.pixel e.requested
