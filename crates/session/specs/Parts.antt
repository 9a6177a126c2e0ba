-- What is written of the parts of a reply. Assumes nothing: these are definitions.
use Rattle.std.specs.Prelude.{ℕ, List, [], ◌∷◌, Some, None, codes, decimal, Option, slice_index}
use Rattle.timing.specs.declared.dots.Dot as place
use Rattle.deadline.specs.declared.verdicts.Verdict.{Verdict}
use Rattle.deadline.specs.declared.verdicts.Verdict.TheVariants.{InTime, TurnedAway, Slow, Cramped, Sudden}
use Rattle.fifo.specs.declared.pixels.Exchange.{Exchange}
use Rattle.fifo.specs.declared.pixels.Pixel.{Pixel}
use Rattle.fifo.specs.declared.pixels.Pixel.TheVariants.{Dot, Dark, Missing}
use Rattle.text.specs.Rows.{row_text}
use Rattle.session.specs.Messages.{◌&◌}

abbrev pub newline : List ℕ
newline = 10 ∷ []

abbrev pub verdict_text : Verdict → List ℕ
verdict_text InTime = codes "yes" & newline
verdict_text (TurnedAway e) = codes "no 1: no plan" & newline
verdict_text (Slow burst latency) =
    codes "no 2: " & decimal burst & codes " at once, and " & decimal latency & codes " are needed: an answer takes " & decimal latency & codes " ticks" & newline
verdict_text (Cramped capacity needed burst latency) =
    codes "no 3: room for " & decimal capacity & codes " dots, and " & decimal needed & codes " are needed: " & decimal burst & codes " at once and " & decimal latency & codes " ticks" & newline
verdict_text (Sudden vblank latency) =
    codes "no 4: " & decimal vblank & codes " ticks before the picture, and " & decimal latency & codes " are needed: an answer takes " & decimal latency & codes " ticks" & newline

-- the numbers with one space between each two
abbrev pub numbers_text : List ℕ → List ℕ
numbers_text [] = codes "none" & newline
numbers_text (n ∷ ns) = decimal n & row_text ns & newline

-- a state's six numbers
abbrev pub state_text : List ℕ → List ℕ
state_text s =
    decimal (slice_index s 0) & codes " " & decimal (slice_index s 1) & codes " " & decimal (slice_index s 2) & codes " " & decimal (slice_index s 3) & codes " " & decimal (slice_index s 4) & codes " " & decimal (slice_index s 5) & newline

abbrev pub pixel_text : Pixel → List ℕ
pixel_text (Dot d) = codes "dot " & decimal d
pixel_text Dark = codes "dark"
pixel_text Missing = codes "missing"

abbrev pub exchange_text : Exchange → List ℕ
exchange_text e = pixel_text e.pixel & codes ", " & decimal e.requested & codes " asked for" & newline

abbrev pub tick_text : Option ℕ → List ℕ
tick_text (Some t) = codes "tick " & decimal t & newline
tick_text None = codes "none" & newline

abbrev pub dot_text : Option place.Dot → List ℕ
dot_text (Some d) = codes "dot " & decimal d.x & codes " of line " & decimal d.y & newline
dot_text None = codes "none" & newline

-- the first tick in which a dot was missing
abbrev pub missing_text : Option ℕ → List ℕ
missing_text (Some t) = codes "missing in tick " & decimal t & newline
missing_text None = codes "none missing" & newline
