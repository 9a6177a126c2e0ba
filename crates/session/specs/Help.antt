-- What `help` lists. Assumes nothing: these are definitions.
use Rattle.std.specs.Prelude.{ℕ, List, [], ◌∷◌, ◌++◌, codes}

-- each text as a line
abbrev lined : List (List ℕ) → List ℕ
lined [] = []
lined (l ∷ ls) = l ++ (10 ∷ lined ls)

unfoldable pub help_text : List ℕ
help_text =
    lined (
    codes "plan W H L P R B T   keep a plan: dots in a line, lines, ticks before a line and before the picture, room, at once, latest" ∷
    codes "in time?             whether no dot can ever be missing, or the first thing that is too small" ∷
    codes "when X Y             the tick in which dot X of line Y is taken" ∷
    codes "at T                 the dot that is taken in tick T" ∷
    codes "dots D D ..          the picture's dots, as many as it has; without this they are numbered from 0" ∷
    codes "run latest           a picture, by a memory that always takes as long as it may" ∷
    codes "run by 1 0 0 1       a picture, by a memory that is willing in the ticks marked 1, and answers when it must" ∷
    codes "chart latest         the store's fill over that picture, in 80 columns" ∷
    codes "trace latest         that picture as a VCD file, for a waveform viewer" ∷
    codes "state                the six numbers: the tick, asked for, come, 1 if it waits, for how many ticks, 1 if one was missing" ∷
    codes "state N N N N N N    set them" ∷
    codes "ring D D ..          set the store's places" ∷
    codes "tick                 one tick in which the memory brings nothing" ∷
    codes "tick D D ..          one tick in which it brings these dots" ∷
    codes "next                 the dots that come next, as the part of the store that is handed back" ∷
    codes "help                 this list" ∷
    [])
