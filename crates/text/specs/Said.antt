-- What a command says, how it is written, and when a line says it. Assumes nothing: these are definitions.
use Rattle.std.specs.Prelude.{◌≡◌, ℕ, ◌^◌, ◌<◌, Bool, cond, ◌⊎◌, List, [], ◌∷◌, ◌++◌, map, vec_items, codes}
use Rattle.std.specs.List.{AllByRecursion}
use Rattle.text.specs.Rows.{Row, row_text, capped, exact}
use Rattle.text.specs.declared.commands.Command.{Command}
use Rattle.text.specs.declared.commands.Command.TheVariants.{Plan, InTime, RunLatest, RunBy, ChartLatest, TraceLatest, When, At, Dots, Ring, Tick, State, SetState, Next, Help, Nothing}

pub data Said : Type 0 where
  plan : List ℕ → Said
  in_time : Said
  run_latest : Said
  run_by : List Bool → Said
  chart_latest : Said
  trace_latest : Said
  when : ℕ → ℕ → Said
  at : ℕ → Said
  dots : List ℕ → Said
  ring : List ℕ → Said
  tick : List ℕ → Said
  state : Said
  set_state : List ℕ → Said
  next : Said
  help : Said
  nothing : Said

abbrev pub said : Command → Said
said (Plan row) = plan (vec_items row)
said InTime = in_time
said RunLatest = run_latest
said (RunBy flags) = run_by (vec_items flags)
said ChartLatest = chart_latest
said TraceLatest = trace_latest
said (When dot) = when dot.x dot.y
said (At t) = at t
said (Dots row) = dots (vec_items row)
said (Ring row) = ring (vec_items row)
said (Tick row) = tick (vec_items row)
said State = state
said (SetState row) = set_state (vec_items row)
said Next = next
said Help = help
said Nothing = nothing

abbrev pub keyword : Said → List ℕ
keyword (plan ns) = codes "plan"
keyword in_time = codes "in time?"
keyword run_latest = codes "run latest"
keyword (run_by fs) = codes "run by"
keyword chart_latest = codes "chart latest"
keyword trace_latest = codes "trace latest"
keyword (when x y) = codes "when"
keyword (at t) = codes "at"
keyword (dots ns) = codes "dots"
keyword (ring ns) = codes "ring"
keyword (tick ns) = codes "tick"
keyword state = codes "state"
keyword (set_state ns) = codes "state"
keyword next = codes "next"
keyword help = codes "help"
keyword nothing = []

abbrev pub flag : Bool → ℕ
flag f = cond f 1 0

-- the numbers behind the keyword
abbrev pub numbers : Said → List ℕ
numbers (plan ns) = ns
numbers in_time = []
numbers run_latest = []
numbers (run_by fs) = map flag fs
numbers chart_latest = []
numbers trace_latest = []
numbers (when x y) = x ∷ y ∷ []
numbers (at t) = t ∷ []
numbers (dots ns) = ns
numbers (ring ns) = ns
numbers (tick ns) = ns
numbers state = []
numbers (set_state ns) = ns
numbers next = []
numbers help = []
numbers nothing = []

abbrev pub written : Said → List ℕ
written s = keyword s ++ row_text (numbers s)

-- a run by flags has one at least, and a state that is set a number; what asks nothing is no order
abbrev pub Whole : Said → Type 0
Whole (plan ns) = Unit {0}
Whole in_time = Unit {0}
Whole run_latest = Unit {0}
Whole (run_by []) = ⊥
Whole (run_by (f ∷ fs)) = Unit {0}
Whole chart_latest = Unit {0}
Whole trace_latest = Unit {0}
Whole (when x y) = Unit {0}
Whole (at t) = Unit {0}
Whole (dots ns) = Unit {0}
Whole (ring ns) = Unit {0}
Whole (tick ns) = Unit {0}
Whole state = Unit {0}
Whole (set_state []) = ⊥
Whole (set_state (n ∷ ns)) = Unit {0}
Whole next = Unit {0}
Whole help = Unit {0}
Whole nothing = ⊥

pub record Fitting (s : Said) : Type 0 where
  pub whole : Whole s
  pub fit : AllByRecursion (λ n. n < 2 ^ 32) (numbers s)

-- the line is the keyword of s with its numbers behind it
pub record Order (read : ℕ → ℕ) (line : List ℕ) (s : Said) : Type 0 where
  pub whole : Whole s
  pub tail : List ℕ
  pub is : line ≡ keyword s ++ tail
  pub row : Row read tail (numbers s)

-- the line is empty, or begins with `#`
abbrev pub Remark : List ℕ → Type 0
Remark line = (line ≡ []) ⊎ ((rest : List ℕ) × (line ≡ 35 ∷ rest))

abbrev pub SaysBy : (ℕ → ℕ) → List ℕ → Said → Type 0
SaysBy read line s = (Remark line × (s ≡ nothing)) ⊎ Order read line s

-- what a line says, where a number too large is the largest; and where no number is too large
abbrev pub Says : List ℕ → Said → Type 0
Says = SaysBy capped

abbrev pub SaysExactly : List ℕ → Said → Type 0
SaysExactly = SaysBy exact
