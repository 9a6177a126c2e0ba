-- The keywords, and what each makes of the numbers behind it: steps on the way from a line to what it says. Assumes nothing: these are definitions.
use Rattle.std.specs.Prelude.{◌≡◌, ℕ, zero, suc, Bool, true, false, List, [], ◌∷◌, ◌++◌, Some, None, codes, Option, MatchOption, ◌≢◌}
use Rattle.std.specs.Borrow.{Bor}
use Rattle.text.specs.Rows.{RowBy, capped}
use Rattle.text.specs.Said.{Said, said, flag, plan, in_time, run_latest, run_by, chart_latest, trace_latest, when, at, dots, ring, tick, state, set_state, next, help}
use Rattle.text.specs.declared.commands.Command.{Command}
use Rattle.text.specs.declared.keys.Key.{Key}
use Rattle.text.specs.declared.keys.Key.TheVariants.{Plan, InTime, RunLatest, RunBy, ChartLatest, TraceLatest, When, At, Dots, Ring, Tick, State, Next, Help}

abbrev pub key_text : Key → List ℕ
key_text Plan = codes "plan"
key_text InTime = codes "in time?"
key_text RunLatest = codes "run latest"
key_text RunBy = codes "run by"
key_text ChartLatest = codes "chart latest"
key_text TraceLatest = codes "trace latest"
key_text When = codes "when"
key_text At = codes "at"
key_text Dots = codes "dots"
key_text Ring = codes "ring"
key_text Tick = codes "tick"
key_text State = codes "state"
key_text Next = codes "next"
key_text Help = codes "help"

-- the line does not begin with the keyword
abbrev pub Unkeyed : List ℕ → Key → Type 0
Unkeyed line key = (tail : List ℕ) → line ≢ key_text key ++ tail

-- what looking for a keyword may answer: it, and the rest of the line
abbrev pub IsKeyed : List ℕ → Option (Key × Bor (List ℕ)) → Type 0
IsKeyed line r = MatchOption r ((key : Key) → Unkeyed line key) (λ p. line ≡ key_text p.0 ++ p.1.now)

-- the same of one keyword
abbrev pub IsCutBy : Key → List ℕ → Option (Key × Bor (List ℕ)) → Type 0
IsCutBy key line r = MatchOption r (Unkeyed line key) (λ p. line ≡ key_text p.0 ++ p.1.now)

-- zeros and ones as flags
abbrev pub onto : Bool → Option (List Bool) → Option (List Bool)
onto f None = None
onto f (Some fs) = Some (f ∷ fs)

abbrev pub flags_of : List ℕ → Option (List Bool)
flags_of [] = Some []
flags_of (zero ∷ ns) = onto false (flags_of ns)
flags_of (suc zero ∷ ns) = onto true (flags_of ns)
flags_of (suc (suc n) ∷ ns) = None

-- what some numbers say behind a keyword that takes none, flags, two, one, or any
abbrev pub alone : Said → List ℕ → Option Said
alone s [] = Some s
alone s (n ∷ ns) = None

abbrev pub by_flags : Option (List Bool) → Option Said
by_flags None = None
by_flags (Some []) = None
by_flags (Some (f ∷ fs)) = Some (run_by (f ∷ fs))

abbrev pub when_of : List ℕ → Option Said
when_of [] = None
when_of (x ∷ []) = None
when_of (x ∷ y ∷ []) = Some (when x y)
when_of (x ∷ y ∷ z ∷ ns) = None

abbrev pub at_of : List ℕ → Option Said
at_of [] = None
at_of (t ∷ []) = Some (at t)
at_of (t ∷ n ∷ ns) = None

abbrev pub state_of : List ℕ → Option Said
state_of [] = Some state
state_of (n ∷ ns) = Some (set_state (n ∷ ns))

abbrev pub assembled : Key → List ℕ → Option Said
assembled Plan ns = Some (plan ns)
assembled InTime ns = alone in_time ns
assembled RunLatest ns = alone run_latest ns
assembled RunBy ns = by_flags (flags_of ns)
assembled ChartLatest ns = alone chart_latest ns
assembled TraceLatest ns = alone trace_latest ns
assembled When ns = when_of ns
assembled At ns = at_of ns
assembled Dots ns = Some (dots ns)
assembled Ring ns = Some (ring ns)
assembled Tick ns = Some (tick ns)
assembled State ns = state_of ns
assembled Next ns = alone next ns
assembled Help ns = alone help ns

abbrev pub spoken : Option Command → Option Said
spoken None = None
spoken (Some c) = Some (said c)

-- what reading a flag may answer
abbrev pub IsFlag : ℕ → Option Bool → Type 0
IsFlag n r = MatchOption r ((f : Bool) → flag f ≢ n) (λ f. flag f ≡ n)

-- what reading a run may answer: one by the flags that the text says, which are some
abbrev pub IsRun : List ℕ → Option Command → Type 0
IsRun text r = MatchOption r ((f : Bool) (fs : List Bool) → RowBy flag capped text (f ∷ fs) → ⊥) (λ c. (f : Bool) × (fs : List Bool) × (said c ≡ run_by (f ∷ fs)) × RowBy flag capped text (f ∷ fs))
