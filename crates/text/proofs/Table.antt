-- No keyword begins another, and each takes its numbers in one way.
use Rattle.std.proofs.Common.{◌≡◌, ℕ, zero, suc, Bool, true, false, cond, ◌&&◌, eqb, List, [], ◌∷◌, ◌++◌, map, length, Some, None, Option, Vec, sym, refl, ap, ◌∙◌, subst, inl, inr}
use Rattle.std.specs.List.{AllByRecursion}
use Rattle.std.specs.Option.{option_map}
use Rattle.std.specs.declared.alloc.Global.{Global}
use Rattle.std.proofs.lemmas.Option.{none-some}
use Rattle.text.specs.Keyed.{key_text, onto, flags_of, alone, by_flags, assembled, IsRun}
use Rattle.text.specs.Rows.{RowBy, IsRowBy, capped}
use Rattle.text.specs.Said.{Said, plan, in_time, run_latest, run_by, chart_latest, trace_latest, when, at, dots, ring, tick, state, set_state, next, help, nothing, keyword, flag, numbers, Whole, Remark}
use Rattle.text.specs.declared.commands.Command.{Command}
use Rattle.text.specs.declared.commands.Command.TheVariants as command
use Rattle.text.specs.declared.keys.Key.{Key}
use Rattle.text.specs.declared.keys.Key.TheVariants.{Plan, InTime, RunLatest, RunBy, ChartLatest, TraceLatest, When, At, Dots, Ring, Tick, State, Next, Help}

abbrev pub all_keys : List Key
all_keys = Plan ∷ InTime ∷ RunLatest ∷ RunBy ∷ ChartLatest ∷ TraceLatest ∷ When ∷ At ∷ Dots ∷ Ring ∷ Tick ∷ State ∷ Next ∷ Help ∷ []

pub each : (P : Key → Type 0) → AllByRecursion P all_keys → (key : Key) → P key
each P h Plan = h.0
each P h InTime = h.1.0
each P h RunLatest = h.1.1.0
each P h RunBy = h.1.1.1.0
each P h ChartLatest = h.1.1.1.1.0
each P h TraceLatest = h.1.1.1.1.1.0
each P h When = h.1.1.1.1.1.1.0
each P h At = h.1.1.1.1.1.1.1.0
each P h Dots = h.1.1.1.1.1.1.1.1.0
each P h Ring = h.1.1.1.1.1.1.1.1.1.0
each P h Tick = h.1.1.1.1.1.1.1.1.1.1.0
each P h State = h.1.1.1.1.1.1.1.1.1.1.1.0
each P h Next = h.1.1.1.1.1.1.1.1.1.1.1.1.0
each P h Help = h.1.1.1.1.1.1.1.1.1.1.1.1.1.0

abbrev begins : List ℕ → List ℕ → Bool
begins [] line = true
begins (c ∷ cs) [] = false
begins (c ∷ cs) (b ∷ bs) = eqb c b && begins cs bs

abbrev first_of : List Key → List ℕ → Option Key
first_of [] line = None
first_of (key ∷ keys) line = cond (begins (key_text key) line) (Some key) (first_of keys line)

abbrev key_of : List ℕ → Option Key
key_of line = first_of all_keys line

key_is : (key : Key) (tail : List ℕ) → key_of (key_text key ++ tail) ≡ Some key
key_is Plan tail = refl
key_is InTime tail = refl
key_is RunLatest tail = refl
key_is RunBy tail = refl
key_is ChartLatest tail = refl
key_is TraceLatest tail = refl
key_is When tail = refl
key_is At tail = refl
key_is Dots tail = refl
key_is Ring tail = refl
key_is Tick tail = refl
key_is State tail = refl
key_is Next tail = refl
key_is Help tail = refl

pub from_some : {A : Type 0} (x y : A) → Some x ≡ Some y → x ≡ y
from_some x y e = cc

-- no keyword begins another
pub same_key : (k l : Key) (t u : List ℕ) → key_text k ++ t ≡ key_text l ++ u → k ≡ l
same_key k l t u e = from_some k l (sym (key_is k t) ∙ ap key_of e ∙ key_is l u)

pub no_remark : (line : List ℕ) (key : Key) (tail : List ℕ) → Remark line → line ≡ key_text key ++ tail → ⊥
no_remark line key tail (inl e) f = none-some key (ap key_of (sym e ∙ f) ∙ key_is key tail)
no_remark line key tail (inr p) f = none-some key (ap key_of (sym p.1 ∙ f) ∙ key_is key tail)

-- zeros and ones are flags, and nothing else is
pub flags_are : (fs : List Bool) → flags_of (map flag fs) ≡ Some fs
flags_are [] = refl
flags_are (true ∷ fs) = ap (onto true) (flags_are fs)
flags_are (false ∷ fs) = ap (onto false) (flags_are fs)

onto_some : (f : Bool) (o : Option (List Bool)) (fs : List Bool) → onto f o ≡ Some fs → (gs : List Bool) × (o ≡ Some gs) × (fs ≡ f ∷ gs)
onto_some f None fs e = absurd (none-some fs e)
onto_some f (Some gs) fs e = (gs, refl, sym (from_some (f ∷ gs) fs e))

pub flags_from : (ns : List ℕ) (fs : List Bool) → flags_of ns ≡ Some fs → map flag fs ≡ ns
flags_from [] fs e = ap (map flag) (sym (from_some [] fs e))
flags_from (zero ∷ ns) fs e =
    let p = onto_some false (flags_of ns) fs e in
    ap (map flag) p.2 ∙ ap (λ (l : List ℕ). 0 ∷ l) (flags_from ns p.0 p.1)
flags_from (suc zero ∷ ns) fs e =
    let p = onto_some true (flags_of ns) fs e in
    ap (map flag) p.2 ∙ ap (λ (l : List ℕ). 1 ∷ l) (flags_from ns p.0 p.1)
flags_from (suc (suc n) ∷ ns) fs e = absurd (none-some fs e)

-- a keyword and its numbers say s
pub record Made (key : Key) (ns : List ℕ) (s : Said) : Type 0 where
  pub whole : Whole s
  pub key_is : keyword s ≡ key_text key
  pub numbers_are : numbers s ≡ ns

made_as : (key : Key) (ns : List ℕ) (s t : Said) → Made key ns s → Some s ≡ Some t → Made key ns t
made_as key ns s t h e = subst (Made key ns) (from_some s t e) h

made_alone : (key : Key) (s t : Said) (ns : List ℕ) → Made key [] s → alone s ns ≡ Some t → Made key ns t
made_alone key s t [] h e = made_as key [] s t h e
made_alone key s t (n ∷ ns) h e = absurd (none-some t e)

made_run : (ns : List ℕ) (o : Option (List Bool)) (s : Said) → flags_of ns ≡ o → by_flags o ≡ Some s → Made RunBy ns s
made_run ns None s f e = absurd (none-some s e)
made_run ns (Some []) s f e = absurd (none-some s e)
made_run ns (Some (b ∷ bs)) s f e = made_as RunBy ns _ s (record { whole = tt; key_is = refl; numbers_are = flags_from ns (b ∷ bs) f }) e

-- what is assembled is what it was assembled from
pub sound : (key : Key) (ns : List ℕ) (s : Said) → assembled key ns ≡ Some s → Made key ns s
sound Plan ns s e = made_as Plan ns _ s (record { whole = tt; key_is = refl; numbers_are = refl }) e
sound InTime ns s e = made_alone InTime _ s ns (record { whole = tt; key_is = refl; numbers_are = refl }) e
sound RunLatest ns s e = made_alone RunLatest _ s ns (record { whole = tt; key_is = refl; numbers_are = refl }) e
sound RunBy ns s e = made_run ns (flags_of ns) s refl e
sound ChartLatest ns s e = made_alone ChartLatest _ s ns (record { whole = tt; key_is = refl; numbers_are = refl }) e
sound TraceLatest ns s e = made_alone TraceLatest _ s ns (record { whole = tt; key_is = refl; numbers_are = refl }) e
sound When [] s e = absurd (none-some s e)
sound When (x ∷ []) s e = absurd (none-some s e)
sound When (x ∷ y ∷ []) s e = made_as When (x ∷ y ∷ []) _ s (record { whole = tt; key_is = refl; numbers_are = refl }) e
sound When (x ∷ y ∷ z ∷ ns) s e = absurd (none-some s e)
sound At [] s e = absurd (none-some s e)
sound At (t ∷ []) s e = made_as At (t ∷ []) _ s (record { whole = tt; key_is = refl; numbers_are = refl }) e
sound At (t ∷ n ∷ ns) s e = absurd (none-some s e)
sound Dots ns s e = made_as Dots ns _ s (record { whole = tt; key_is = refl; numbers_are = refl }) e
sound Ring ns s e = made_as Ring ns _ s (record { whole = tt; key_is = refl; numbers_are = refl }) e
sound Tick ns s e = made_as Tick ns _ s (record { whole = tt; key_is = refl; numbers_are = refl }) e
sound State [] s e = made_as State [] _ s (record { whole = tt; key_is = refl; numbers_are = refl }) e
sound State (n ∷ ns) s e = made_as State (n ∷ ns) _ s (record { whole = tt; key_is = refl; numbers_are = refl }) e
sound Next ns s e = made_alone Next _ s ns (record { whole = tt; key_is = refl; numbers_are = refl }) e
sound Help ns s e = made_alone Help _ s ns (record { whole = tt; key_is = refl; numbers_are = refl }) e

-- s has a keyword, and is assembled from it and its numbers
pub record Keyable (s : Said) : Type 0 where
  pub key : Key
  pub is : keyword s ≡ key_text key
  pub assembles : assembled key (numbers s) ≡ Some s

pub complete : (s : Said) → Whole s → Keyable s
complete (plan ns) w = record { key = Plan; is = refl; assembles = refl }
complete in_time w = record { key = InTime; is = refl; assembles = refl }
complete run_latest w = record { key = RunLatest; is = refl; assembles = refl }
complete (run_by []) w = absurd w
complete (run_by (f ∷ fs)) w = record { key = RunBy; is = refl; assembles = ap by_flags (flags_are (f ∷ fs)) }
complete chart_latest w = record { key = ChartLatest; is = refl; assembles = refl }
complete trace_latest w = record { key = TraceLatest; is = refl; assembles = refl }
complete (when x y) w = record { key = When; is = refl; assembles = refl }
complete (at t) w = record { key = At; is = refl; assembles = refl }
complete (dots ns) w = record { key = Dots; is = refl; assembles = refl }
complete (ring ns) w = record { key = Ring; is = refl; assembles = refl }
complete (tick ns) w = record { key = Tick; is = refl; assembles = refl }
complete state w = record { key = State; is = refl; assembles = refl }
complete (set_state []) w = absurd w
complete (set_state (n ∷ ns)) w = record { key = State; is = refl; assembles = refl }
complete next w = record { key = Next; is = refl; assembles = refl }
complete help w = record { key = Help; is = refl; assembles = refl }
complete nothing w = absurd w

-- a run is by some flags
pub run_from : (ns : List ℕ) (o : Option (List Bool)) (s : Said) → flags_of ns ≡ o → by_flags o ≡ Some s → (f : Bool) × (fs : List Bool) × (map flag (f ∷ fs) ≡ ns)
run_from ns None s e h = absurd (none-some s h)
run_from ns (Some []) s e h = absurd (none-some s h)
run_from ns (Some (f ∷ fs)) s e h = (f, fs, flags_from ns (f ∷ fs) e)

-- what flags, or none, make of a text that is not empty
pub run_is : (text : List ℕ) (o : Option (Vec Bool Global)) (r : Option Command) → r ≡ option_map command.RunBy o → IsRowBy flag text o → (length text ≡ 0 → ⊥) → IsRun text r
run_is text None r e h some = subst (IsRun text) (sym e) (λ f fs. h (f ∷ fs))
run_is text (Some flags) r e h some = subst (IsRun text) (sym e) (by_items flags.items refl h) where
  by_items : (fs : List Bool) → flags.items ≡ fs → RowBy flag capped text fs → IsRun text (Some (command.RunBy flags))
  by_items [] is row = absurd (some (ap length row))
  by_items (f ∷ fs) is row = (f, fs, ap run_by is, row)
