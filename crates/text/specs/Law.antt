-- What reading a line answers, and the laws of reading and writing. Assumes nothing: these are definitions.
use Rattle.std.specs.Prelude.{◌≡◌, ℕ, ◌⊎◌, List, Option, MatchOption}
use Rattle.text.specs.Said.{Said, nothing, said, written, Fitting, Says, SaysExactly}
use Rattle.text.specs.declared.commands.Command.{Command}

-- the command that the line says, or that it says none
abbrev pub IsRead : List ℕ → Option Command → Type 0
IsRead line r = MatchOption r ((s : Said) → Says line s → ⊥) (λ c. Says line (said c))

-- what is written of s is read as s
abbrev pub ReadsBack : List ℕ → Option Command → Type 0
ReadsBack line r = (s : Said) → Fitting s → line ≡ written s → MatchOption r ⊥ (λ c. said c ≡ s)

pub record Laws : Type 0 where
  -- a command says in writing what it says
  pub back : (s : Said) → Fitting s → Says (written s) s
  -- a line says one thing at most
  pub one_meaning : (line : List ℕ) (s t : Said) → Says line s → Says line t → s ≡ t
  -- what a line says can be written
  pub fitting : (line : List ℕ) (s : Said) → Says line s → (s ≡ nothing) ⊎ Fitting s
  -- a line says what its numbers are, where they fit
  pub plain : (line : List ℕ) (s : Said) → Fitting s → SaysExactly line s → Says line s
  -- there is one way only to say a thing
  pub one_way : (line : List ℕ) (s : Said) → Fitting s → SaysExactly line s → line ≡ written s
