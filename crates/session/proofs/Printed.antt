-- What is printed, where the text or the value that it is of has another name.
use Rattle.std.proofs.Common.{◌≡◌, ℕ, List, Result, sym, ap, subst}
use Rattle.std.specs.Fmt.{WritesOnOk}
use Rattle.std.specs.declared.fmt.Error.{Error}
use Rattle.std.specs.declared.fmt.Formatter.{Formatter}

module _ {W : Type 0} (took : W → List ℕ → W → Type 0) where
  pub prints_is : (f g : Formatter W) (r : Result (Unit {0}) Error) (a b : List ℕ) → a ≡ b → WritesOnOk took f r a g → WritesOnOk took f r b g
  prints_is f g r a b e = subst (λ (t : List ℕ). WritesOnOk took f r t g) e

  pub prints_of : {A : Type 0} (text : A → List ℕ) (f g : Formatter W) (r : Result (Unit {0}) Error) (x y : A) → x ≡ y → WritesOnOk took f r (text y) g → WritesOnOk took f r (text x) g
  prints_of text f g r x y e = prints_is f g r (text y) (text x) (sym (ap text e))
