-- Numbers in a line: each stands behind one space. Assumes nothing: these are definitions.
use Rattle.std.specs.Prelude.{◌≡◌, ℕ, ◌-◌, ◌^◌, ◌<◌, min, List, [], ◌∷◌, ◌++◌, length, vec_items, decimal, Option, Vec, MatchOption, slice_index_or}
use Rattle.std.specs.Str.Parse.{AllDigits, digits_value}
use Rattle.std.specs.declared.alloc.Global.{Global}

-- a number too large for its type is the largest that its type has
abbrev pub capped : ℕ → ℕ
capped n = min n (2 ^ 32 - 1)

abbrev pub exact : ℕ → ℕ
exact n = n

-- digits with no zero before them, and what they are read as
pub record Numeral (read : ℕ → ℕ) (word : List ℕ) (n : ℕ) : Type 0 where
  pub some : 0 < length word
  pub digits : AllDigits 10 word
  pub lone_zero : slice_index_or word 0 0 ≡ 48 → length word ≡ 1
  pub is : n ≡ read (digits_value 10 word)

-- the text has a space and a numeral for each item, of the number that it stands for, and nothing else
abbrev pub RowBy : {A : Type 0} → (A → ℕ) → (ℕ → ℕ) → List ℕ → List A → Type 0
RowBy number read text [] = text ≡ []
RowBy number read text (x ∷ xs) = (word rest : List ℕ) × (text ≡ 32 ∷ (word ++ rest)) × Numeral read word (number x) × RowBy number read rest xs

-- of numbers
abbrev pub Row : (ℕ → ℕ) → List ℕ → List ℕ → Type 0
Row = RowBy (λ n. n)

-- the text that is written of a row whose items stand for numbers: each behind one space
abbrev pub row_text_by : {A : Type 0} → (A → ℕ) → List A → List ℕ
row_text_by number [] = []
row_text_by number (x ∷ xs) = 32 ∷ (decimal (number x) ++ row_text_by number xs)

-- of a row of numbers
abbrev pub row_text : List ℕ → List ℕ
row_text = row_text_by (λ n. n)

-- what reading a word, or a row, may answer: the numbers, or that there are none
abbrev pub IsNumeral : List ℕ → Option ℕ → Type 0
IsNumeral word r = MatchOption r ((n : ℕ) → Numeral capped word n → ⊥) (λ n. Numeral capped word n)

abbrev pub IsItem : {A : Type 0} → (A → ℕ) → List ℕ → Option A → Type 0
IsItem {A = A} number word r = MatchOption r ((x : A) → Numeral capped word (number x) → ⊥) (λ x. Numeral capped word (number x))

abbrev pub IsRowBy : {A : Type 0} → (A → ℕ) → List ℕ → Option (Vec A Global) → Type 0
IsRowBy {A = A} number text r = MatchOption r ((xs : List A) → RowBy number capped text xs → ⊥) (λ v. RowBy number capped text (vec_items v))

abbrev pub IsRow : List ℕ → Option (Vec ℕ Global) → Type 0
IsRow = IsRowBy (λ n. n)
