-- Digits are read from the left, and a number too large stays the largest.
use Rattle.std.proofs.Common.{◌≡◌, ℕ, ◌+◌, ◌-◌, ◌*◌, ◌^◌, ◌<◌, min, List, length, get_or, take, sym, ap, ◌∙◌, subst, arith}
use Rattle.std.specs.Str.Parse.{AllDigits, digits_value}
use Rattle.std.specs.Char.{digit_value}
use Rattle.std.proofs.ByRecursion.{every_from_all}
use Rattle.std.proofs.lemmas.Int.Digits.{digits_more, digits_value_more}
use Rattle.text.specs.Rows.{Numeral, capped}

-- capping at each digit caps the whole
capped_more : (v d : ℕ) → min (min (capped v * 10) (2 ^ 32 - 1) + d) (2 ^ 32 - 1) ≡ capped (v * 10 + d)
capped_more v d = grind arith

-- n is what the digits of the word are read as
pub record Read (word : List ℕ) (n : ℕ) : Type 0 where
  pub digits : AllDigits 10 word
  pub is : n ≡ capped (digits_value 10 word)

module _ (word : List ℕ) (i c : ℕ) (l : i < length word) (here : c ≡ get_or word i 0) where
  pub no_digit : (digit_value c < 10 → ⊥) → (n : ℕ) → Numeral capped word n → ⊥
  no_digit none n h = none (subst (λ b. digit_value b < 10) (sym here) (every_from_all _ word h.digits i 0 (omega arith) l))

  pub read_more : (n d r : ℕ) → digit_value c < 10 → d ≡ digit_value c → Read (take i word) n → r ≡ min (min (n * 10) (2 ^ 32 - 1) + d) (2 ^ 32 - 1) → Read (take (i + 1) word) r
  read_more n d r small is h e = record {
    digits = digits_more 10 word i l h.digits (subst (λ b. digit_value b < 10) here small);
    is = e ∙ ap (λ m. min (min (m * 10) (2 ^ 32 - 1) + d) (2 ^ 32 - 1)) h.is ∙ capped_more (digits_value 10 (take i word)) d
        ∙ ap (λ m. capped (digits_value 10 (take i word) * 10 + m)) (is ∙ ap digit_value here) ∙ ap capped (sym (digits_value_more 10 word i l));
  }
