-- What is written of a row, item by item, is its text.
use Rattle.std.proofs.Common.{◌≡◌, ℕ, ◌+◌, ◌<◌, List, [], ◌∷◌, ◌++◌, map, length, get_or, take, decimal, sym, refl, ap, ◌∙◌}
use Rattle.std.specs.List.{flat_map}
use Rattle.std.proofs.lemmas.List.{flat_map_more, take_more}
use Rattle.text.specs.Rows.{row_text, row_text_by}

module _ {A : Type 0} (number : A → ℕ) where
  pub row_text_map : (xs : List A) → row_text_by number xs ≡ row_text (map number xs)
  row_text_map [] = refl
  row_text_map (x ∷ xs) = ap (λ (t : List ℕ). 32 ∷ (decimal (number x) ++ t)) (row_text_map xs)

  pieces : (xs : List A) → row_text_by number xs ≡ flat_map (λ x. 32 ∷ decimal (number x)) xs
  pieces [] = refl
  pieces (x ∷ xs) = ap (λ (t : List ℕ). 32 ∷ (decimal (number x) ++ t)) (pieces xs)

  -- the items so far and the next one
  pub row_text_more : (xs : List A) (i n : ℕ) (x : A) → i < length xs → x ≡ get_or xs i x → n ≡ number x → row_text_by number (take i xs) ++ (32 ∷ decimal n) ≡ row_text_by number (take (i + 1) xs)
  row_text_more xs i n x l is e =
      ap (λ (m : ℕ). row_text_by number (take i xs) ++ (32 ∷ decimal m)) (e ∙ ap number is)
      ∙ ap (λ (t : List ℕ). t ++ (32 ∷ decimal (number (get_or xs i x)))) (pieces (take i xs))
      ∙ flat_map_more (λ y. 32 ∷ decimal (number y)) [] (take i xs) (get_or xs i x)
      ∙ sym (pieces (take i xs ++ get_or xs i x ∷ [])) ∙ ap (row_text_by number) (sym (take_more xs i x l))
