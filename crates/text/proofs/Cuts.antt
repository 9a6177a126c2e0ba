-- A row is the words between its spaces, so there is one way to read it.
use Rattle.std.proofs.Common.{◌≡◌, ℕ, zero, suc, ◌<◌, Bool, false, List, [], ◌∷◌, ◌++◌, length, get_or, sym, refl, ap, ◌∙◌, subst, append-nil, arith}
use Rattle.std.specs.Str.Parse.{AllDigits}
use Rattle.std.specs.Char.{digit_value}
use Rattle.std.specs.List.{All, AllZip, AllByRecursion, slice_split, join_with_byte}
use lib.Dec.{eqb}
use Rattle.std.proofs.ByRecursion.{every_from_all}
use Rattle.std.proofs.lemmas.Bool.{ne_eqb}
use Rattle.std.proofs.lemmas.List.Splits.{slice_split_at, slice_split_none, length-slice_split, join_with_byte-slice_split}
use Rattle.text.specs.Rows.{Row, RowBy, Numeral}

abbrev pub is_space : ℕ → Bool
is_space c = eqb c 32

abbrev pub words : List ℕ → List (List ℕ)
words text = slice_split is_space text

no_space : (c : ℕ) → digit_value c < 10 → is_space c ≡ false
no_space c h = ne_eqb c 32 (λ e. let k : 36 < 10 = subst (λ x. digit_value x < 10) e h in omega arith)

spaceless_each : (word : List ℕ) → AllDigits 10 word → AllByRecursion (λ c. is_space c ≡ false) word
spaceless_each [] h = tt
spaceless_each (c ∷ cs) h = (no_space c h.0, spaceless_each cs h.1)

spaceless : (word : List ℕ) → AllDigits 10 word → All (λ c. is_space c ≡ false) word
spaceless word h = λ k d l. every_from_all _ word (spaceless_each word h) k d (omega arith) l

tail_is : (x y : ℕ) (s t : List ℕ) → x ∷ s ≡ y ∷ t → s ≡ t
tail_is x y s t e = cc

none_is_some : (x : ℕ) (s : List ℕ) → [] ≡ x ∷ s → ⊥
none_is_some x s e = let z = ap length e in omega arith

module _ {A : Type 0} (number : A → ℕ) (read : ℕ → ℕ) where
  abbrev pub Reads : List ℕ → A → Type 0
  Reads word x = Numeral read word (number x)

  -- the numbers of a row are those of its words
  pub words_are : (text : List ℕ) (ns : List A) → RowBy number read (32 ∷ text) ns → AllZip Reads (words text) ns
  words_are text [] h = absurd (none_is_some _ _ (sym h))
  words_are text (n ∷ []) h =
      let e : text ≡ h.0 = tail_is 32 32 _ _ h.2 ∙ ap (λ t. h.0 ++ t) h.4 ∙ append-nil h.0 in
      subst (λ ws. AllZip Reads ws (n ∷ [])) (sym (ap words e ∙ slice_split_none is_space h.0 (spaceless h.0 h.3.digits))) (h.3, tt)
  words_are text (n ∷ m ∷ ns) h =
      let more : List ℕ = h.4.0 ++ h.4.1 in
      let e : text ≡ h.0 ++ (32 ∷ more) = tail_is 32 32 _ _ h.2 ∙ ap (λ t. h.0 ++ t) h.4.2 in
      subst (λ ws. AllZip Reads ws (n ∷ m ∷ ns)) (sym (ap words e ∙ slice_split_at is_space h.0 32 more (spaceless h.0 h.3.digits) refl))
      (h.3, words_are more (m ∷ ns) (h.4.0, h.4.1, refl, h.4.3, h.4.4))

  row_of : (ws : List (List ℕ)) (ns : List A) → 0 < length ws → AllZip Reads ws ns → RowBy number read (32 ∷ join_with_byte 32 ws) ns
  row_of [] ns l h = absurd (omega arith)
  row_of (w ∷ ws) [] l h = absurd h
  row_of (w ∷ []) (n ∷ []) l h = (w, [], ap (λ (t : List ℕ). 32 ∷ t) (sym (append-nil w)), h.0, refl)
  row_of (w ∷ []) (n ∷ m ∷ ns) l h = absurd h.1
  row_of (w ∷ v ∷ ws) (n ∷ ns) l h = (w, 32 ∷ join_with_byte 32 (v ∷ ws), refl, h.0, row_of (v ∷ ws) ns (omega arith) h.1)

  pub row_is : (text : List ℕ) (ns : List A) → AllZip Reads (words text) ns → RowBy number read (32 ∷ text) ns
  row_is text ns h =
      subst (λ t. RowBy number read (32 ∷ t) ns) (join_with_byte-slice_split 32 text)
      (row_of (words text) ns (omega (arith, length-slice_split is_space text)) h)

  -- the words so far and the next one
  pub words_more : (ws : List (List ℕ)) (ns : List A) (w : List ℕ) (n : A) → AllZip Reads ws ns → Reads w n → AllZip Reads (ws ++ w ∷ []) (ns ++ n ∷ [])
  words_more [] [] w n h k = (k, tt)
  words_more [] (m ∷ ns) w n h k = absurd h
  words_more (v ∷ ws) [] w n h k = absurd h
  words_more (v ∷ ws) (m ∷ ns) w n h k = (h.0, words_more ws ns w n h.1 k)

  word_at : (ws : List (List ℕ)) (ns : List A) (i : ℕ) (d : List ℕ) → AllZip Reads ws ns → i < length ws → (n : A) × Reads (get_or ws i d) n
  word_at [] ns i d h l = absurd (omega arith)
  word_at (w ∷ ws) [] i d h l = absurd h
  word_at (w ∷ ws) (n ∷ ns) zero d h l = (n, h.0)
  word_at (w ∷ ws) (n ∷ ns) (suc i) d h l = word_at ws ns i d h.1 (omega arith)

  -- a text with a word that is no numeral is no row
  pub no_word : (text bs : List ℕ) (i : ℕ) (w : List ℕ) → text ≡ 32 ∷ bs → i < length (words bs) → w ≡ get_or (words bs) i w → ((n : A) → Reads w n → ⊥) → (ns : List A) → RowBy number read text ns → ⊥
  no_word text bs i w e l is none ns h =
      let k = word_at (words bs) ns i w (words_are bs ns (subst (λ t. RowBy number read t ns) e h)) l in
      none k.0 (subst (λ v. Reads v k.0) (sym is) k.1)

  -- nor is one that is not empty and begins otherwise
  pub no_row : (text : List ℕ) → (length text ≡ 0 → ⊥) → ((rest : List ℕ) → text ≡ 32 ∷ rest → ⊥) → (ns : List A) → RowBy number read text ns → ⊥
  no_row text some other [] h = some (ap length h)
  no_row text some other (n ∷ ns) h = other _ h.2

module _ (read : ℕ → ℕ) where
  same_numbers : (ws : List (List ℕ)) (ns ms : List ℕ) → AllZip (Numeral read) ws ns → AllZip (Numeral read) ws ms → ns ≡ ms
  same_numbers [] [] [] p q = refl
  same_numbers [] (n ∷ ns) ms p q = absurd p
  same_numbers [] [] (m ∷ ms) p q = absurd q
  same_numbers (w ∷ ws) [] ms p q = absurd p
  same_numbers (w ∷ ws) (n ∷ ns) [] p q = absurd q
  same_numbers (w ∷ ws) (n ∷ ns) (m ∷ ms) p q = let r = same_numbers ws ns ms p.1 q.1 in let e = p.0.is in let f = q.0.is in cc

  -- a text says one row at most
  pub same_row : (text ns ms : List ℕ) → Row read text ns → Row read text ms → ns ≡ ms
  same_row text [] [] p q = refl
  same_row text [] (m ∷ ms) p q = absurd (none_is_some _ _ (sym p ∙ q.2))
  same_row text (n ∷ ns) [] p q = absurd (none_is_some _ _ (sym q ∙ p.2))
  same_row text (n ∷ ns) (m ∷ ms) p q =
      let bs : List ℕ = p.0 ++ p.1 in
      same_numbers (words bs) (n ∷ ns) (m ∷ ms) (words_are (λ n. n) read bs (n ∷ ns) (p.0, p.1, refl, p.3, p.4)) (words_are (λ n. n) read bs (m ∷ ms) (subst (λ t. Row read t (m ∷ ms)) p.2 q))
