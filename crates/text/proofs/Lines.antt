-- Reading and writing are each other's inverse: a line says what is written of it, one thing at most, and in one way.
use Rattle.std.proofs.Common.{◌≡◌, ℕ, ◌^◌, ◌<◌, ◌⊎◌, Bool, List, [], ◌∷◌, ◌++◌, map, length, get_or, Some, None, decimal, Option, sym, refl, ap, ◌∙◌, subst, inl, inr, arith}
use Rattle.std.specs.Str.Parse.{AllDigits}
use Rattle.std.specs.List.{AllByRecursion}
use Rattle.std.proofs.lemmas.Fmt.{decimal_is_IsNumeral, decimal_digit, decimal-digits_value, first_decimal}
use Rattle.std.proofs.lemmas.List.{append_cancel_left}
use Rattle.std.proofs.lemmas.Str.Parse.{numerals_by_value, tells_digits}
use Rattle.std.proofs.lemmas.Bool.{cases_eq}
use Rattle.std.proofs.lemmas.Option.{none-some}
use Rattle.text.specs.Keyed.{key_text, Unkeyed, assembled, by_flags, flags_of, spoken, IsRun}
use Rattle.text.specs.Law.{IsRead, ReadsBack, Laws}
use Rattle.text.specs.Rows.{Numeral, Row, RowBy, row_text, capped, exact}
use Rattle.text.specs.Said.{Said, nothing, said, keyword, flag, numbers, written, Whole, Fitting, Order, Remark, Says, SaysExactly}
use Rattle.text.specs.declared.commands.Command.{Command}
use Rattle.text.specs.declared.keys.Key.{Key}
use Rattle.text.specs.declared.keys.Key.TheVariants.{RunBy}
use Rattle.text.proofs.Cuts.{same_row}
use Rattle.text.proofs.Table.{from_some, same_key, no_remark, flags_are, run_from, sound, complete, Keyable}

-- a number as it is written

lone_zero : (n : ℕ) → n < 2 ^ 32 → get_or (decimal n) 0 0 ≡ 48 → length (decimal n) ≡ 1
lone_zero n small e =
    elim (cases_eq n 0) [
      | inl z ↦ ap (λ m. length (decimal m)) z ∙ ap length (decimal_digit 0 (omega arith))
      | inr p ↦ absurd (omega (arith, first_decimal n (omega arith) (omega arith)))
    ]

numeral_back : (n : ℕ) → n < 2 ^ 32 → Numeral capped (decimal n) n
numeral_back n small =
    let h = decimal_is_IsNumeral n (omega arith) in
    let v = h.1 in
    record { some = h.0.0; digits = h.0.1; lone_zero = lone_zero n small; is = omega arith }

row_back : (ns : List ℕ) → AllByRecursion (λ n. n < 2 ^ 32) ns → Row capped (row_text ns) ns
row_back [] h = refl
row_back (n ∷ ns) h = (decimal n, row_text ns, refl, numeral_back n h.0, row_back ns h.1)

numeral_plain : (word : List ℕ) (n : ℕ) → n < 2 ^ 32 → Numeral exact word n → Numeral capped word n
numeral_plain word n small h = let e = h.is in record { some = h.some; digits = h.digits; lone_zero = h.lone_zero; is = omega arith }

row_plain : (text ns : List ℕ) → AllByRecursion (λ n. n < 2 ^ 32) ns → Row exact text ns → Row capped text ns
row_plain text [] small h = h
row_plain text (n ∷ ns) small h = (h.0, h.1, h.2, numeral_plain h.0 n small.0 h.3, row_plain h.1 ns small.1 h.4)

numeral_one_way : (word : List ℕ) (n : ℕ) → n < 2 ^ 32 → Numeral exact word n → word ≡ decimal n
numeral_one_way word n small h =
    let e = h.is in
    sym (ap decimal e ∙ decimal-digits_value (numerals_by_value (AllDigits 10) tells_digits) word h.digits h.some h.lone_zero (omega arith))

row_one_way : (text ns : List ℕ) → AllByRecursion (λ n. n < 2 ^ 32) ns → Row exact text ns → text ≡ row_text ns
row_one_way text [] small h = h
row_one_way text (n ∷ ns) small h =
    let w = numeral_one_way h.0 n small.0 h.3 in
    let t = row_one_way h.1 ns small.1 h.4 in
    h.2 ∙ cc

-- a line

pub back : (s : Said) → Fitting s → Says (written s) s
back s h = inr (record { whole = h.whole; tail = row_text (numbers s); is = refl; row = row_back (numbers s) h.fit })

-- what a line with a keyword says
pub record Keyed (key : Key) (tail : List ℕ) (s : Said) : Type 0 where
  pub row : Row capped tail (numbers s)
  pub assembles : assembled key (numbers s) ≡ Some s

module _ (line : List ℕ) (key : Key) (tail : List ℕ) (starts : line ≡ key_text key ++ tail) where
  keyed_order : (s : Said) → Order capped line s → Keyable s → Keyed key tail s
  keyed_order s o k =
      let begins : key_text k.key ++ o.tail ≡ key_text key ++ tail = sym (o.is ∙ ap (λ (t : List ℕ). t ++ o.tail) k.is) ∙ starts in
      let same : k.key ≡ key = same_key k.key key o.tail tail begins in
      let rest : o.tail ≡ tail = append_cancel_left (key_text key) o.tail tail (subst (λ (l : Key). key_text l ++ o.tail ≡ key_text key ++ tail) same begins) in
      record {
        row = subst (λ (t : List ℕ). Row capped t (numbers s)) rest o.row;
        assembles = subst (λ (l : Key). assembled l (numbers s) ≡ Some s) same k.assembles;
      }

  pub keyed_says : (s : Said) → Says line s → Keyed key tail s
  keyed_says s (inl p) = absurd (no_remark line key tail p.0 starts)
  keyed_says s (inr o) = keyed_order s o (complete s o.whole)

  pub says_keyed : (ns : List ℕ) (s : Said) → Row capped tail ns → assembled key ns ≡ Some s → Says line s
  says_keyed ns s row e =
      let m = sound key ns s e in
      inr (record {
        whole = m.whole;
        tail = tail;
        is = starts ∙ ap (λ (t : List ℕ). t ++ tail) (sym m.key_is);
        row = subst (Row capped tail) (sym m.numbers_are) row;
      })

  pub no_numbers : ((ns : List ℕ) → Row capped tail ns → ⊥) → (s : Said) → Says line s → ⊥
  no_numbers none s h = none (numbers s) (keyed_says s h).row

one_order : (line : List ℕ) (s t : Said) → Order capped line s → Says line t → s ≡ t
one_order line s t o h =
    let k = complete s o.whole in
    let starts : line ≡ key_text k.key ++ o.tail = o.is ∙ ap (λ (u : List ℕ). u ++ o.tail) k.is in
    let other = keyed_says line k.key o.tail starts t h in
    let ns = same_row capped o.tail (numbers s) (numbers t) o.row other.row in
    from_some s t (sym k.assembles ∙ ap (assembled k.key) ns ∙ other.assembles)

pub one_meaning : (line : List ℕ) (s t : Said) → Says line s → Says line t → s ≡ t
one_meaning line s t (inl p) (inl q) = p.1 ∙ sym q.1
one_meaning line s t (inl p) (inr o) = sym (one_order line t s o (inl p))
one_meaning line s t (inr o) h = one_order line s t o h

row_fits : (text ns : List ℕ) → Row capped text ns → AllByRecursion (λ n. n < 2 ^ 32) ns
row_fits text [] h = tt
row_fits text (n ∷ ns) h = let e = h.3.is in (omega arith, row_fits h.1 ns h.4)

fitting : (line : List ℕ) (s : Said) → Says line s → (s ≡ nothing) ⊎ Fitting s
fitting line s (inl p) = inl p.1
fitting line s (inr o) = inr (record { whole = o.whole; fit = row_fits o.tail (numbers s) o.row })

plain : (line : List ℕ) (s : Said) → Fitting s → SaysExactly line s → Says line s
plain line s h (inl p) = inl p
plain line s h (inr o) = inr (record { whole = o.whole; tail = o.tail; is = o.is; row = row_plain o.tail (numbers s) h.fit o.row })

one_way : (line : List ℕ) (s : Said) → Fitting s → SaysExactly line s → line ≡ written s
one_way line s h (inl p) = absurd (subst Whole p.1 h.whole)
one_way line s h (inr o) = o.is ∙ ap (λ (t : List ℕ). keyword s ++ t) (row_one_way o.tail (numbers s) h.fit o.row)

pub laws : Laws
laws = record { back = back; one_meaning = one_meaning; fitting = fitting; plain = plain; one_way = one_way }

-- what is read

pub reads_back : (line : List ℕ) (r : Option Command) → IsRead line r → ReadsBack line r
reads_back line None h s fits e = h s (subst (λ (l : List ℕ). Says l s) (sym e) (back s fits))
reads_back line (Some c) h s fits e = one_meaning line (said c) s h (subst (λ (l : List ℕ). Says l s) (sym e) (back s fits))

pub read_row : (line : List ℕ) (key : Key) (tail ns : List ℕ) (r : Option Command) → line ≡ key_text key ++ tail → Row capped tail ns → spoken r ≡ assembled key ns → IsRead line r
read_row line key tail ns None starts row e =
    λ s h. let k = keyed_says line key tail starts s h in
    none-some s (e ∙ ap (assembled key) (same_row capped tail ns (numbers s) row k.row) ∙ k.assembles)
read_row line key tail ns (Some c) starts row e = says_keyed line key tail starts ns (said c) row (sym e)

-- a row of flags is one of their numbers, and the other way round

flags_row : (text : List ℕ) (fs : List Bool) → RowBy flag capped text fs → Row capped text (map flag fs)
flags_row text [] h = h
flags_row text (f ∷ fs) h = (h.0, h.1, h.2, h.3, flags_row h.1 fs h.4)

row_flags : (text : List ℕ) (fs : List Bool) → Row capped text (map flag fs) → RowBy flag capped text fs
row_flags text [] h = h
row_flags text (f ∷ fs) h = (h.0, h.1, h.2, h.3, row_flags h.1 fs h.4)

pub read_run : (line tail : List ℕ) (r : Option Command) → line ≡ key_text RunBy ++ tail → IsRun tail r → IsRead line r
read_run line tail None starts none = λ s h.
    let k = keyed_says line RunBy tail starts s h in
    let run = run_from (numbers s) (flags_of (numbers s)) s refl k.assembles in
    none run.0 run.1 (row_flags tail (run.0 ∷ run.1) (subst (Row capped tail) (sym run.2) k.row))
read_run line tail (Some c) starts run =
    read_row line RunBy tail (map flag (run.0 ∷ run.1)) (Some c) starts (flags_row tail (run.0 ∷ run.1) run.3)
    (ap Some run.2 ∙ ap by_flags (sym (flags_are (run.0 ∷ run.1))))

pub no_key : (line : List ℕ) → (Remark line → ⊥) → ((key : Key) → Unkeyed line key) → (s : Said) → Says line s → ⊥
no_key line some none s (inl p) = some p.0
no_key line some none s (inr o) = let k = complete s o.whole in none k.key o.tail (o.is ∙ ap (λ (u : List ℕ). u ++ o.tail) k.is)
