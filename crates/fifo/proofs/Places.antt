-- The places of a ring: which are written, and which stay.
use Rattle.std.proofs.Common.{◌≡◌, ℕ, zero, suc, ◌+◌, ◌-◌, ◌/◌, ◌%◌, ◌<◌, ◌≤◌, min, ◌≢◌, List, [], ◌∷◌, ◌++◌, length, get_or, take, drop, set, sym, refl, ap, ◌∙◌, ⊎_elim, subst, add-zero, mod-lt, mod-eq_of_lt, suc-mul, div-add-mod', arith}
use native.Mathlib.Nat.{mod-add-mod, mod_self}
use Rattle.std.proofs.lemmas.Nat.{mul-le}
use Rattle.std.proofs.lemmas.List.{length-set, length-take, length-drop, length-append, take_at, drop_at, get_or_append_left, get_or-append_right, get_or-set_same, get_or-set_other, take_more_set, take-append-drop, drop-set-lt, drop-drop, append_assoc}
use Rattle.std.proofs.lemmas.Bool.{cases_lt}
use borrow.Rule.Slice.PartMut.{put_mid}
use Rattle.fifo.specs.Ring.{filled, Holds, Continues, Loaded}

-- two dots less than a ring apart have places of their own
pub apart : (m a b : ℕ) → a < b → b < a + m → a % m ≡ b % m → ⊥
apart m a b before near same = ⊎_elim
    (λ (more : a / m < b / m). omega (arith, div-add-mod' a m, div-add-mod' b m, suc-mul (a / m) m, mul-le (suc (a / m)) m (b / m) m more (omega arith)))
    (λ (less : b / m ≤ a / m). omega (arith, div-add-mod' a m, div-add-mod' b m, mul-le (b / m) m (a / m) m less (omega arith)))
    (cases_lt (a / m) (b / m))

pub length_filled : (m c : ℕ) (b r : List ℕ) → length (filled m c b r) ≡ length r
unfolding filled
length_filled m c [] r = refl
length_filled m c (x ∷ b) r = length_filled m (c + 1) b (set r (c % m) x) ∙ length-set r (c % m) x

-- a place that none of the dots has stays
pub filled_other : (m c : ℕ) (b r : List ℕ) (k : ℕ) → ((i : ℕ) → i < length b → (c + i) % m ≡ k → ⊥) → get_or (filled m c b r) k 0 ≡ get_or r k 0
unfolding filled
filled_other m c [] r k h = refl
filled_other m c (x ∷ b) r k h =
    let here : k ≢ c % m = λ e. h 0 (omega arith) (ap (λ n. n % m) (add-zero c) ∙ sym e) in
    filled_other m (c + 1) b (set r (c % m) x) k (λ i l e. h (suc i) (omega arith) (ap (λ n. n % m) (omega arith) ∙ e))
    ∙ get_or-set_other r (c % m) k x 0 here

-- and each of the dots has its own
pub filled_here : (m c : ℕ) (b r : List ℕ) (i : ℕ) → length r ≡ m → length b ≤ m → i < length b → get_or (filled m c b r) ((c + i) % m) 0 ≡ get_or b i 0
unfolding filled
filled_here m c [] r i full few h = absurd (omega arith)
filled_here m c (x ∷ b) r zero full few h =
    let place : (c + 0) % m ≡ c % m = ap (λ n. n % m) (add-zero c) in
    let within : c % m < length r = omega (arith, mod-lt c {m = m} (omega arith)) in
    rw place (filled_other m (c + 1) b (set r (c % m) x) (c % m) (λ i l e. apart m c (c + 1 + i) (omega arith) (omega arith) (sym e)) ∙ get_or-set_same r (c % m) x 0 within)
filled_here m c (x ∷ b) r (suc i) full few h =
    let place : (c + suc i) % m ≡ (c + 1 + i) % m = ap (λ n. n % m) (omega arith) in
    rw place (filled_here m (c + 1) b (set r (c % m) x) i (length-set r (c % m) x ∙ full) (omega arith) (omega arith))

-- dots are brought in parts as well as at once
pub filled_append : (m c : ℕ) (a b r : List ℕ) → filled m c (a ++ b) r ≡ filled m (c + length a) b (filled m c a r)
unfolding filled
filled_append m c [] b r = ap (λ n. filled m n b r) (sym (add-zero c))
filled_append m c (x ∷ a) b r =
    let next : c + 1 + length a ≡ c + suc (length a) = omega arith in
    filled_append m (c + 1) a b (set r (c % m) x) ∙ ap (λ n. filled m n b (filled m (c + 1) a (set r (c % m) x))) next

-- the place after one that is not the last
next_place : (m c a : ℕ) → c % m ≡ a → a + 1 < m → (c + 1) % m ≡ a + 1
next_place m c a e h = sym (mod-add-mod c m 1) ∙ ap (λ n. (n + 1) % m) e ∙ mod-eq_of_lt h

-- one dot and the part behind it are one part
one_more : (a : ℕ) (b r : List ℕ) (x : ℕ) → a < length r → put_mid (a + 1) (length b) (set r a x) b ≡ put_mid a (suc (length b)) r (x ∷ b)
one_more a b r x h =
    let front : take (a + 1) (set r a x) ≡ take a r ++ (x ∷ []) = take_more_set r a x h in
    let back : drop (a + 1) (set r a x) ≡ drop (a + 1) r = drop-set-lt (a + 1) r a x (omega arith) in
    let sums : a + 1 + length b ≡ a + suc (length b) = omega arith in
    let rest : drop (length b) (drop (a + 1) r) ≡ drop (suc (length b)) (drop a r) = drop-drop (length b) (a + 1) r ∙ ap (λ n. drop n r) sums ∙ sym (drop-drop (suc (length b)) a r) in
    rw (front, back, rest) (append_assoc (take a r) (x ∷ []) _)

-- a part that does not wrap is written in one piece
pub filled_straight : (m c a : ℕ) (b r : List ℕ) → length r ≡ m → (0 < length b → c % m ≡ a) → a + length b ≤ m → filled m c b r ≡ put_mid a (length b) r b
unfolding filled
filled_straight m c a [] r full place fits = sym (take-append-drop a r)
filled_straight m c a (x ∷ b) r full place fits =
    let here : c % m ≡ a = place (omega arith) in
    let rest = filled_straight m (c + 1) (a + 1) b (set r a x) (length-set r a x ∙ full) (λ some. next_place m c a here (omega arith)) (omega arith) in
    ap (λ n. filled m (c + 1) b (set r n x)) here ∙ rest ∙ one_more a b r x (omega arith)

-- a part that wraps is written in two pieces, up to the ring's end and from its start
pub filled_wrapped : (m c a n : ℕ) (b r p q : List ℕ) → length r ≡ m → a ≡ c % m → a < m → length b ≤ m → n ≡ min (length b) (m - a) → p ≡ take n b → q ≡ drop n b →
    put_mid 0 (length b - n - 0) (put_mid a (a + n - a) r p) q ≡ filled m c b r
filled_wrapped m c a n b r p q full place inside few split ep eq =
    let np : length (take n b) ≡ n = length-take n b ∙ omega arith in
    let nq : length (drop n b) ≡ length b - n = length-drop n b in
    let first : filled m c (take n b) r ≡ put_mid a (length (take n b)) r (take n b) = filled_straight m c a (take n b) r full (λ some. sym place) (omega arith) in
    let start : 0 < length (drop n b) → (c + length (take n b)) % m ≡ 0 = λ some.
    let whole : a + n ≡ m = omega arith in
    ap (λ k. (c + k) % m) np ∙ sym (mod-add-mod c m n) ∙ ap (λ k. (k + n) % m) (sym place) ∙ ap (λ k. k % m) whole ∙ mod_self m in
    let rest : filled m (c + length (take n b)) (drop n b) (filled m c (take n b) r) ≡ put_mid 0 (length (drop n b)) (filled m c (take n b) r) (drop n b) =
    filled_straight m (c + length (take n b)) 0 (drop n b) (filled m c (take n b) r) (length_filled m c (take n b) r ∙ full) start (omega arith) in
    let both : filled m c b r ≡ filled m (c + length (take n b)) (drop n b) (filled m c (take n b) r) =
    ap (λ l. filled m c l r) (sym (take-append-drop n b)) ∙ filled_append m c (take n b) (drop n b) r in
    let lp : a + n - a ≡ length (take n b) = omega arith in
    let lq : length b - n - 0 ≡ length (drop n b) = omega arith in
    rw (ep, eq, lp, lq) (sym (both ∙ rest ∙ ap (λ l. put_mid 0 (length (drop n b)) l (drop n b)) first))

-- two parts that the memory has written are the dots of its picture at their places
pub loaded : (c a n count : ℕ) (r p q : List ℕ) (picture : ℕ → ℕ) → a ≡ c % length r → a < length r → count ≤ length r → n ≡ min count (length r - a) → length p ≡ n → length q ≡ count - n →
    ((i : ℕ) → i < length p → get_or p i 0 ≡ picture (c + i)) → ((i : ℕ) → i < length q → get_or q i 0 ≡ picture (c + n + i)) →
    Loaded picture c count r (put_mid 0 (count - n - 0) (put_mid a (a + n - a) r p) q)
loaded c a n count r p q picture place inside few split np nq first rest =
    let m = length r in
    let b = p ++ q in
    let nb : length b ≡ count = length-append p q ∙ omega arith in
    let written : put_mid 0 (length b - n - 0) (put_mid a (a + n - a) r p) q ≡ filled m c b r =
    filled_wrapped m c a n b r p q refl place inside (omega arith) (omega arith) (sym (take_at p q n np)) (sym (drop_at p q n np)) in
    let same : put_mid 0 (count - n - 0) (put_mid a (a + n - a) r p) q ≡ filled m c b r = ap (λ k. put_mid 0 (k - n - 0) (put_mid a (a + n - a) r p) q) (sym nb) ∙ written in
    let each : (i : ℕ) → i < count → get_or b i 0 ≡ picture (c + i) = λ i h. ⊎_elim
    (λ (l : i < length p). get_or_append_left p q 0 i l ∙ first i l)
    (λ (l : length p ≤ i). let e : c + n + (i - length p) ≡ c + i = omega arith in get_or-append_right p q (length p) i 0 refl l ∙ rest (i - length p) (omega arith) ∙ ap picture e)
    (cases_lt i (length p)) in
    record {
      size = ap length same ∙ length_filled m c b r;
      here = λ i h. ap (λ l. get_or l ((c + i) % m) 0) same ∙ filled_here m c b r i refl (omega arith) (omega arith) ∙ each i h;
      other = λ k h. ap (λ l. get_or l k 0) same ∙ filled_other m c b r k (λ i l. h i (omega arith));
    }

-- what is brought and continues a picture is loaded from it
pub loaded_filled : (c : ℕ) (b r : List ℕ) (picture : ℕ → ℕ) → length b ≤ length r → Continues b c picture → Loaded picture c (length b) r (filled (length r) c b r)
loaded_filled c b r picture few more = record {
  size = length_filled (length r) c b r;
  here = λ i h. filled_here (length r) c b r i refl few h ∙ more i h;
  other = filled_other (length r) c b r;
}

-- a loaded ring goes on holding the picture
pub holds_loaded : (from c n : ℕ) (r r₁ : List ℕ) (picture : ℕ → ℕ) → c + n ≤ from + length r → Loaded picture c n r r₁ → Holds (length r) from c r picture → Holds (length r) from (c + n) r₁ picture
holds_loaded from c n r r₁ picture room l holds k low high = ⊎_elim
    (λ (old : k < c). l.other (k % length r) (λ i h e. apart (length r) k (c + i) (omega arith) (omega arith) (sym e)) ∙ holds k low old)
    (λ (new : c ≤ k).
    let place : c + (k - c) ≡ k = omega arith in
    ap (λ n. get_or r₁ (n % length r) 0) (sym place) ∙ l.here (k - c) (omega arith) ∙ ap picture place)
    (cases_lt k c)

-- so a ring that is filled with what continues a picture goes on holding it
pub holds_filled : (m from c : ℕ) (b r : List ℕ) (picture : ℕ → ℕ) → length r ≡ m → c + length b ≤ from + m → length b ≤ m → Holds m from c r picture → Continues b c picture → Holds m from (c + length b) (filled m c b r) picture
holds_filled m from c b r picture full room few holds more =
    subst (λ n. c + length b ≤ from + n → length b ≤ n → Holds n from c r picture → Holds n from (c + length b) (filled n c b r) picture) full
    (λ inside short before. holds_loaded from c (length b) r _ picture inside (loaded_filled c b r picture short more) before) room few holds
