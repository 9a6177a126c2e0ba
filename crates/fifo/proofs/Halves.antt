-- The part up to the ring's end and the one from its start are together all dots that are next taken.
use Rattle.std.proofs.Common.{◌≡◌, ℕ, ◌+◌, ◌-◌, ◌%◌, ◌<◌, ◌≤◌, min, List, ◌++◌, length, get_or, drop, sym, refl, ap, ◌∙◌, subst, ap₂, ⊎_elim, mod-lt, mod-eq_of_lt, arith}
use native.Mathlib.Nat.{mod_self, mod-add-mod}
use Rattle.std.proofs.lemmas.List.{length-take, length-drop, length-append, get_or-take, get_or-drop, get_or_append_left, get_or-append_right}
use Rattle.std.proofs.lemmas.Bool.{cases_lt}
use Rattle.timing.specs.Frame.{taken}
use Rattle.timing.specs.Row.{numbers_in}
use Rattle.timing.specs.declared.numbers.Numbers.{Numbers}
use Rattle.timing.proofs.Goods.{good_says}
use Rattle.feeder.specs.Lent.{tick_at, progress_at}
use Rattle.feeder.specs.Panel.{demand_of}
use Rattle.feeder.specs.Step.{plan_in, tick_in}
use Rattle.feeder.specs.declared.counts.Counts.{Counts}
use Rattle.feeder.specs.declared.states.Progress.{Progress}
use Rattle.feeder.proofs.Plans.{accepted_kept}
use Rattle.fifo.specs.Entry.{next_part, TwoParts, Opened}

-- a place that does not wrap
place_on : (m k i : ℕ) → k % m + i < m → (k + i) % m ≡ k % m + i
place_on m k i h = sym (mod-add-mod k m i) ∙ mod-eq_of_lt h

part_length : (m k c : ℕ) (r : List ℕ) → length r ≡ m → length (next_part m k c r) ≡ min (c - k) (m - k % m)
unfolding next_part
part_length m k c r full = length-take (min (c - k) (m - k % m)) (drop (k % m) r) ∙ omega (arith, length-drop (k % m) r)

part_each : (m k c : ℕ) (r : List ℕ) (i : ℕ) → length r ≡ m → i < length (next_part m k c r) → get_or (next_part m k c r) i 0 ≡ get_or r ((k + i) % m) 0
unfolding next_part
part_each m k c r i full h =
    let n = part_length m k c r full in
    let within : i < min (c - k) (m - k % m) = omega arith in
    get_or-take (min (c - k) (m - k % m)) (drop (k % m) r) i 0 within ∙ get_or-drop (k % m) r i 0 ∙ ap (λ j. get_or r j 0) (sym (place_on m k i (omega arith)))

-- together they are as many as there are dots
both_count : (m k c : ℕ) (r : List ℕ) → 0 < m → length r ≡ m → c ≤ k + m → length (next_part m k c r) + length (next_part m (k + length (next_part m k c r)) c r) ≡ c - k
both_count m k c r some full near =
    let n = part_length m k c r full in
    let below : k % m < m = mod-lt k some in
    let second = part_length m (k + length (next_part m k c r)) c r full in
    ⊎_elim
    (λ (short : m - k % m < c - k).
    let whole : k % m + length (next_part m k c r) ≡ m = omega arith in
    let start : (k + length (next_part m k c r)) % m ≡ 0 = sym (mod-add-mod k m (length (next_part m k c r))) ∙ ap (λ j. j % m) whole ∙ mod_self m in
    omega arith)
    (λ (all : c - k ≤ m - k % m). omega arith)
    (cases_lt (m - k % m) (c - k))

two_parts : (m k c : ℕ) (r : List ℕ) → 0 < m → length r ≡ m → c ≤ k + m → TwoParts m k c r
two_parts m k c r some full near =
    let one = next_part m k c r in
    let two = next_part m (k + length one) c r in
    record {
      both = one ++ two;
      parts = refl;
      count = length-append one two ∙ both_count m k c r some full near;
      each = λ dots holds i h. ⊎_elim
          (λ (first : i < length one). get_or_append_left one two 0 i first ∙ part_each m k c r i full first ∙ holds (k + i) (omega arith) (omega arith))
          (λ (later : length one ≤ i).
          let within : i - length one < length two = omega (arith, both_count m k c r some full near) in
          let same : k + length one + (i - length one) ≡ k + i = omega arith in
          get_or-append_right one two (length one) i 0 refl later ∙ part_each m (k + length one) c r (i - length one) full within ∙ ap (λ j. get_or r (j % m) 0) same ∙ holds (k + i) (omega arith) (omega arith))
          (cases_lt i (length one));
    }

pub two_parts_in : (xs s r : List ℕ) (c : Counts) → Opened xs s (length r) c → TwoParts (length r) (taken (numbers_in xs) (tick_at s)) (progress_at s).arrived r
unfolding demand_of
two_parts_in xs s r c o =
    let k = accepted_kept (plan_in c) (tick_in c) c.progress c.ok in
    let g = good_says (plan_in c) c.scan.plan.ok in
    let size : length r ≡ (plan_in c).capacity = o.size ∙ ap (λ (p : Numbers). p.capacity) (sym o.plan_is) in
    let there : TwoParts (length r) (taken (plan_in c) (tick_in c)) c.progress.arrived r = two_parts (length r) _ _ r (omega (arith, g.burst_least, g.burst_most)) refl (omega (arith, k.room, k.order)) in
    let count : taken (plan_in c) (tick_in c) ≡ taken (numbers_in xs) (tick_at s) = ap₂ taken o.plan_is o.tick_is in
    subst (λ n. TwoParts (length r) n (progress_at s).arrived r) count (subst (λ (f : Progress). TwoParts (length r) (taken (plan_in c) (tick_in c)) f.arrived r) o.progress_is there)
