-- Every way of answering in the first ticks has its number.
use Rattle.std.proofs.Common.{◌≡◌, ℕ, zero, suc, ◌+◌, ◌*◌, ◌/◌, ◌%◌, ◌^◌, ◌<◌, Bool, true, false, cond, eqb, sym, ap, ◌∙◌, div-one, arith}
use native.Mathlib.Nat.{pow-succ', div-div-eq-div-mul}
use Rattle.std.proofs.lemmas.Nat.{div-mul-add, mod-mul-add}
use Rattle.sweep.specs.Trial.{flag_in, Covers}

-- one more tick before those of a number
before : Bool → ℕ → ℕ
before b n = n * 2 + cond b 1 0

before_half : (b : Bool) (n : ℕ) → before b n / 2 ≡ n
unfolding before
before_half true n = div-mul-add n 2 1 (omega arith)
before_half false n = div-mul-add n 2 0 (omega arith)

before_first : (b : Bool) (n : ℕ) → flag_in (before b n) 0 ≡ b
unfolding before
before_first true n = simp (div-one, mod-mul-add n 2 1 (omega arith))
before_first false n = simp (div-one, mod-mul-add n 2 0 (omega arith))

before_rest : (b : Bool) (n t : ℕ) → flag_in (before b n) (suc t) ≡ flag_in n t
before_rest b n t =
    let halves : before b n / 2 ^ suc t ≡ n / 2 ^ t = ap (λ k. before b n / k) (pow-succ' 2 t) ∙ sym (div-div-eq-div-mul (before b n) 2 (2 ^ t)) ∙ ap (λ k. k / 2 ^ t) (before_half b n) in
    ap (λ k. eqb (k % 2) 1) halves

before_less : (b : Bool) (r n : ℕ) → r < 2 ^ n → before b r < 2 ^ suc n
unfolding before
before_less true r n h = omega (arith, pow-succ' 2 n)
before_less false r n h = omega (arith, pow-succ' 2 n)

before_all : (w : ℕ → Bool) (n r : ℕ) → ((t : ℕ) → t < n → flag_in r t ≡ w (suc t)) → (t : ℕ) → t < suc n → flag_in (before (w 0) r) t ≡ w t
before_all w n r rest zero h = before_first (w 0) r
before_all w n r rest (suc t) h = before_rest (w 0) r t ∙ rest t (omega arith)

pub covers : (n : ℕ) → Covers n
covers zero w = (0, omega arith, λ t h. absurd (omega arith))
covers (suc n) w =
    let rest = covers n (λ t. w (suc t)) in
    (before (w 0) rest.0, before_less (w 0) rest.0 n rest.1, before_all w n rest.0 rest.2)
