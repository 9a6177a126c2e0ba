-- The latest memory: what has arrived was requested a whole latency before.
use Rattle.std.proofs.Common.{◌≡◌, ℕ, zero, suc, ◌+◌, ◌-◌, ◌*◌, ◌<◌, ◌≤◌, min, Bool, true, false, ◌⊎◌, refl, ap, ◌∙◌, subst, inl, inr, ⊎_elim, add-zero, add-suc, suc-mul, zero-mul, arith}
use Rattle.std.proofs.lemmas.Bool.{cond_both, both_ways, or_left, or_right}
use Rattle.std.proofs.lemmas.Bool.Decides.{nat_tests}
use Rattle.feeder.specs.Law.{Sound}
use Rattle.feeder.specs.Model.{Demand, begun, answers, answered, waiting, after_answer, uses, misses, after_take, next_request, asks, asked, after_ask, after_tick, after, latest}
use Rattle.feeder.specs.declared.states.Progress.{Progress}
use Rattle.feeder.proofs.Laws.{Kept, kept, tick_arrived, tick_underrun}

-- a tick requests nothing, or one more burst or what is left
requested_tick : (d : Demand) (w : Bool) (t : ℕ) (f : Progress) → ((after_tick d w t f).requested ≡ f.requested) ⊎ ((f.requested < d.total) × ((after_tick d w t f).requested ≡ min (f.requested + d.burst) d.total))
unfolding after_tick after_ask asks asked next_request after_take after_answer answered waiting
requested_tick d w t f =
    let same : (after_answer d w f).requested ≡ f.requested = cond_both (answers d w f) _ _ (λ (x : Progress). x.requested ≡ f.requested) (λ yes. refl) (λ not_yet. refl) in
    cond_both (asks d t (after_take d t (after_answer d w f))) _ _ (λ (x : Progress). (x.requested ≡ f.requested) ⊎ ((f.requested < d.total) × (x.requested ≡ min (f.requested + d.burst) d.total)))
    (λ yes. inr (grind (arith, nat_tests), ap (λ n. min (n + d.burst) d.total) same))
    (λ no_request. inl same)

-- the dots that are requested and that have arrived before tick t
abbrev pub sent : Demand → ℕ → ℕ
sent d t = (after d latest t).requested

abbrev pub come : Demand → ℕ → ℕ
come d t = (after d latest t).arrived

sent_more : (d : Demand) (t : ℕ) → sent d t ≤ sent d (suc t)
unfolding after
sent_more d t = ⊎_elim (λ same. omega arith) (λ more. omega (arith, more.0, more.1)) (requested_tick d false t (after d latest t))

sent_rises_by : (d : Demand) (t n : ℕ) → sent d t ≤ sent d (t + n)
sent_rises_by d t zero = rw add-zero (omega arith)
sent_rises_by d t (suc n) = rw add-suc (omega (arith, sent_rises_by d t n, sent_more d (t + n)))

pub sent_rises : (d : Demand) (s t : ℕ) → s ≤ t → sent d s ≤ sent d t
sent_rises d s t h =
    let e : s + (t - s) ≡ t = omega arith in
    subst (λ n. sent d s ≤ sent d n) e (sent_rises_by d s (t - s))

-- what is requested is whole bursts, or all
pub whole_bursts : (d : Demand) (t : ℕ) → (n : ℕ) × (sent d t ≡ min (n * d.burst) d.total)
unfolding after begun
whole_bursts d zero = (0, rw zero-mul (omega arith))
whole_bursts d (suc t) =
    let before = whole_bursts d t in
    ⊎_elim
    (λ same. (before.0, same ∙ before.1))
    (λ more. (suc before.0, rw suc-mul (omega (arith, more.1, before.1))))
    (requested_tick d false t (after d latest t))

-- before tick t: what is pending was requested as long ago as it was waited for, and what has arrived a whole latency ago
record Late (d : Demand) (t : ℕ) (f : Progress) : Type 0 where
  awaited : f.pending ≡ true → f.requested ≤ sent d (t - f.waited)
  arrived : f.arrived ≤ sent d (t - d.latency)

late_answer : (d : Demand) (t : ℕ) (f : Progress) → Kept d t f → Late d t f → Late d (suc t) (after_answer d false f)
unfolding after_answer answers answered waiting
late_answer d t f k l = cond_both (answers d false f) (answered f) (waiting f) (Late d (suc t))
    (λ yes.
    let on : f.pending ≡ true = grind (arith, nat_tests) in
    let due : d.latency ≤ f.waited + 1 = grind (arith, nat_tests) in
    let same : t - f.waited ≡ suc t - d.latency = omega (arith, k.time) in
    record { awaited = λ e. absurd (both_ways _ refl e); arrived = subst (λ n. f.requested ≤ sent d n) same (l.awaited on) })
    (λ not_yet. record {
      awaited = λ on.
          let same : t - f.waited ≡ suc t - (f.waited + 1) = omega arith in
          rw on (subst (λ n. f.requested ≤ sent d n) same (l.awaited on));
      arrived = omega (arith, l.arrived, sent_rises d (t - d.latency) (suc t - d.latency) (omega arith));
    })

late_ask : (d : Demand) (t : ℕ) (f : Progress) → Late d (suc t) f → (after_ask d t (after_take d t f)).requested ≤ sent d (suc t) → Late d (suc t) (after_ask d t (after_take d t f))
unfolding after_ask asked after_take
late_ask d t f l here = cond_both (asks d t (after_take d t f)) (asked d (after_take d t f)) (after_take d t f) (λ x. x.requested ≤ sent d (suc t) → Late d (suc t) x)
    (λ yes h.
    let same : suc t ≡ suc t - 0 = omega arith in
    record { awaited = λ e. subst (λ n. next_request d (after_take d t f) ≤ sent d n) same h; arrived = l.arrived })
    (λ no_request h. record { awaited = l.awaited; arrived = l.arrived }) here

late : (d : Demand) → Sound d → (t : ℕ) → Late d t (after d latest t)
unfolding after begun after_tick
late d sound zero = record { awaited = λ e. absurd (both_ways _ refl e); arrived = omega arith }
late d sound (suc t) = late_ask d t _ (late_answer d t (after d latest t) (kept d latest t sound) (late d sound t)) (omega arith)

pub come_late : (d : Demand) → Sound d → (t : ℕ) → come d t ≤ sent d (t - d.latency)
come_late d sound t = (late d sound t).arrived

-- so in as many ticks as an answer may take no more than one burst arrives
come_slowly : (d : Demand) → Sound d → (t : ℕ) → come d (t + d.latency) ≤ come d t + d.burst
come_slowly d sound t =
    let same : t + d.latency - d.latency ≡ t = omega arith in
    let before : come d (t + d.latency) ≤ sent d t = subst (λ n. come d (t + d.latency) ≤ sent d n) same (come_late d sound (t + d.latency)) in
    omega (arith, (kept d latest t sound).burst)

pub come_by : (d : Demand) → Sound d → (t k : ℕ) → come d (t + k * d.latency) ≤ come d t + k * d.burst
come_by d sound t zero = simp (zero-mul, add-zero) (omega arith)
come_by d sound t (suc k) =
    let same : t + suc k * d.latency ≡ t + k * d.latency + d.latency = rw suc-mul (omega arith) in
    rw same (omega (arith, come_by d sound t k, come_slowly d sound (t + k * d.latency), suc-mul k d.burst))

-- a dot that is used and has not arrived is missing, and that stays known
pub dry_here : (d : Demand) (t : ℕ) → d.need t < d.need (suc t) → come d (suc t) ≤ d.need t → (after d latest (suc t)).underrun ≡ true
unfolding after misses uses
dry_here d t used few =
    let f = after d latest t in
    let fewer : (after_answer d false f).arrived ≤ d.need t = omega (arith, few, tick_arrived d false t f) in
    let hit : misses d t (after_answer d false f) ≡ true = grind (arith, nat_tests) in
    tick_underrun d false t f ∙ or_right _ _ hit

dry_by : (d : Demand) (w : ℕ → Bool) (t n : ℕ) → (after d w t).underrun ≡ true → (after d w (t + n)).underrun ≡ true
unfolding after
dry_by d w t zero h = rw add-zero h
dry_by d w t (suc n) h = rw add-suc (tick_underrun d (w (t + n)) (t + n) (after d w (t + n)) ∙ or_left _ _ (dry_by d w t n h))

pub stays_dry : (d : Demand) (w : ℕ → Bool) (s t : ℕ) → s ≤ t → (after d w s).underrun ≡ true → (after d w t).underrun ≡ true
stays_dry d w s t h dry =
    let e : s + (t - s) ≡ t = omega arith in
    subst (λ n. (after d w n).underrun ≡ true) e (dry_by d w s (t - s) dry)
