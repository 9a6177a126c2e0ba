-- The latest memory is the worst: burst by burst it requests and brings no sooner than any other.
use Rattle.std.proofs.Common.{◌≡◌, ℕ, zero, suc, ◌+◌, ◌*◌, ◌<◌, ◌≤◌, min, Bool, true, false, sym, refl, ap, ◌∙◌, subst, ⊎_elim, suc-mul, zero-mul, arith}
use Rattle.std.proofs.lemmas.Nat.{mul-le}
use Rattle.std.proofs.lemmas.Bool.{cond_both, cases_Bool, cases_lt, both_ways}
use Rattle.std.proofs.lemmas.Bool.Decides.{nat_tests}
use Rattle.feeder.specs.Model.{Demand, begun, answers, answered, waiting, after_answer, misses, after_take, next_request, asks, asked, after_ask, after_tick, after, latest}
use Rattle.feeder.specs.declared.states.Progress.{Progress}

-- the dots of the first k bursts
level : Demand → ℕ → ℕ
level d k = min (k * d.burst) d.total

level_more : (d : Demand) (k : ℕ) → min (level d k + d.burst) d.total ≡ level d (suc k)
unfolding level
level_more d k = rw suc-mul (omega arith)

level_rises : (d : Demand) (j k : ℕ) → j ≤ k → level d j ≤ level d k
unfolding level
level_rises d j k h = omega (arith, mul-le j d.burst k d.burst h (omega arith))

-- k bursts have arrived and n were requested
record Bursts (d : Demand) (f : Progress) (k n : ℕ) : Type 0 where
  arrived : f.arrived ≡ level d k
  requested : f.requested ≡ level d n
  on : f.pending ≡ true → n ≡ suc k
  off : f.pending ≡ false → n ≡ k

-- a lags behind b: no more bursts were requested, no more have arrived, and of the same burst it has waited no longer
record Lag (d : Demand) (a b : Progress) : Type 0 where
  ka : ℕ
  na : ℕ
  kb : ℕ
  nb : ℕ
  mine : Bursts d a ka na
  other : Bursts d b kb nb
  requests : na ≤ nb
  arrivals : ka ≤ kb
  waits : na ≡ nb → a.pending ≡ true → b.pending ≡ true → a.waited ≤ b.waited

bursts_answered : (d : Demand) (f : Progress) (k n : ℕ) → Bursts d f k n → Bursts d (answered f) n n
unfolding answered
bursts_answered d f k n m = record { arrived = m.requested; requested = m.requested; on = λ e. absurd (both_ways _ refl e); off = λ e. refl }

bursts_waiting : (d : Demand) (f : Progress) (k n : ℕ) → Bursts d f k n → Bursts d (waiting f) k n
unfolding waiting
bursts_waiting d f k n m = record { arrived = m.arrived; requested = m.requested; on = m.on; off = m.off }

bursts_asked : (d : Demand) (f : Progress) (n : ℕ) → Bursts d f n n → Bursts d (asked d f) n (suc n)
unfolding asked next_request
bursts_asked d f n m = record {
  arrived = m.arrived;
  requested = ap (λ r. min (r + d.burst) d.total) m.requested ∙ level_more d n;
  on = λ e. refl;
  off = λ e. absurd (both_ways _ e refl);
}

-- an idle feeder's bursts have all arrived
idle : (d : Demand) (f : Progress) (k n : ℕ) → Bursts d f k n → k ≡ n → f.pending ≡ false
idle d f k n m e = ⊎_elim (λ on. absurd (omega (arith, m.on on))) (λ off. off) (cases_Bool f.pending)

bound : (d : Demand) (f : Progress) (k n : ℕ) → Bursts d f k n → (k ≤ n) × (n ≤ suc k)
bound d f k n m = ⊎_elim (λ on. omega (arith, m.on on)) (λ off. omega (arith, m.off off)) (cases_Bool f.pending)

overdue : (d : Demand) (f : Progress) → answers d false f ≡ true → (f.pending ≡ true) × (d.latency ≤ f.waited + 1)
unfolding answers
overdue d f h = (grind (arith, nat_tests), grind (arith, nat_tests))

early : (d : Demand) (w : Bool) (f : Progress) → answers d w f ≡ false → f.pending ≡ true → f.waited + 1 < d.latency
unfolding answers
early d w f h on = grind (arith, nat_tests)

-- where the later one's answer must come, the other's has come
overtaken : (d : Demand) (w : Bool) (a b : Progress) (l : Lag d a b) → answers d false a ≡ true → answers d w b ≡ false → l.na ≤ l.kb
overtaken d w a b l due not_yet =
    let more = bound d b _ _ l.other in
    let is_due = overdue d a due in
    ⊎_elim (λ fewer. omega arith)
    (λ same. ⊎_elim
    (λ on. absurd (omega (arith, l.waits (omega (arith, l.requests)) is_due.0 on, early d w b not_yet on)))
    (λ off. omega (arith, l.other.off off, l.requests))
    (cases_Bool b.pending))
    (cases_lt l.na l.nb)

lag_answer : (d : Demand) (w : Bool) (a b : Progress) → Lag d a b → Lag d (after_answer d false a) (after_answer d w b)
unfolding after_answer answered waiting
lag_answer d w a b l =
    let more_b = bound d b _ _ l.other in
    cond_both (answers d false a) (answered a) (waiting a) (λ x. Lag d x (after_answer d w b))
    (λ yes. cond_both (answers d w b) (answered b) (waiting b) (λ y. Lag d (answered a) y)
    (λ too. record {
      ka = l.na;
      na = l.na;
      kb = l.nb;
      nb = l.nb;
      mine = bursts_answered d a _ _ l.mine;
      other = bursts_answered d b _ _ l.other;
      requests = l.requests;
      arrivals = l.requests;
      waits = λ e on. absurd (both_ways _ refl on);
    })
    (λ not_yet. record {
      ka = l.na;
      na = l.na;
      kb = l.kb;
      nb = l.nb;
      mine = bursts_answered d a _ _ l.mine;
      other = bursts_waiting d b _ _ l.other;
      requests = l.requests;
      arrivals = overtaken d w a b l yes not_yet;
      waits = λ e on. absurd (both_ways _ refl on);
    }))
    (λ late. cond_both (answers d w b) (answered b) (waiting b) (λ y. Lag d (waiting a) y)
    (λ too. record {
      ka = l.ka;
      na = l.na;
      kb = l.nb;
      nb = l.nb;
      mine = bursts_waiting d a _ _ l.mine;
      other = bursts_answered d b _ _ l.other;
      requests = l.requests;
      arrivals = omega arith;
      waits = λ e on_a on. absurd (both_ways _ refl on);
    })
    (λ not_yet. record {
      ka = l.ka;
      na = l.na;
      kb = l.kb;
      nb = l.nb;
      mine = bursts_waiting d a _ _ l.mine;
      other = bursts_waiting d b _ _ l.other;
      requests = l.requests;
      arrivals = l.arrivals;
      waits = λ e on_a on_b. let before = l.waits e on_a on_b in rw (on_a, on_b) (omega arith);
    }))

-- to take a dot changes nothing that counts here
lag_take : (d : Demand) (t : ℕ) (a b : Progress) → Lag d a b → Lag d (after_take d t a) (after_take d t b)
unfolding after_take
lag_take d t a b l = record {
  ka = l.ka;
  na = l.na;
  kb = l.kb;
  nb = l.nb;
  mine = record { arrived = l.mine.arrived; requested = l.mine.requested; on = l.mine.on; off = l.mine.off };
  other = record { arrived = l.other.arrived; requested = l.other.requested; on = l.other.on; off = l.other.off };
  requests = l.requests;
  arrivals = l.arrivals;
  waits = l.waits;
}

-- a feeder that asks is idle, and so would be any other that had requested as much
asks_idle : (d : Demand) (t : ℕ) (f : Progress) → asks d t f ≡ true → f.pending ≡ false
unfolding asks
asks_idle d t f h = grind (arith, nat_tests)

asks_too : (d : Demand) (t : ℕ) (a b : Progress) → a.requested ≡ b.requested → b.pending ≡ false → asks d t a ≡ true → asks d t b ≡ true
unfolding asks next_request
asks_too d t a b same off h = grind (arith, nat_tests)

-- where the later one asks, the other has asked as often or asks too
asked_before : (d : Demand) (t : ℕ) (a b : Progress) (l : Lag d a b) → asks d t a ≡ true → asks d t b ≡ false → l.na < l.nb
asked_before d t a b l first not_now = ⊎_elim (λ fewer. fewer)
    (λ same.
    let level_a = l.mine.off (asks_idle d t a first) in
    let level_b = bound d b _ _ l.other in
    let off = idle d b _ _ l.other (omega (arith, l.arrivals, l.requests)) in
    let equal : l.na ≡ l.nb = omega (arith, l.requests) in
    absurd (both_ways _ not_now (asks_too d t a b (l.mine.requested ∙ ap (level d) equal ∙ sym l.other.requested) off first)))
    (cases_lt l.na l.nb)

bursts_idle : (d : Demand) (f : Progress) (k n : ℕ) → Bursts d f k n → f.pending ≡ false → Bursts d f n n
bursts_idle d f k n m off = subst (λ j. Bursts d f j n) (sym (m.off off)) m

lag_ask : (d : Demand) (t : ℕ) (a b : Progress) → Lag d a b → Lag d (after_ask d t a) (after_ask d t b)
unfolding after_ask asked
lag_ask d t a b l =
    let more_a = bound d a _ _ l.mine in
    let more_b = bound d b _ _ l.other in
    cond_both (asks d t a) (asked d a) a (λ x. Lag d x (after_ask d t b))
    (λ yes.
    let mine = bursts_asked d a _ (bursts_idle d a _ _ l.mine (asks_idle d t a yes)) in
    cond_both (asks d t b) (asked d b) b (λ y. Lag d (asked d a) y)
    (λ too. record {
      ka = l.na;
      na = suc l.na;
      kb = l.nb;
      nb = suc l.nb;
      mine = mine;
      other = bursts_asked d b _ (bursts_idle d b _ _ l.other (asks_idle d t b too));
      requests = omega (arith, l.requests);
      arrivals = l.requests;
      waits = λ e on_a on_b. omega arith;
    })
    (λ not_now. record {
      ka = l.na;
      na = suc l.na;
      kb = l.kb;
      nb = l.nb;
      mine = mine;
      other = l.other;
      requests = asked_before d t a b l yes not_now;
      arrivals = omega (arith, asked_before d t a b l yes not_now);
      waits = λ e on_a on_b. omega arith;
    }))
    (λ not_now. cond_both (asks d t b) (asked d b) b (λ y. Lag d a y)
    (λ too. record {
      ka = l.ka;
      na = l.na;
      kb = l.nb;
      nb = suc l.nb;
      mine = l.mine;
      other = bursts_asked d b _ (bursts_idle d b _ _ l.other (asks_idle d t b too));
      requests = omega (arith, l.requests);
      arrivals = omega (arith, l.requests);
      waits = λ e on_a on_b. absurd (omega (arith, l.requests));
    })
    (λ neither. l))

lag : (d : Demand) (w : ℕ → Bool) (t : ℕ) → Lag d (after d latest t) (after d w t)
unfolding after begun after_tick level
lag d w zero =
    let none : 0 ≡ level d 0 = rw zero-mul (omega arith) in
    let start : Bursts d begun 0 0 = record { arrived = none; requested = none; on = λ e. absurd (both_ways _ refl e); off = λ e. refl } in
    record { ka = 0; na = 0; kb = 0; nb = 0; mine = start; other = start; requests = omega arith; arrivals = omega arith; waits = λ e on. absurd (both_ways _ refl on) }
lag d w (suc t) = lag_ask d t _ _ (lag_take d t _ _ (lag_answer d (w t) _ _ (lag d w t)))

arrived_least : (d : Demand) (a b : Progress) → Lag d a b → a.arrived ≤ b.arrived
arrived_least d a b l = omega (arith, l.mine.arrived, l.other.arrived, level_rises d l.ka l.kb l.arrivals)

pub latest_least : (d : Demand) (w : ℕ → Bool) (t : ℕ) → (after d latest t).arrived ≤ (after d w t).arrived
latest_least d w t = arrived_least d _ _ (lag d w t)

pub latest_misses : (d : Demand) (w : ℕ → Bool) (t : ℕ) → misses d t (after_answer d (w t) (after d w t)) ≡ true → misses d t (after_answer d (latest t) (after d latest t)) ≡ true
unfolding misses
latest_misses d w t h =
    let fewer = arrived_least d _ _ (lag_answer d (w t) _ _ (lag d w t)) in
    grind (arith, nat_tests)
