-- The feeding law: by a sound demand the FIFO is never too full; by a timely one no dot is ever missing.
use Rattle.std.proofs.Common.{◌≡◌, ℕ, zero, suc, ◌+◌, ◌-◌, ◌<◌, ◌≤◌, min, Bool, true, false, cond, ◌||◌, ◌⊎◌, sym, refl, ap, ◌∙◌, subst, inl, inr, ⊎_elim, add-zero, add-suc, zero-add, arith}
use Rattle.std.proofs.lemmas.Bool.{cond_both, cases_Bool, cases_lt, both_ways, or_from, or_parts}
use Rattle.std.proofs.lemmas.Bool.Decides.{nat_tests}
use Rattle.feeder.specs.Law.{Sound, Timely}
use Rattle.feeder.specs.Model.{Demand, begun, answers, answered, waiting, after_answer, uses, misses, after_take, next_request, asks, asked, after_ask, after_tick, after}
use Rattle.feeder.specs.declared.states.Progress.{Progress}

-- the curve over several ticks
need_rises : (d : Demand) → Sound d → (s n : ℕ) → d.need s ≤ d.need (s + n)
need_rises d sound s zero = rw (add-zero s) (omega arith)
need_rises d sound s (suc n) = rw (add-suc s n) (omega (arith, need_rises d sound s n, sound.rises (s + n)))

pub need_mono : (d : Demand) → Sound d → (s t : ℕ) → s ≤ t → d.need s ≤ d.need t
need_mono d sound s t h =
    let e : s + (t - s) ≡ t = omega arith in
    subst (λ n. d.need s ≤ d.need n) e (need_rises d sound s (t - s))

-- what every move keeps, whatever the demand: before tick t the numbers are those of a feeder
pub record Kept (d : Demand) (t : ℕ) (f : Progress) : Type 0 where
  pub order : f.arrived ≤ f.requested
  pub total : f.requested ≤ d.total
  pub room : f.requested ≤ d.free t + d.capacity
  pub burst : f.requested ≤ f.arrived + d.burst
  pub time : f.waited < d.latency
  pub awaits : f.pending ≡ true → f.arrived < f.requested
  pub idle : f.pending ≡ false → (f.requested ≡ f.arrived) × (f.waited ≡ 0)

kept_answer : (d : Demand) (w : Bool) (t : ℕ) (f : Progress) → Sound d → Kept d t f → Kept d t (after_answer d w f)
unfolding after_answer answers answered waiting
kept_answer d w t f sound k = cond_both (answers d w f) (answered f) (waiting f) (Kept d t)
    (λ yes. record {
      order = omega arith;
      total = k.total;
      room = k.room;
      burst = omega arith;
      time = sound.late;
      awaits = λ e. absurd (both_ways _ refl e);
      idle = λ e. (refl, refl);
    })
    (λ not_yet. record {
      order = k.order;
      total = k.total;
      room = k.room;
      burst = k.burst;
      time = grind (arith, nat_tests, k.time);
      awaits = k.awaits;
      idle = λ e. ((k.idle e).0, ap (λ b. cond b (f.waited + 1) 0) e);
    })

kept_take : (d : Demand) (t : ℕ) (f : Progress) → Sound d → Kept d t f → Kept d (suc t) (after_take d t f)
unfolding after_take
kept_take d t f sound k = record {
  order = k.order;
  total = k.total;
  room = omega (arith, k.room, sound.frees t);
  burst = k.burst;
  time = k.time;
  awaits = k.awaits;
  idle = k.idle;
}

kept_ask : (d : Demand) (t : ℕ) (f : Progress) → Sound d → Kept d (suc t) f → Kept d (suc t) (after_ask d t f)
unfolding after_ask asks asked next_request
kept_ask d t f sound k = cond_both (asks d t f) (asked d f) f (Kept d (suc t))
    (λ yes.
    let still : f.pending ≡ false = grind (arith, nat_tests) in
    let left : f.requested < d.total = grind (arith, nat_tests) in
    let fits : min (f.requested + d.burst) d.total ≤ d.free (suc t) + d.capacity = grind (arith, nat_tests) in
    let same = (k.idle still).0 in
    record {
      order = omega arith;
      total = omega arith;
      room = fits;
      burst = omega arith;
      time = sound.late;
      awaits = λ e. omega (arith, sound.some);
      idle = λ e. absurd (both_ways _ e refl);
    })
    (λ no_request. k)

pub kept_tick : (d : Demand) (w : Bool) (t : ℕ) (f : Progress) → Sound d → Kept d t f → Kept d (suc t) (after_tick d w t f)
unfolding after_tick
kept_tick d w t f sound k = kept_ask d t _ sound (kept_take d t _ sound (kept_answer d w t f sound k))

pub kept : (d : Demand) (w : ℕ → Bool) (t : ℕ) → Sound d → Kept d t (after d w t)
unfolding after begun
kept d w zero sound = record {
  order = omega arith;
  total = omega arith;
  room = omega arith;
  burst = omega arith;
  time = sound.late;
  awaits = λ e. absurd (both_ways _ refl e);
  idle = λ e. (refl, refl);
}
kept d w (suc t) sound = kept_tick d (w t) t (after d w t) sound (kept d w t sound)

-- what a tick does to the two numbers that the law is about
pub tick_arrived : (d : Demand) (w : Bool) (t : ℕ) (f : Progress) → (after_tick d w t f).arrived ≡ (after_answer d w f).arrived
unfolding after_tick after_ask asked after_take
tick_arrived d w t f =
    cond_both (asks d t (after_take d t (after_answer d w f))) _ _ (λ (x : Progress). x.arrived ≡ (after_answer d w f).arrived) (λ yes. refl) (λ no_request. refl)

pub tick_underrun : (d : Demand) (w : Bool) (t : ℕ) (f : Progress) → (after_tick d w t f).underrun ≡ (f.underrun || misses d t (after_answer d w f))
unfolding after_tick after_ask asked after_take after_answer answered waiting
tick_underrun d w t f =
    let same : (after_answer d w f).underrun ≡ f.underrun = cond_both (answers d w f) _ _ (λ (x : Progress). x.underrun ≡ f.underrun) (λ yes. refl) (λ not_yet. refl) in
    cond_both (asks d t (after_take d t (after_answer d w f))) _ _ (λ (x : Progress). x.underrun ≡ (f.underrun || misses d t (after_answer d w f)))
    (λ yes. ap (λ b. b || misses d t (after_answer d w f)) same) (λ no_request. ap (λ b. b || misses d t (after_answer d w f)) same)

answer_rises : (d : Demand) (w : Bool) (t : ℕ) (f : Progress) → Kept d t f → f.arrived ≤ (after_answer d w f).arrived
unfolding after_answer answered waiting
answer_rises d w t f k = cond_both (answers d w f) _ _ (λ (x : Progress). f.arrived ≤ x.arrived) (λ yes. k.order) (λ not_yet. omega arith)

-- By a timely demand what is pending arrives before its first dot is used. A request that was waited for in s ticks arrives in latency - 1 - s ticks at the latest; one that could still be made arrives in latency ticks.
pub record Ahead (d : Demand) (t : ℕ) (f : Progress) : Type 0 where
  pub awaited : f.pending ≡ true → (f.requested ≡ min (f.arrived + d.burst) d.total) × (d.need (t + (d.latency - 1 - f.waited)) ≤ f.arrived)
  pub unasked : f.pending ≡ false → (f.requested ≡ d.total) ⊎ (d.need (t + d.latency) ≤ f.requested)

-- the same in the middle of tick t, once the memory has answered or not
record Midway (d : Demand) (t : ℕ) (f : Progress) : Type 0 where
  awaited : f.pending ≡ true → (f.requested ≡ min (f.arrived + d.burst) d.total) × (f.waited < d.latency) × (d.need (t + (d.latency - f.waited)) ≤ f.arrived)
  unasked : f.pending ≡ false → (f.requested ≡ f.arrived) × ((f.requested ≡ d.total) ⊎ (d.need (t + d.latency) ≤ f.requested))

module _ (d : Demand) (sound : Sound d) (timely : Timely d) where
  midway : (w : Bool) (t : ℕ) (f : Progress) → Kept d t f → Ahead d t f → Midway d t (after_answer d w f)
  unfolding after_answer answers answered waiting
  midway w t f k a = cond_both (answers d w f) (answered f) (waiting f) (Midway d t)
      (λ yes.
      let on : f.pending ≡ true = grind (arith, nat_tests) in
      let ahead = a.awaited on in
      let used : d.need t ≤ f.arrived = omega (arith, need_mono d sound t (t + (d.latency - 1 - f.waited)) (omega arith)) in
      record {
        awaited = λ e. absurd (both_ways _ refl e);
        unasked = λ e. (refl, ⊎_elim (λ h. inr (omega (arith, timely.rate t))) (λ h. inl (omega (arith, k.total))) (cases_lt (f.arrived + d.burst) d.total));
      })
      (λ not_yet. record {
        awaited = λ on.
            let ahead = a.awaited on in
            let more : cond f.pending (f.waited + 1) 0 ≡ f.waited + 1 = ap (λ b. cond b (f.waited + 1) 0) on in
            let early : f.waited + 1 < d.latency = grind (arith, nat_tests) in
            let same : t + (d.latency - cond f.pending (f.waited + 1) 0) ≡ t + (d.latency - 1 - f.waited) = omega arith in
            (ahead.0, omega arith, subst (λ n. d.need n ≤ f.arrived) (sym same) ahead.1);
        unasked = λ off. ((k.idle off).0, a.unasked off);
      })

  -- so the dot that is used in this tick has arrived
  arrived_in_time : (t : ℕ) (f : Progress) → Midway d t f → d.need (suc t) ≤ f.arrived
  arrived_in_time t f m = ⊎_elim
      (λ on. let ahead = m.awaited on in omega (arith, need_mono d sound (suc t) (t + (d.latency - f.waited)) (omega arith)))
      (λ off. let same = (m.unasked off).0 in ⊎_elim
      (λ all. omega (arith, sound.within (suc t)))
      (λ soon. omega (arith, need_mono d sound (suc t) (t + d.latency) (omega (arith, sound.late))))
      (m.unasked off).1)
      (cases_Bool f.pending)

  -- and what is asked for now will arrive before it is used
  ahead_ask : (t : ℕ) (f : Progress) → Midway d t f → Ahead d (suc t) (after_ask d t (after_take d t f))
  unfolding after_ask asks asked next_request after_take
  ahead_ask t f m = cond_both (asks d t (after_take d t f)) (asked d (after_take d t f)) (after_take d t f) (Ahead d (suc t))
      (λ yes.
      let off : f.pending ≡ false = grind (arith, nat_tests) in
      let left : f.requested < d.total = grind (arith, nat_tests) in
      let idle = m.unasked off in
      let soon : d.need (t + d.latency) ≤ f.requested = ⊎_elim (λ all. absurd (omega arith)) (λ h. h) idle.1 in
      let same : suc t + (d.latency - 1 - 0) ≡ t + d.latency = omega (arith, sound.late) in
      record {
        awaited = λ e. (ap (λ n. min (n + d.burst) d.total) idle.0, subst (λ n. d.need n ≤ f.arrived) (sym same) (omega arith));
        unasked = λ e. absurd (both_ways _ e refl);
      })
      (λ no_request. record {
        awaited = λ on.
            let ahead = m.awaited on in
            let same : suc t + (d.latency - 1 - f.waited) ≡ t + (d.latency - f.waited) = omega arith in
            (ahead.0, subst (λ n. d.need n ≤ f.arrived) (sym same) ahead.2);
        unasked = λ off. ⊎_elim inl
            (λ soon. ⊎_elim
            (λ left.
            let full : d.free (suc t) + d.capacity < min (f.requested + d.burst) d.total = grind (arith, nat_tests) in
            inr (omega (arith, timely.room (suc t))))
            (λ none. ⊎_elim (λ below. inr (omega (arith, sound.within (suc t + d.latency)))) (λ all. inl (omega arith)) (cases_lt d.total f.requested))
            (cases_lt f.requested d.total))
            (m.unasked off).1;
      })

  ahead : (w : ℕ → Bool) (t : ℕ) → Ahead d t (after d w t)
  unfolding after begun after_tick
  ahead w zero = record { awaited = λ e. absurd (both_ways _ refl e); unasked = λ e. inr (omega (arith, timely.lead, ap d.need (zero-add d.latency))) }
  ahead w (suc t) = ahead_ask t _ (midway (w t) t (after d w t) (kept d w t sound) (ahead w t))

  -- THE FEEDING LAW
  pub never_missing : (w : ℕ → Bool) (t : ℕ) → misses d t (after_answer d (w t) (after d w t)) ≡ false
  unfolding misses uses
  never_missing w t =
      let has = arrived_in_time t _ (midway (w t) t (after d w t) (kept d w t sound) (ahead w t)) in
      grind (arith, nat_tests)

  pub never_late : (w : ℕ → Bool) (t : ℕ) → (after d w t).underrun ≡ false
  unfolding after begun
  never_late w zero = refl
  never_late w (suc t) = tick_underrun d (w t) t (after d w t) ∙ or_from _ _ (never_late w t) (never_missing w t)

-- Whatever the demand: while no dot was missing, every dot that was used had arrived
pub arrived_while : (d : Demand) (w : ℕ → Bool) (t : ℕ) → Sound d → (after d w t).underrun ≡ false → d.need t ≤ (after d w t).arrived
unfolding after begun misses uses
arrived_while d w zero sound e = omega (arith, sound.starts)
arrived_while d w (suc t) sound e =
    let parts = or_parts _ _ (sym (tick_underrun d (w t) t (after d w t)) ∙ e) in
    let before = arrived_while d w t sound parts.0 in
    let more = answer_rises d (w t) t (after d w t) (kept d w t sound) in
    let met : d.need (suc t) ≤ (after_answer d (w t) (after d w t)).arrived = grind (arith, nat_tests, parts.1, before, more, sound.rises t, sound.slowly t) in
    subst (λ n. d.need (suc t) ≤ n) (sym (tick_arrived d (w t) t (after d w t))) met

-- so once all of them were used, all have arrived and nothing is pending
pub all_arrive : (d : Demand) (w : ℕ → Bool) (t : ℕ) → Sound d → d.need t ≡ d.total → (after d w t).underrun ≡ false → ((after d w t).arrived ≡ d.total) × ((after d w t).pending ≡ false)
all_arrive d w t sound all e =
    let k = kept d w t sound in
    let some = arrived_while d w t sound e in
    (omega (arith, k.order, k.total), ⊎_elim (λ on. absurd (omega (arith, k.awaits on, k.total))) (λ off. off) (cases_Bool (after d w t).pending))
