-- No way of answering disagrees with the rule: none is sooner than the latest memory, and none misses a dot of a plan in time.
use Rattle.std.proofs.Common.{◌≡◌, ℕ, suc, ◌+◌, ◌*◌, ◌/◌, ◌%◌, ◌≤◌, Bool, true, false, is_some, Some, None, Option, refl, ⊎_elim, mul-one, arith}
use Rattle.std.proofs.lemmas.Bool.{both_ways, cases_lt, le-ltb}
use Rattle.timing.specs.Frame.{frame_ticks, frame_dots}
use Rattle.timing.specs.Good.{good}
use Rattle.timing.specs.Row.{numbers_in}
use Rattle.timing.specs.declared.numbers.Numbers.{Numbers}
use Rattle.feeder.specs.Feed.{FirstUnderrun, Soonest}
use Rattle.feeder.specs.Panel.{demand_of, in_time}
use Rattle.feeder.proofs.Laws.{never_late}
use Rattle.feeder.proofs.Plans.{sound, timely}
use Rattle.deadline.proofs.Lates.{stays_dry}
use Rattle.sweep.specs.Trial.{sooner, long_row}

pub not_sooner : (p : Numbers) (w : ℕ → Bool) (first other : Option ℕ) → FirstUnderrun p w first → Soonest p other → sooner first other ≡ false
not_sooner p w None other h s = refl
not_sooner p w (Some t) None h s = absurd (both_ways _ (s w) (stays_dry (demand_of p) w (suc t) (frame_ticks p) h.0 h.2))
not_sooner p w (Some t) (Some late) h s =
    le-ltb t late (⊎_elim (λ below. absurd (both_ways _ (s w) (stays_dry (demand_of p) w (suc t) late below h.2))) (λ above. above) (cases_lt t late))

pub none_missing : (p : Numbers) (w : ℕ → Bool) (first : Option ℕ) → good p ≡ true → in_time p ≡ true → FirstUnderrun p w first → is_some first ≡ false
none_missing p w None ok fast h = refl
none_missing p w (Some t) ok fast h = absurd (both_ways _ (never_late (demand_of p) (sound p ok) (timely p fast) w (suc t)) h.2)

-- a long line is one on which the rule is exact
pub long_enough : (index : ℕ) (p : Numbers) → p ≡ numbers_in (long_row index) → (p.hblank ≡ 0) × ((p.capacity + p.burst) * p.latency ≤ frame_dots p)
unfolding numbers_in frame_dots
long_enough index p e = rw e (refl, omega (arith, mul-one ((index / 21 % 20 + 1 + (index / 420 % 20 + 1)) * (index / 8400 % 20 + 1))))
