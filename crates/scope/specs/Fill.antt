-- A frame by the latest memory, tick by tick. Assumes nothing: these are definitions.
use Rattle.std.specs.Prelude.{◌≡◌, ℕ, suc, ◌+◌, ◌-◌, ◌*◌, ◌/◌, ◌%◌, ◌<◌, ◌≤◌, min, cond, Some, None, Option, nat_lt, slice_index_or}
use Rattle.timing.specs.Frame.{frame_ticks, takes, taken}
use Rattle.timing.specs.declared.numbers.Numbers.{Numbers}
use Rattle.feeder.specs.Model.{after_answer, misses, after, latest}
use Rattle.feeder.specs.Panel.{demand_of}
use Rattle.feeder.specs.Step.{plan_in, tick_in}
use Rattle.feeder.specs.declared.counts.Counts.{Counts}
use Rattle.feeder.specs.declared.outcomes.Outcome.{Outcome}
use Rattle.feeder.specs.declared.outcomes.Outcome.TheVariants as given
use Rattle.scope.specs.declared.charts.Chart.{Chart}
use Rattle.scope.specs.declared.samples.Sample.{Sample}
use Rattle.scope.specs.declared.spans.Span.{Span}

-- dots that have arrived before tick t and are not taken
unfoldable pub fill : Numbers → ℕ → ℕ
fill p t = (after (demand_of p) latest t).arrived - taken p t

-- the dot that an outcome takes, where the next one is k
abbrev pub dot_of : Outcome → ℕ → Option ℕ
dot_of (given.Dot n) k = Some k
dot_of (given.Dark n) k = None
dot_of (given.Missing n) k = Some k

-- tick t as it is seen at its end
unfoldable pub sample_in : Numbers → ℕ → Sample
sample_in p t = record {
  tick = t;
  dot = cond (takes p t) (Some (taken p t)) None;
  missing = misses (demand_of p) t (after_answer (demand_of p) (latest t) (after (demand_of p) latest t));
  requested = (after (demand_of p) latest (suc t)).requested;
  arrived = (after (demand_of p) latest (suc t)).arrived;
  pending = (after (demand_of p) latest (suc t)).pending;
  fill = fill p (suc t);
}

pub record Sampled (from : Counts) (s : Sample) (to : Counts) : Type 0 where
  pub inside : tick_in from < frame_ticks (plan_in from)
  pub plan : to.scan.plan ≡ from.scan.plan
  pub tick : tick_in to ≡ suc (tick_in from)
  pub sample : s ≡ sample_in (plan_in from) (tick_in from)

-- the fill at the next tick's end
pub record Filled (from : Counts) (n : ℕ) (to : Counts) : Type 0 where
  pub plan : plan_in to ≡ plan_in from
  pub tick : tick_in to ≡ suc (tick_in from)
  pub value : n ≡ fill (plan_in from) (suc (tick_in from))

-- the least and the most fill before n ticks from tick t on: none is outside, and both are met
pub record Spans (p : Numbers) (t n least most : ℕ) : Type 0 where
  pub inside : (k : ℕ) → k < n → (least ≤ fill p (t + k)) × (fill p (t + k) ≤ most)
  pub least_met : (k : ℕ) × (k < n) × (fill p (t + k) ≡ least)
  pub most_met : (k : ℕ) × (k < n) × (fill p (t + k) ≡ most)

-- the same over the next n ticks, each at its end
pub record Spanned (from : Counts) (n : ℕ) (c : Span) (to : Counts) : Type 0 where
  pub plan : plan_in to ≡ plan_in from
  pub tick : tick_in to ≡ tick_in from + n
  pub spans : Spans (plan_in from) (suc (tick_in from)) n c.least c.most

-- column i of n over a frame of t ticks: where it begins, and how many ticks it has
abbrev pub column_start : (t n i : ℕ) → ℕ
column_start t n i = i * (t / n) + min i (t % n)

abbrev pub column_size : (t n i : ℕ) → ℕ
column_size t n i = t / n + cond (nat_lt i (t % n)) 1 0

abbrev pub span_at : Chart → ℕ → Span
span_at c i = slice_index_or c.columns i (record { least = 0; most = 0 })

-- column by column the least and the most at the ends of its ticks; the columns are the frame, one after the other, with none left out
pub record Charted (p : Numbers) (c : Chart) : Type 0 where
  pub count_is : c.count ≡ min (frame_ticks p) 80
  pub column : (i : ℕ) → i < c.count → Spans p (suc (column_start (frame_ticks p) c.count i)) (column_size (frame_ticks p) c.count i) (span_at c i).least (span_at c i).most
  pub some : (i : ℕ) → i < c.count → 0 < column_size (frame_ticks p) c.count i
  pub on : (i : ℕ) → i < c.count → column_start (frame_ticks p) c.count (suc i) ≡ column_start (frame_ticks p) c.count i + column_size (frame_ticks p) c.count i
  pub whole : column_start (frame_ticks p) c.count c.count ≡ frame_ticks p
