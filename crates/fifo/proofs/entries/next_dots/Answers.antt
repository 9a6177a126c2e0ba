use Rattle.std.proofs.Common.{◌≡◌, ◌+◌, ◌-◌, ◌%◌, ◌<◌, ◌≤◌, min, length, take, drop, refl, ap, ◌∙◌, ap₂, mod-lt, arith, rules}
use Rattle.timing.specs.declared.numbers.Numbers.{Numbers}
use Rattle.timing.proofs.Goods.{good_says}
use Rattle.timing.specs.Frame.{taken}
use Rattle.feeder.specs.declared.states.Progress.{Progress}
use Rattle.fifo.specs.Entry.{next_part}
use Rattle.timing.specs.Row.{numbers_in}
use Rattle.feeder.specs.Lent.{tick_at, progress_at}
use Rattle.fifo.proofs.Checks.{misfit}
use Rattle.fifo.proofs.Halves.{two_parts_in}
use Rattle.fifo.proofs.entries.next_dots.Goals as goal

pub returns-in_default : goal.returns-in_default
returns-in_default c =
    let never = misfit _ _ _ c.in_default.field-0 c.in_default.ensures in
    record { says = record { refused = λ h. refl; next = λ fits. absurd (never fits.0 fits.1 fits.2) }; whole = λ fits. absurd (never fits.0 fits.1 fits.2) }

pub nonzero_rem-at : goal.nonzero_rem-at
nonzero_rem-at c =
    let g = good_says _ c.in-Ok.counts.scan.plan.ok in
    omega (arith, g.burst_least, g.burst_most, c.in-Ok.ensures.size, ap (λ (p : Numbers). p.capacity) c.in-Ok.ensures.plan_is)

pub overflow_sub-ring : goal.overflow_sub-ring
overflow_sub-ring c =
    let some : 0 < length c.args.ring.now =
    let g = good_says _ c.in-Ok.counts.scan.plan.ok in
    omega (arith, g.burst_least, g.burst_most, c.in-Ok.ensures.size, ap (λ (p : Numbers). p.capacity) c.in-Ok.ensures.plan_is) in
    omega (arith, mod-lt c.taken-taken.result some)

pub slice_bounds-result-end-2 : goal.slice_bounds-result-end-2
slice_bounds-result-end-2 c =
    let some : 0 < length c.args.ring.now =
    let g = good_says _ c.in-Ok.counts.scan.plan.ok in
    omega (arith, g.burst_least, g.burst_most, c.in-Ok.ensures.size, ap (λ (p : Numbers). p.capacity) c.in-Ok.ensures.plan_is) in
    let below : c.taken-taken.result % length c.args.ring.now < length c.args.ring.now = mod-lt c.taken-taken.result some in
    let fits : c.taken-taken.result % length c.args.ring.now + c.min-count.result ≤ length c.args.ring.now = omega (arith, c.min-count.ensures) in
    search rules

pub returns : goal.returns
unfolding next_part
returns c =
    let o = c.in-Ok.ensures in
    let k : c.taken-taken.result ≡ taken (numbers_in c.args.plan.now) (tick_at c.args.state.now) = c.taken-taken.ensures ∙ ap₂ taken o.plan_is o.tick_is in
    let a : c.progress-arrived.result.arrived ≡ (progress_at c.args.state.now).arrived = ap (λ (f : Progress). f.arrived) (c.progress-arrived.ensures ∙ o.progress_is) in
    let m = length c.args.ring.now in
    let at = c.taken-taken.result % m in
    let count : at + c.min-count.result - at ≡ min (c.progress-arrived.result.arrived - c.taken-taken.result) (m - at) = omega (arith, c.min-count.ensures, c.saturating_sub.ensures) in
    record {
      says = record {
        refused = λ misfits. absurd (misfits (o.plan_ok, o.state_ok, o.size));
        next = λ fits. ap (λ n. take n (drop at c.args.ring.now)) count ∙ ap₂ (λ i j. next_part m i j c.args.ring.now) k a;
      };
      whole = λ fits. two_parts_in _ _ _ c.in-Ok.counts o;
    }
