use Rattle.std.proofs.Common.{◌≡◌, ℕ, ◌%◌, ◌<◌, Bool, not, eqb, length, get_or, refl, ap, ◌∙◌, subst, mod-lt, arith, Result, subst₂}
use Rattle.timing.proofs.Goods.{good_says}
use Rattle.feeder.specs.Step.{Steps}
use Rattle.feeder.specs.declared.outcomes.Outcome.{Outcome}
use Rattle.feeder.specs.declared.refusals.StepRefusal.{StepRefusal}
use Rattle.feeder.specs.declared.states.Progress.{Progress}
use Rattle.fifo.specs.Entry.{brings}
use Rattle.fifo.specs.Gives.{exchange_of}
use Rattle.fifo.specs.Ring.{filled}
use Rattle.fifo.proofs.Places.{length_filled}
use Rattle.fifo.proofs.Ticks.{few, ticked, never_refused}
use Rattle.fifo.proofs.entries.advance.Goals as goal

pub nonzero_rem-next : goal.nonzero_rem-next
nonzero_rem-next c = let g = good_says _ c.args.counts.scan.plan.ok in omega (arith, g.burst_least, g.burst_most, c.requires.going.size)

pub nonzero_rem-arrived : goal.nonzero_rem-arrived
nonzero_rem-arrived c = let g = good_says _ c.args.counts.scan.plan.ok in omega (arith, g.burst_least, g.burst_most, c.requires.going.size)

pub fill-requires : goal.fill-requires
fill-requires c = record { few = few c.args.counts _ _ c.requires.going; place = refl; inside = mod-lt _ (nonzero_rem-arrived c) }

pub bounds-ring-next : goal.bounds-ring-next
bounds-ring-next c =
    let some : 0 < length c.args.ring.now = let g = good_says _ c.args.counts.scan.plan.ok in omega (arith, g.burst_least, g.burst_most, c.requires.going.size) in
    omega (arith, mod-lt c.taken.result some, ap length c.fill.ensures, length_filled (length c.args.ring.now) c.progress-arrived.result.arrived c.args.brought.now c.args.ring.now)

-- the step's flag says whether something is brought
flag : (b : Bool) (n : ℕ) → b ≡ eqb n 0 → not b ≡ brings n
flag b n e = ap not e

pub unwrap-outcome-requires : goal.unwrap-outcome-requires
unwrap-outcome-requires c =
    never_refused c.args.counts c.step.new.self _ (length c.args.brought.now) c.step.result c.requires.going
    (subst (λ w. Steps c.args.counts w c.step.result c.step.new.self) (flag c.is_empty.result _ c.is_empty.ensures) c.step.ensures)

pub returns : goal.returns
returns c =
    let moved = subst₂ (λ w (r : Result Outcome StepRefusal). Steps c.args.counts w r c.step.new.self) (flag c.is_empty.result (length c.args.brought.now) c.is_empty.ensures) c.unwrap-outcome.ensures c.step.ensures in
    let arrived : c.progress-arrived.result.arrived ≡ c.args.counts.progress.arrived = ap (λ (f : Progress). f.arrived) c.progress-arrived.ensures in
    ticked c.args.counts c.step.new.self c.args.ring.now c.args.brought.now c.unwrap-outcome.result c.requires.going moved
    c.of.result c.copy_from_slice.new.self c.fill.new.ring
    (c.fill.ensures ∙ ap (λ n. filled (length c.args.ring.now) n c.args.brought.now c.args.ring.now) arrived)
    (c.copy_from_slice.ensures.after ∙ c.state.ensures)
    (c.of.ensures ∙ ap (λ n. exchange_of c.unwrap-outcome.result (get_or c.fill.new.ring (n % length c.args.ring.now) 0)) c.taken.ensures)
