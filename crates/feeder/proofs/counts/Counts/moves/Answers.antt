use Rattle.std.proofs.Common.{◌≡◌, suc, ◌+◌, ap, ◌∙◌, arith}
use Rattle.timing.specs.declared.numbers.Numbers.{Numbers}
use Rattle.timing.proofs.Curves.{taken_few}
use Rattle.timing.proofs.Goods.{good_says, small}
use Rattle.feeder.specs.Panel.{demand_of, noted}
use Rattle.feeder.specs.declared.states.Progress.{Progress}
use Rattle.feeder.proofs.Moves.{tick_is, requested_is, asked_more, outcome_is}
use Rattle.feeder.proofs.Plans.{accepted_kept, waited_small}
use Rattle.feeder.proofs.counts.Counts.moves.Goals as goal

pub answer-before-requires : goal.answer-before-requires
answer-before-requires c = let s = c.args.self.now in waited_small _ _ s.progress s.scan.plan.ok s.ok

pub overflow_add-freed : goal.overflow_add-freed
overflow_add-freed c =
    let s = c.args.self.now in
    rw c.numbers-capacity.ensures (omega (arith, c.requires.freed, taken_few _ s.scan.plan.ok (suc s.scan.at.tick), (good_says _ s.scan.plan.ok).capacity_most))

pub ask-after-requires : goal.ask-after-requires
unfolding noted demand_of
ask-after-requires c =
    let s = c.args.self.now in
    let same : c.note.result.requested ≡ s.progress.requested = ap (λ (f : Progress). f.requested) c.note.ensures ∙ requested_is _ s.scan.at.tick _ _ _ c.requires.allowed c.answer-before.ensures in
    let g = good_says _ s.scan.plan.ok in
    rw (c.numbers-capacity.ensures, same) (omega (arith, (accepted_kept _ _ _ s.ok).total, (small _ s.scan.plan.ok).dots_most, g.burst_most, g.capacity_most))

pub overflow_sub-after : goal.overflow_sub-after
unfolding noted
overflow_sub-after c =
    let same : c.note.result.requested ≡ c.answer-before.result.requested = ap (λ (f : Progress). f.requested) c.note.ensures in
    rw (← same, c.ask-after.ensures) (asked_more _ _ _ c.note.result)

pub returns : goal.returns
returns c =
    let s = c.args.self.now in
    let p = c.numbers-capacity.ensures in
    let tick = tick_is s.scan.plan.numbers s.scan.at.tick c.args.brought s.progress c.answer-before.result c.requires.allowed c.answer-before.ensures
    c.note.result c.ask-after.result c.takes-takes.result c.taken-taken.result c.numbers-capacity.result.burst s.total (c.args.freed + c.numbers-capacity.result.capacity)
    c.takes-takes.ensures c.taken-taken.ensures c.note.ensures (ap (λ (q : Numbers). q.burst) p) s.dots
    (ap (λ (q : Numbers). c.args.freed + q.capacity) p ∙ ap (λ n. n + s.scan.plan.numbers.capacity) c.requires.freed) c.ask-after.ensures in
    record {
      progress = tick;
      outcome = outcome_is s.scan.plan.numbers s.scan.at.tick c.args.brought s.progress c.answer-before.result c.requires.allowed c.answer-before.ensures
          c.ask-after.result c.takes-takes.result c.taken-taken.result c.new-outcome.result c.takes-takes.ensures c.taken-taken.ensures tick c.new-outcome.ensures;
    }
