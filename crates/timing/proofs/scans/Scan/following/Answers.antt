use Rattle.std.proofs.Common.{arith}
use Rattle.timing.proofs.Dues.{near, tracks_dark, tracks_beside, tracks_below}
use Rattle.timing.proofs.scans.Scan.following.Goals as goal

pub overflow_add-count : goal.overflow_add-count
overflow_add-count c = let s = c.args.self.now in omega (arith, near _ _ s.plan.ok s.tracks)

pub overflow_add-result : goal.overflow_add-result
overflow_add-result c = let s = c.args.self.now in omega (arith, near _ _ s.plan.ok s.tracks)

pub overflow_add-result-then-x-numbers : goal.overflow_add-result-then-x-numbers
overflow_add-result-then-x-numbers c = let s = c.args.self.now in rw c.numbers-numbers.ensures (omega (arith, near _ _ s.plan.ok s.tracks))

pub returns-then-at-clause-tracks : goal.returns-then-at-clause-tracks
returns-then-at-clause-tracks c = let s = c.args.self.now in tracks_dark _ _ s.plan.ok s.tracks c.requires c.if-at.true

pub returns-then-x-numbers-clause-tracks : goal.returns-then-x-numbers-clause-tracks
returns-then-x-numbers-clause-tracks c =
    let s = c.args.self.now in
    rw c.numbers-numbers.ensures (tracks_below _ _ s.plan.ok s.tracks c.requires c.if-at.false (rw (← c.numbers-numbers.ensures) c.if-x-numbers.true))

pub returns-clause-tracks : goal.returns-clause-tracks
returns-clause-tracks c =
    let s = c.args.self.now in
    tracks_beside _ _ s.plan.ok s.tracks c.requires c.if-at.false (rw (← c.numbers-numbers.ensures) c.if-x-numbers.false)
