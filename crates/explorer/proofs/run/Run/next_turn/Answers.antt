use Rattle.std.proofs.Common.{arith}
use Rattle.explorer.proofs.Running.{none_found, none_yet, turn_found}
use Rattle.explorer.proofs.run.Run.next_turn.Goals as goal

pub returns-then-branch : goal.returns-then-branch
returns-then-branch c =
    let i = c.loop-index.invariant in
    turn_found c.args.policy.now c.args.workers c.args.self.now c.loop-index.self c.try_place.new.self c.args.last c.args.tried c.loop-index.index c.places-places.result i.same i.number i.rest
    c.loop-index-test.true (rw c.if-branch.true at c.in_ok-try_place.ensures)

pub loop-index-preserved : goal.loop-index-preserved
loop-index-preserved c =
    let i = c.loop-index.invariant in
    let more = none_yet c.args.policy.now c.args.workers c.args.self.now c.loop-index.self c.try_place.new.self c.args.last c.args.tried c.loop-index.index c.places-places.result i.same i.number i.rest
    c.loop-index-test.true (rw c.if-branch.false at c.in_ok-try_place.ensures) in
    record { same = more.0; number = i.number; rest = more.1 }

pub returns : goal.returns
returns c =
    let i = c.loop-index.invariant in
    none_found c.args.policy.now c.args.workers c.args.self.now c.loop-index.self c.loop-index.self c.args.last c.args.tried c.loop-index.index c.places-places.result i.same i.number i.rest (omega arith)
