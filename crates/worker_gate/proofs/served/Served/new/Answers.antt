use Rattle.std.proofs.Common.{refl}
use Rattle.worker_gate.proofs.Kept.{kept_start}
use Rattle.worker_gate.proofs.served.Served.new.Goals as goal

pub invariant_of-result : goal.invariant_of-result
invariant_of-result c =
    let begun = c.in_ok-machine.ensures c.args.policy in
    rw c.in_ok-serving.ensures.ok (kept_start c.args.policy c.args.script c.args.limit c.in_ok-machine.machine begun, rw begun.events (c.in_ok-keeper.ensures.keeps c.args.script))

pub returns-clause-setup : goal.returns-clause-setup
returns-clause-setup c = let begun = c.in_ok-machine.ensures c.args.policy in rw (c.in_ok-serving.ensures.ok, begun.script, c.in_ok-keeper.ensures.every) refl

pub returns-clause-events : goal.returns-clause-events
returns-clause-events c = let begun = c.in_ok-machine.ensures c.args.policy in rw c.in_ok-serving.ensures.ok begun.events
