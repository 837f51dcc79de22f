-- What comes of the ledger that was read, and that it was one.
use Rattle.std.specs.Option.{option_map}
use Rattle.broker_core.specs.Answers.{told}
use Rattle.worker_ledger.specs.Successors.{HasResumed}
use Rattle.worker_ledger.proofs.Fitting.{came, was_found}
use Rattle.worker_ledger.proofs.successor.take_over.Goals as goal

pub returns-in-Some-clause-comes : goal.returns-in-Some-clause-comes
returns-in-Some-clause-comes c =
    let is : HasResumed c.args.policy.now c.args.figures c.args.no c.args.bytes.now c.in-Some.successor = rw c.in-Some.is at c.in_ok-successor.ensures in
    came c.args.policy.now c.args.figures c.args.no c.args.taken (option_map (λ g. told g.now) c.args.last) c.args.bytes.now c.in-Some.successor c.caught_up.result is (λ own r. c.caught_up.ensures own r)

pub returns-in-Some-clause-found : goal.returns-in-Some-clause-found
returns-in-Some-clause-found c =
    let is : HasResumed c.args.policy.now c.args.figures c.args.no c.args.bytes.now c.in-Some.successor = rw c.in-Some.is at c.in_ok-successor.ensures in
    was_found c.args.policy.now c.args.figures c.args.no c.args.taken (option_map (λ g. told g.now) c.args.last) c.args.bytes.now c.in-Some.successor c.caught_up.result is (λ own r. c.caught_up.ensures own r)
