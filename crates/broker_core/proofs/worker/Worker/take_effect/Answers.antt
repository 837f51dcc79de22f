use Rattle.std.proofs.Common.{◌≡◌, Some, rules}
use Rattle.broker_core.proofs.Workers.{effect_taken}
use Rattle.broker_core.proofs.worker.Worker.take_effect.Goals as goal

pub returns-clause-request : goal.returns-clause-request
returns-clause-request c = λ P own q cap r d.
    let e : c.in-Some.field-0.effect ≡ Some c.in-Some-take.request = first_of (search rules, cc) in
    effect_taken P c.args.self.now.figures own c.args.self.now.capture c.args.self.now.session c.in-Some.field-0 c.in-Some-take.request q cap c.in-Some.is r e d
