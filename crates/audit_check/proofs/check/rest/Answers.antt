-- What stands behind the journal is the rest of its history's report, or parts from it.
-- By what such texts have in common (`Passing`).
use Rattle.std.proofs.Common.{◌+◌, None, Some, sym, subst}
use Rattle.audit_check.specs.Pass.{Compares}
use Rattle.audit_check.specs.Reading.{rest_of}
use Rattle.audit_check.specs.Reported.{IsFaultLine}
use Rattle.audit_check.proofs.Passing.{rest_parts, rest_read}
use Rattle.audit_check.proofs.check.rest.Goals as goal

pub returns-in-None : goal.returns-in-None
returns-in-None c S bytes h =
    let P = c.args.policy.now in
    let H = c.args.history.events in
    let text = c.args.left.text.now in
    let same : Compares (rest_of P H) text None = subst (Compares (rest_of P H) text) c.in-None.is c.in_ok-compared.ensures.compares in
    (rest_read P S bytes c.requires.policy c.args.left.number H text h same, c.requires.finished, c.in_ok-tables.ensures)

pub returns-in-Some : goal.returns-in-Some
returns-in-Some c S bytes h =
    let P = c.args.policy.now in
    let H = c.args.history.events in
    let text = c.args.left.text.now in
    let parts : Compares (rest_of P H) text (Some c.in-Some.ends) = subst (Compares (rest_of P H) text) c.in-Some.is c.in_ok-compared.ensures.compares in
    subst (λ k. IsFaultLine P S bytes (c.args.left.number + k + 1)) (sym parts.2) (rest_parts P S bytes c.requires.policy c.args.left.number H text h parts.0 parts.1)
