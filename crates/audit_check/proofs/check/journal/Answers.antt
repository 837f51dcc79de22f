-- The line of the start is read, or is a fault; then come the others.
-- By what this line makes of the pass (`Openings`).
use Rattle.std.proofs.Common.{◌+◌, ◌-◌, [], sym, ap, ◌∙◌}
use Rattle.std.proofs.lemmas.Result.{IfOk-weaker}
use Rattle.hist_model.specs.Legal.{system_of}
use Rattle.hist_model.specs.Steps.{start}
use Rattle.hist_model.specs.declared.history.History.{History}
use Rattle.model_kernel.specs.Kernels.{past}
use Rattle.audit_check.specs.Lines.{lines}
use Rattle.audit_check.proofs.Cut.{empty_text}
use Rattle.audit_check.proofs.Machines.{journal_missing}
use Rattle.audit_check.proofs.Openings.{ended_of, start_faulty, start_read}
use Rattle.audit_check.proofs.Steps.{filled}
use Rattle.audit_check.proofs.check.journal.Goals as goal

pub returns-then-is_empty : goal.returns-then-is_empty
returns-then-is_empty c bytes h =
    journal_missing c.args.policy.now c.args.script bytes c.args.left.number [] c.args.count c.args.left.text.now c.requires.some h c.requires.policy
    (empty_text c.args.left.text.now (sym c.is_empty.ensures ∙ c.if-is_empty.true))

pub is_newest_line-requires : goal.is_newest_line-requires
is_newest_line-requires c = rw c.history.ensures (filled (past c.in_ok-machine.machine.kernel) (c.in_ok-machine.ensures c.args.policy.now).served.goes_on.unclosed)

pub returns-then-not-same : goal.returns-then-not-same
returns-then-not-same c bytes h =
    let first = ap (λ (h : History). h.events) c.history.ensures ∙ (c.in_ok-machine.ensures c.args.policy.now).events in
    start_faulty c.args.policy.now c.args.script bytes c.args.left.number c.args.count c.args.left.text.now c.split_line.result.0.now c.split_line.result.1.now c.requires.some c.split_line.ensures.lines h
    c.requires.policy (sym (c.in_ok-same.ensures (start (system_of c.args.script)) [] first) ∙ c.if-not-same.true)

pub events-requires-clause-served : goal.events-requires-clause-served
events-requires-clause-served c = (c.in_ok-machine.ensures c.args.policy.now).served

pub returns : goal.returns
returns c =
    let first = ap (λ (h : History). h.events) c.history.ensures ∙ (c.in_ok-machine.ensures c.args.policy.now).events in
    let same = sym (c.in_ok-same.ensures (start (system_of c.args.script)) [] first) ∙ c.if-not-same.false in
    IfOk-weaker c.ended_at.result _ _
    (λ found tells bytes h.
    tells c.args.script bytes
    (ended_of c.args.policy.now c.args.script c.in_ok-machine.machine (c.in_ok-machine.ensures c.args.policy.now) bytes (c.args.left.number + 1) (c.args.count - 1) (lines c.split_line.result.1.now)
    c.in_ok-ended.ended (past c.events.new.machine.kernel) (c.in_ok-ended.ensures.ended bytes)
    (start_read c.args.policy.now c.args.script bytes c.args.left.number c.args.count c.args.left.text.now c.split_line.result.0.now c.split_line.result.1.now c.requires.some c.split_line.ensures.lines h same)))
    c.ended_at.ensures
