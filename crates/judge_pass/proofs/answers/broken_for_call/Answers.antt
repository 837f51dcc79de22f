-- What is said of an answer that its call was given, else whether it is the first.
use Rattle.std.proofs.Common.{Bool, reverse, Some, None, ap, sym, ◌∙◌}
use Rattle.std.specs.Prelude.{if◌then◌else◌}
use Rattle.std.proofs.lemmas.Result.{IfOk-weaker}
use Rattle.broker_verdict.specs.declared.clause.Clause.TheVariants.{AnsweredAlready}
use Rattle.judge_pass.specs.Stands.{IsSeat}
use Rattle.judge_pass.proofs.FirstBroken.{then_accepted, then_second}
use Rattle.judge_pass.proofs.SaidOutcome.{not_first, own_id}
use Rattle.judge_pass.proofs.answers.broken_for_call.Goals as goal

pub returns-in-Ok : goal.returns-in-Ok
returns-in-Ok c = IfOk-weaker c.broken_by_accepted.result _ _ (λ found e S n h is hand.
    let K = reverse c.args.before.now in
    let P = c.args.policy.now in
    let at = c.args.call.now.place in
    rw c.in-Ok.is (e S n c.args.id h is hand
    ∙ sym (then_accepted P S K c.args.worker at c.args.id c.args.back.now (own_id K at c.args.call.now.called.id c.args.id is.called.id_is c.if-call-id.false))))
    c.broken_by_accepted.ensures

pub returns-in-Err : goal.returns-in-Err
returns-in-Err c = λ S n h is hand.
    let K = reverse c.args.before.now in
    let P = c.args.policy.now in
    let w = c.args.worker in
    let at = c.args.call.now.place in
    let seat : IsSeat S K w c.index.result.now = rw (← c.index.ensures) at (h.seats w c.index.result.now c.requires.worker) in
    rw c.in-Err.is (c.broken_unless.ensures ∙ not_first c.is_second-is_first.result
    ∙ ap (λ (b : Bool). if b then Some AnsweredAlready else None) (rw c.in-Err.is at (c.is_second-is_first.ensures P S w h seat))
    ∙ sym (then_second P S K w at c.args.id c.in-Err.field-0 c.args.back.now (own_id K at c.args.call.now.called.id c.args.id is.called.id_is c.if-call-id.false)))
