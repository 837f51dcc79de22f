-- What is found first of the clauses about reads, else of those behind them.
use Rattle.std.proofs.Common.{◌≡◌, reverse, Some, None, refl, sym, ◌∙◌}
use Rattle.std.proofs.lemmas.Result.{IfOk-weaker}
use Rattle.judge_pass.specs.Clauses.{clauses_of_reads}
use Rattle.judge_pass.proofs.FirstBroken.{first_of, then_reads}
use Rattle.judge_pass.proofs.effects.broken_for_call.Goals as goal

pub returns-in-Some : goal.returns-in-Some
returns-in-Some c = λ w n h seat is.
    let K = reverse c.args.before.now in
    let P = c.args.policy.now in
    let S = c.args.script.now in
    let at = c.args.call.now.place in
    let reads : first_of P S K w at c.args.what.now clauses_of_reads ≡ Some c.in-Some.clause = sym (c.in_ok-clause.ensures S K w n h seat is) ∙ c.in-Some.is in
    sym (then_reads P S K w at c.args.what.now (sym (c.if-asks_other.ensures K at is.called)) ∙ rw reads refl)

pub returns : goal.returns
returns c = IfOk-weaker c.broken_of_later.result _ _ (λ found e w n h seat is.
    let K = reverse c.args.before.now in
    let P = c.args.policy.now in
    let S = c.args.script.now in
    let at = c.args.call.now.place in
    let reads : first_of P S K w at c.args.what.now clauses_of_reads ≡ None = sym (c.in_ok-clause.ensures S K w n h seat is) ∙ c.in_default.is in
    e w n h seat is ∙ sym (then_reads P S K w at c.args.what.now (sym (c.if-asks_other.ensures K at is.called)) ∙ rw reads refl))
    c.broken_of_later.ensures
