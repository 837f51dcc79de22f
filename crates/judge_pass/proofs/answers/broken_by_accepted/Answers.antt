-- What the policy says, else what came of an effect.
use Rattle.std.proofs.Common.{◌≡◌, reverse, Some, None, refl, sym, ◌∙◌}
use Rattle.std.specs.Prelude.{Ok}
use Rattle.std.proofs.lemmas.Result.{IfOk-weaker}
use Rattle.hist_model.specs.declared.event.What.TheVariants.{Send}
use Rattle.judge_pass.specs.Clauses.{clauses_of_policy}
use Rattle.judge_pass.specs.Stands.{IsSeat}
use Rattle.judge_pass.proofs.FirstBroken.{first_said, then_policy}
use Rattle.judge_pass.proofs.answers.broken_by_accepted.Goals as goal

pub returns-in-Some : goal.returns-in-Some
returns-in-Some c = λ S n id h is hand.
    let K = reverse c.args.before.now in
    let P = c.args.policy.now in
    let w = c.args.worker in
    let at = c.args.call.now.place in
    let seat : IsSeat S K w c.index.result.now = rw (← c.index.ensures) at (h.seats w c.index.result.now c.requires.worker) in
    let said : first_said P S K w at (Send id c.args.back.now (Ok tt)) clauses_of_policy ≡ Some c.in-Some.clause = sym (c.in_ok-clause.ensures S K w n id h seat is) ∙ c.in-Some.is in
    sym (then_policy P S K w at id c.args.back.now ∙ rw said refl)

pub returns : goal.returns
returns c = IfOk-weaker c.broken_by_outcome.result _ _ (λ found e S n id h is hand.
    let K = reverse c.args.before.now in
    let P = c.args.policy.now in
    let w = c.args.worker in
    let at = c.args.call.now.place in
    let seat : IsSeat S K w c.index.result.now = rw (← c.index.ensures) at (h.seats w c.index.result.now c.requires.worker) in
    let said : first_said P S K w at (Send id c.args.back.now (Ok tt)) clauses_of_policy ≡ None = sym (c.in_ok-clause.ensures S K w n id h seat is) ∙ c.in_default.is in
    e P S at id h hand ∙ sym (then_policy P S K w at id c.args.back.now ∙ rw said refl))
    c.broken_by_outcome.ensures
