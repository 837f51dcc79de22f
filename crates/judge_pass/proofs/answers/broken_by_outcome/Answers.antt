-- By each kind of answer.
use Rattle.std.proofs.Common.{rules, ◌≡◌, ℤ, reverse, w64, to_z, of_z, subst, ◌∙◌}
use Rattle.std.specs.Prelude.{Ok}
use Rattle.std.proofs.lemmas.Result.{IfOk-weaker}
use Rattle.hist_model.specs.declared.event.Back.TheVariants.{Value}
use Rattle.hist_model.specs.declared.event.What.TheVariants.{Send}
use Rattle.judge_pass.specs.Clauses.{clauses_of_outcome}
use Rattle.judge_pass.specs.Stands.{IsSeat}
use Rattle.judge_pass.proofs.FirstBroken.{first_said}
use Rattle.judge_pass.proofs.SaidOutcome.{other_error}
use Rattle.judge_pass.proofs.answers.broken_by_outcome.Goals as goal

pub returns-in-Value : goal.returns-in-Value
returns-in-Value c = IfOk-weaker c.broken_by_value.result _ _ (λ found e P S at id h hand.
    let same : to_z w64 (of_z w64 c.in-Value.value) ≡ c.in-Value.value = search rules in
    rw c.in-Value.is (subst (λ (v : ℤ). found ≡ first_said P S (reverse c.args.before.now) c.args.worker at (Send id (Value v) (Ok tt)) clauses_of_outcome) same (e P S at id h hand)))
    c.broken_by_value.ensures

pub returns-in-Fail : goal.returns-in-Fail
returns-in-Fail c = λ P S at id h hand.
    let K = reverse c.args.before.now in
    let seat = c.index.result.now in
    let is : IsSeat S K c.args.worker seat = rw (← c.index.ensures) at (h.seats c.args.worker seat c.requires.worker) in
    rw c.in-Fail.is (c.broken_unless.ensures ∙ other_error P S K c.args.worker at id c.in-Fail.errno c.allows_error.result (c.allows_error.ensures P S c.args.worker h is))
