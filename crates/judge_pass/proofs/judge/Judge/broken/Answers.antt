-- The clauses are those of an effect, of an answer, or none.
use Rattle.std.proofs.Common.{◌≡◌, false, reverse, subst, sym}
use Rattle.std.proofs.lemmas.Result.{IfOk-weaker}
use Rattle.broker_verdict.specs.Seats.{is_effect}
use Rattle.hist_model.specs.declared.event.Actor.TheVariants.{Worker}
use Rattle.hist_model.specs.declared.event.What.{What}
use Rattle.judge_pass.proofs.Judging.{first_done, nothing-done, other-kind}
use Rattle.judge_pass.proofs.judge.Judge.broken.Goals as goal

pub returns-in-Send : goal.returns-in-Send
returns-in-Send c = IfOk-weaker c.broken_by_answer.result _ _ (λ found h s.
    let P = c.args.policy.now in
    let S = c.args.script.now in
    let K = reverse c.args.before.now in
    subst (λ (what : What). found ≡ first_done P S K (Worker c.args.worker) what) (sym c.in-Send.is) (h S s))
    c.broken_by_answer.ensures

pub returns-in_default : goal.returns-in_default
returns-in_default c = λ s.
    let none : is_effect c.args.what.now ≡ false = cc in
    sym (nothing-done c.args.policy.now c.args.script.now (reverse c.args.before.now) c.args.worker c.args.what.now (other-kind c.args.what.now none c.in_default.not-Send))
