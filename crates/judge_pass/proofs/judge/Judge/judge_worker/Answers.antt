-- The event breaks a clause of an effect or an answer, or it is taken.
use Rattle.std.proofs.Common.{reverse, subst, sym, ◌∙◌}
use Rattle.std.proofs.lemmas.Result.{IfOk-weaker}
use Rattle.hist_model.specs.Look.{ev}
use Rattle.hist_model.specs.declared.event.Actor.TheVariants.{Worker}
use Rattle.std.specs.Prelude.{◌≡◌, ℕ, None, Some}
use Rattle.judge_pass.specs.Stands.{Judges}
use Rattle.judge_pass.proofs.Judging.{first_done, judges-broken}
use Rattle.judge_pass.proofs.judge.Judge.judge_worker.Goals as goal

pub returns-in_ok-fault-in-Some : goal.returns-in_ok-fault-in-Some
returns-in_ok-fault-in-Some c = λ s history holder.
    let P = c.args.policy.now in
    let S = c.args.script.now in
    let K = reverse c.args.before.now in
    let j = c.args.self.now in
    let w = c.from-worker.result in
    let fault = c.in_ok-fault-in-Some.fault in
    subst (λ (n : ℕ). Judges P S K (ev (Worker n) c.args.what.now) (Some fault) j) c.from-worker.ensures
    (judges-broken P S K j w c.args.what.now c.in-Some.clause fault (sym c.in-Some.is ∙ c.in_ok-broken.ensures s) c.in_ok-fault-in-Some.ensures.clause
    (c.in_ok-fault-in-Some.ensures.class s) (c.in_ok-fault-in-Some.ensures.call K s) s)

pub returns-in-None : goal.returns-in-None
returns-in-None c = IfOk-weaker c.take_step.result _ _ (λ found h s history holder.
    let P = c.args.policy.now in
    let S = c.args.script.now in
    let K = reverse c.args.before.now in
    h s history holder (subst (λ (n : ℕ). first_done P S K (Worker n) c.args.what.now ≡ None) c.from-worker.ensures (sym (c.in_ok-broken.ensures s) ∙ c.in-None.is)))
    c.take_step.ensures
