-- Each turn of the loop adds one value more.
use Rattle.std.proofs.Common.{◌≡◌, ◌++◌, ◌∷◌, length, ap, rules, sym}
use Rattle.std.specs.Prelude.{map}
use Rattle.serde_json.specs.View.{view}
use Rattle.worker_ledger.specs.Data.{answer_data}
use Rattle.worker_ledger.specs.Heard.{all_heard}
use Rattle.worker_ledger.proofs.Texts.{all_answers, answers_more}
use Rattle.worker_ledger.proofs.Values.{all_added, one_more}
use Rattle.worker_ledger.proofs.ledger.values_of.Goals as goal

pub loop-heard-init : goal.loop-heard-init
loop-heard-init c = (ap (λ vs. map view vs ++ map answer_data (all_heard c.args.own.now)) (sym c.in_ok-values.ensures.items), λ told. told)

pub loop-heard-preserved : goal.loop-heard-preserved
loop-heard-preserved c =
    let e : c.loop-heard.left.now ≡ c.in-Some.heard.now ∷ c.in-Some.rest.now = search rules in (
      one_more _ c.loop-heard.values.items c.push.new.self.items c.loop-heard.left.now c.in-Some.rest.now c.in-Some.heard.now c.in_ok-value.field-0 e c.in_ok-push.ensures.items c.in_ok-value.ensures.value c.loop-heard.invariant.0,
      answers_more c.args.own.now c.loop-heard.left.now c.in-Some.rest.now c.in-Some.heard.now e c.in_ok-value.ensures.answer c.loop-heard.invariant.1,
    )

pub returns-clause-values : goal.returns-clause-values
returns-clause-values c =
    let none : length c.loop-heard.left.now ≡ 0 = search rules in
    all_added c.args.own.now c.loop-heard.left.now c.loop-heard.values.items none c.loop-heard.invariant.0

pub returns-clause-answers : goal.returns-clause-answers
returns-clause-answers c =
    let none : length c.loop-heard.left.now ≡ 0 = search rules in
    all_answers c.args.own.now c.loop-heard.left.now none c.loop-heard.invariant.1
