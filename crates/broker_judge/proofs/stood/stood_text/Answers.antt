-- The bytes of the text, with the zero that ends one.
use Rattle.std.proofs.Common.{◌≡◌, ℕ, List, [], ◌∷◌, ◌++◌, ap, ◌∙◌}
use Rattle.std.proofs.lemmas.Result.{IfOk-weaker}
use Rattle.broker_judge.specs.Copied.{worth_so}
use Rattle.broker_judge.specs.Stood.{stood_from}
use Rattle.broker_judge.proofs.Standing.{stood_as_text, stood_as_value}
use Rattle.broker_judge.proofs.stood.stood_text.Goals as goal

pub returns-in_ok-push-in-Text : goal.returns-in_ok-push-in-Text
returns-in_ok-push-in-Text c =
    let all = worth_so c.args.least c.args.reads.now in
    let bytes : c.as_slice.result.now ≡ c.args.text.now ++ 0 ∷ [] = c.as_slice.ensures.value ∙ c.in_ok-push-in-Text.ensures.items ∙ ap (λ (l : List ℕ). l ++ 0 ∷ []) c.in_ok-wanted-in-Text.ensures.items in
    IfOk-weaker c.stood_bytes.result _ _ (λ b e.
    rw c.in-Text.is (e ∙ ap (stood_from all c.in-Text.addr) bytes ∙ stood_as_text all c.in-Text.addr c.in-Text.limit c.in-Text.fault c.args.text.now)) c.stood_bytes.ensures

pub returns-in-Value : goal.returns-in-Value
returns-in-Value c =
    let all = worth_so c.args.least c.args.reads.now in
    IfOk-weaker c.stood_bytes-in-Value.result _ _ (λ b e. rw c.in-Value.is (e ∙ stood_as_value all c.in-Value.addr c.in-Value.size c.args.text.now)) c.stood_bytes-in-Value.ensures
