-- Each turn of the loop reads one answer more.
use Rattle.std.proofs.Common.{◌≡◌, ◌∷◌, length, rules}
use Rattle.worker_ledger.specs.Heard.{all_heard, heard}
use Rattle.worker_ledger.proofs.Parts.{heard_more, left_more, left_next, left_none}
use Rattle.worker_ledger.proofs.reading.read_answers.Goals as goal

pub returns-in_default-2 : goal.returns-in_default-2
returns-in_default-2 c = λ own told e.
    let next : c.loop-value.left.now ≡ c.in-Some.value.now ∷ c.in-Some.rest.now = search rules in
    left_next own (all_heard c.loop-value.answers.items) c.loop-value.left.now c.in-Some.rest.now c.in-Some.value.now (c.loop-value.invariant own told e) next (λ a is v. rw c.in_default-2.is at (c.in_ok-answer.ensures a is v))

pub loop-value-preserved : goal.loop-value-preserved
loop-value-preserved c = λ own told e.
    let next : c.loop-value.left.now ≡ c.in-Some.value.now ∷ c.in-Some.rest.now = search rules in
    rw (c.in_ok-push.ensures.items, heard_more c.loop-value.answers.items c.in-Some-2.answer) (left_more own (all_heard c.loop-value.answers.items) c.loop-value.left.now c.in-Some.rest.now c.in-Some.value.now (heard c.in-Some-2.answer) (c.loop-value.invariant own told e) next
    (λ a is v. rw c.in-Some-2.is at (c.in_ok-answer.ensures a is v)))

pub returns : goal.returns
returns c = λ own told e.
    let none : length c.loop-value.left.now ≡ 0 = search rules in
    left_none own (all_heard c.loop-value.answers.items) c.loop-value.left.now (c.loop-value.invariant own told e) none
