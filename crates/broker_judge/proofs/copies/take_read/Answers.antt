-- A read of the piece that is wanted is one answer more.
use Rattle.std.proofs.Common.{◌≡◌, ℕ, List, [], ap, sym, ◌∙◌, subst}
use Rattle.std.specs.Prelude.{OnOk, Ok, Err, Result}
use Rattle.arg_capture.specs.Captures.{continued, Follows}
use Rattle.sys_abi.specs.Errnos.{efault}
use Rattle.broker_judge.specs.Copied.{IsAnswer}
use Rattle.broker_judge.proofs.Planned.{answers_piece, taken}
use Rattle.broker_judge.proofs.copies.take_read.Goals as goal

pub feed-requires : goal.feed-requires
feed-requires c = answers_piece (continued c.args.capture.now []) c.args.read.now (Ok c.items.result.now) c.requires.piece
    (sym c.is_wanted.ensures.piece ∙ c.if-not-is_wanted.false) (sym c.answer.ensures ∙ c.in-Ok.is ∙ ap Ok (sym c.items.ensures)) c.requires.answered

pub returns-in-Ok : goal.returns-in-Ok
returns-in-Ok c = λ parts answers follows.
    subst (λ (l : List (Result (List ℕ) ℕ)). OnOk c.feed.result (Follows parts l c.feed.new.self))
    (sym (taken parts answers c.args.read.now (Ok c.items.result.now) (sym (c.is_wanted.ensures.follows parts answers follows) ∙ c.if-not-is_wanted.false)
    (sym c.answer.ensures ∙ c.in-Ok.is ∙ ap Ok (sym c.items.ensures))))
    (c.feed.ensures.follows parts answers follows)

pub returns-in-Err : goal.returns-in-Err
returns-in-Err c = λ parts answers follows.
    let answer : c.args.read.now.answer ≡ Err c.in-Err.field-0 = sym c.answer.ensures ∙ c.in-Err.is in
    let fault : c.in-Err.field-0 ≡ efault = subst (IsAnswer c.args.read.now.len) answer c.requires.answered in
    subst (λ (l : List (Result (List ℕ) ℕ)). OnOk c.feed-in-Err.result (Follows parts l c.feed-in-Err.new.self))
    (sym (taken parts answers c.args.read.now (Err efault) (sym (c.is_wanted.ensures.follows parts answers follows) ∙ c.if-not-is_wanted.false) (answer ∙ ap Err fault)))
    (c.feed-in-Err.ensures.follows parts answers follows)
