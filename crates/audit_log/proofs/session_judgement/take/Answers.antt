-- An answer that fits is fed.
use Rattle.std.proofs.Common.{rules, ◌≡◌, [], true, ap, ◌∙◌, sym}
use Rattle.std.specs.Prelude.{Err, Ok}
use Rattle.hist_model.specs.Copies.{fits_piece, wanted}
use Rattle.arg_capture.specs.Captures.{continued}
use Rattle.arg_capture.proofs.Answering.{fit_fault}
use Rattle.audit_log.proofs.SessionReads.{follows_taken}
use Rattle.audit_log.proofs.session_judgement.take.Goals as goal
use Rattle.sys_abi.specs.Errnos.{efault}

pub returns-in-Ok : goal.returns-in-Ok
returns-in-Ok c = λ parts answers f.
    let h : fits_piece (wanted (continued c.args.capture.now [])) c.args.answer.now ≡ true = search rules in
    follows_taken parts answers c.args.capture.now c.feed.new.self c.args.answer.now (Ok c.items.result.now) c.feed.result f h (c.in-Ok.is ∙ ap Ok (sym c.items.ensures)) (c.feed.ensures.follows parts answers f)

pub returns-in-Err : goal.returns-in-Err
returns-in-Err c = λ parts answers f.
    let h : fits_piece (wanted (continued c.args.capture.now [])) c.args.answer.now ≡ true = search rules in
    let k : fits_piece (wanted (continued c.args.capture.now [])) (Err c.in-Err.field-0) ≡ true = rw c.in-Err.is at h in
    follows_taken parts answers c.args.capture.now c.feed-in-Err.new.self c.args.answer.now (Err efault) c.feed-in-Err.result f h (c.in-Err.is ∙ ap Err (fit_fault (wanted (continued c.args.capture.now [])) c.in-Err.field-0 k)) (c.feed-in-Err.ensures.follows parts answers f)
