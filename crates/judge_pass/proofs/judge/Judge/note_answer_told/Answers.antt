-- A success that the kernel takes, or an answer that tells nothing.
use Rattle.std.proofs.Common.{refl}
use Rattle.audit_log.proofs.Recorded.{where_ok}
use Rattle.judge_pass.proofs.SentAnswers.{none-told}
use Rattle.judge_pass.proofs.judge.Judge.note_answer_told.Goals as goal

pub returns-in-Value-Ok-clause-noted : goal.returns-in-Value-Ok-clause-noted
returns-in-Value-Ok-clause-noted c = rw (c.in-Value-Ok.is-0, c.in-Value-Ok.is-1)
    (where_ok c.note_told.result (λ noted P S id h. noted P S id c.in-Value-Ok.field-0-0 h) c.note_told.ensures.noted)

pub returns-in_default : goal.returns-in_default
returns-in_default c = record {
  noted = λ P S id h. none-told _ _ c.args.self.now (rw (c.in_default.is-0, c.in_default.is-1) refl);
  rest = refl;
}
