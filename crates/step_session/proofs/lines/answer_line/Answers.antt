-- A line that is too long, a request, and a line that is none.
use Rattle.std.proofs.Common.{arith}
use Rattle.step_session.proofs.Requests.{may_be_asked}
use Rattle.step_session.proofs.Sessions.{answered_faulty, answered_long, answered_read, on_ok, still_standing}
use Rattle.step_session.proofs.lines.answer_line.Goals as goal

pub returns-then-line-gt-LONGEST-clause-answered : goal.returns-then-line-gt-LONGEST-clause-answered
returns-then-line-gt-LONGEST-clause-answered c =
    on_ok c.push_long.result _ _ (answered_long c.args.origin.now c.args.line.now c.args.container.now c.args.answers.now c.push_long.new.answers (omega arith)) c.push_long.ensures

pub answer-requires-clause-asked : goal.answer-requires-clause-asked
answer-requires-clause-asked c = may_be_asked c.args.line.now c.in-Ok.request c.in-Ok.ensures.reading

pub returns-in-Ok-clause-answered : goal.returns-in-Ok-clause-answered
returns-in-Ok-clause-answered c =
    on_ok c.answer.result _ _
    (answered_read c.args.origin.now c.args.line.now c.in-Ok.request c.args.container.now c.answer.new.self c.args.answers.now c.answer.new.line (omega arith) c.in-Ok.ensures.reading)
    c.answer.ensures

pub returns-in-Ok-clause-standing : goal.returns-in-Ok-clause-standing
returns-in-Ok-clause-standing c =
    on_ok c.answer.result _ _
    (λ answered. still_standing c.args.origin.now c.args.line.now c.args.container.now c.answer.new.self c.args.answers.now c.answer.new.line c.requires
    (answered_read c.args.origin.now c.args.line.now c.in-Ok.request c.args.container.now c.answer.new.self c.args.answers.now c.answer.new.line (omega arith) c.in-Ok.ensures.reading answered))
    c.answer.ensures

pub returns-in-Err-Refused-clause-answered : goal.returns-in-Err-Refused-clause-answered
returns-in-Err-Refused-clause-answered c =
    let refused = rw c.in-Err-Refused.field-0-is at c.in-Err-Refused.ensures.refused in
    on_ok c.push_fault.result _ _
    (λ said. answered_faulty c.args.origin.now c.args.line.now c.in-Err-Refused.fault c.args.container.now c.args.answers.now c.push_fault.new.line (omega arith) refused (cc said))
    c.push_fault.ensures
