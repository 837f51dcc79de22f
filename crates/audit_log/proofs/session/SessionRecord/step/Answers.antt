-- By whether the session is over, and whether it was judged.
use Rattle.audit_log.proofs.SessionSteps.{after_judged, after_heard, after_shut}
use Rattle.audit_log.proofs.session.SessionRecord.step.Goals as goal

pub returns-then-self : goal.returns-then-self
returns-then-self c = λ s p r. after_shut c.args.policy.now.rules s c.args.self.now c.args.place c.args.what.now c.args.notif.now c.args.capture.now p c.if-self.true r

pub returns-then-judged : goal.returns-then-judged
returns-then-judged c = λ s p r.
    after_judged c.args.policy.now.rules s c.args.self.now c.args.place c.args.what.now c.note.new.self c.note_back.new.kept c.note-2.new.self p c.if-self.false c.note.ensures c.note_back.ensures
    c.note-2.ensures.valid c.note-2.ensures.effect c.note-2.ensures.sent c.args.notif.now c.args.capture.now r.0 c.if-judged.true

pub returns : goal.returns
returns c = λ s p r.
    after_heard c.args.policy.now.rules s c.args.self.now c.args.place c.args.what.now c.note.new.self c.note_back.new.kept c.note-2.new.self p c.if-self.false c.note.ensures c.note_back.ensures
    c.note-2.ensures.valid c.note-2.ensures.effect c.note-2.ensures.sent
    c.args.notif.now c.args.capture.now c.hear.new.capture c.found_where-found.new.capture c.found_where-found.result c.if-judged.false r
    c.in_ok-hear.ensures c.found_where-found.ensures.found c.found_where-found.ensures.kept
