-- The line that was kept is answered, or it was too long.
use Rattle.std.proofs.Common.{refl, sym, ◌∙◌}
use Rattle.step_session.proofs.Sessions.{continues_line, continues_long, is_fresh, on_ok}
use Rattle.step_session.proofs.session.Session.end_line.Goals as goal

pub returns-in-Line-clause-continues : goal.returns-in-Line-clause-continues
returns-in-Line-clause-continues c =
    on_ok c.answer_kept.result _ _
    (λ answered out. continues_line c.args.origin.now c.args.self.now c.answer_kept.new.self c.in-Line.kept c.args.bytes.now out c.requires.line (sym c.in-Line.ensures.value)
    (is_fresh c.answer_kept.new.self.begun c.new.result (c.answer_kept.ensures.begun ∙ c.replace.ensures.after) c.new.ensures.items) answered)
    c.answer_kept.ensures.answered

pub returns-in-TooLong-clause-continues : goal.returns-in-TooLong-clause-continues
returns-in-TooLong-clause-continues c =
    on_ok c.push_long.result _ _
    (λ said out. continues_long c.args.origin.now c.args.self.now _ c.args.bytes.now out c.requires.line (sym c.in-TooLong.ensures.value)
    (is_fresh c.replace.new.dest c.new.result c.replace.ensures.after c.new.ensures.items) refl said)
    c.push_long.ensures
