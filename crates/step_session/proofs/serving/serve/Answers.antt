-- The file is there, and what is left of it at its beginning is all of it.
use Rattle.std.proofs.Common.{sym, ◌∙◌}
use Rattle.step_session.proofs.Files.{new_standing, opened_current, served_all, served_flushed, served_part, took_nothing}
use Rattle.step_session.proofs.Sessions.{on_err}
use Rattle.step_session.proofs.serving.serve.Goals as goal

pub returns-in_err-piece-clause-part : goal.returns-in_err-piece-clause-part
returns-in_err-piece-clause-part g c =
    on_err c.from_residual-in_err-piece.result _ (took_nothing c.args.origin.now c.args.script (g.F.Files.state c.args.files.now) c.args.name.now (g.O.Sink.state c.args.out.now))

pub answer_rest-requires-clause-opened : goal.answer_rest-requires-clause-opened
answer_rest-requires-clause-opened g c =
    opened_current (g.F.Files.state c.args.files.now) (g.F.Files.state c.open.new.self) c.args.name.now c.open.result (sym c.is_err.ensures.value ∙ c.if-is_err.false) c.open.ensures

pub answer_rest-requires-clause-standing : goal.answer_rest-requires-clause-standing
answer_rest-requires-clause-standing g c = new_standing c.args.origin.now c.args.script c.in_ok-session.session c.in_ok-session.ensures

pub returns-clause-answered : goal.returns-clause-answered
returns-clause-answered g c =
    served_all c.args.origin.now c.args.script c.in_ok-session.session (g.F.Files.state c.args.files.now) (g.F.Files.state c.open.new.self) (g.F.Files.state c.answer_rest.new.files)
    (g.O.Sink.state c.args.out.now) (g.O.Sink.state c.answer_rest.new.out) c.args.name.now c.open.result (sym c.is_err.ensures.value ∙ c.if-is_err.false) c.open.ensures
    c.in_ok-session.ensures c.answer_rest.result c.answer_rest.ensures

pub returns-clause-part : goal.returns-clause-part
returns-clause-part g c =
    served_part c.args.origin.now c.args.script c.in_ok-session.session (g.F.Files.state c.args.files.now) (g.F.Files.state c.open.new.self) (g.F.Files.state c.answer_rest.new.files)
    (g.O.Sink.state c.args.out.now) (g.O.Sink.state c.answer_rest.new.out) c.args.name.now c.open.result (sym c.is_err.ensures.value ∙ c.if-is_err.false) c.open.ensures
    c.in_ok-session.ensures c.answer_rest.result c.answer_rest.ensures

pub returns-clause-flushed : goal.returns-clause-flushed
returns-clause-flushed g c =
    served_flushed c.args.origin.now c.in_ok-session.session (g.F.Files.state c.open.new.self) (g.F.Files.state c.answer_rest.new.files)
    (g.O.Sink.state c.args.out.now) (g.O.Sink.state c.answer_rest.new.out) c.answer_rest.result c.answer_rest.ensures
