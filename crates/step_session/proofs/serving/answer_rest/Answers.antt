-- Piece after piece.
use Rattle.std.proofs.Common.{◌≡◌, Err, rules, sym, subst}
use Rattle.std.specs.Prelude.{IsSome}
use Rattle.step_session.proofs.Files.{pieces_more, pieces_none, rest_ended, rest_failed, rest_unended}
use Rattle.step_session.proofs.serving.answer_rest.Goals as goal

pub pieces-init : goal.pieces-init
pieces-init g c = pieces_none c.args.origin.now c.args.session.now (g.F.Files.state c.args.files.now) (g.O.Sink.state c.args.out.now) c.requires.standing

pub answer_piece-requires-clause-opened : goal.answer_piece-requires-clause-opened
answer_piece-requires-clause-opened g c = subst IsSome (sym c.pieces.invariant.current) c.requires.opened

pub answer_piece-requires-clause-standing : goal.answer_piece-requires-clause-standing
answer_piece-requires-clause-standing g c = c.pieces.invariant.came.0

pub returns-in_err-answer_piece : goal.returns-in_err-answer_piece
returns-in_err-answer_piece g c =
    let fails : c.from_residual.result ≡ Err c.in_err-answer_piece.field-0.0 = search rules in
    rest_failed c.args.origin.now c.args.session.now c.pieces.session c.answer_piece.new.session (g.F.Files.state c.args.files.now) (g.F.Files.state c.pieces.files) (g.F.Files.state c.answer_piece.new.files)
    (g.O.Sink.state c.args.out.now) (g.O.Sink.state c.pieces.out) (g.O.Sink.state c.answer_piece.new.out) c.in_err-answer_piece.field-0.0 c.from_residual.result fails
    c.pieces.invariant c.in_err-answer_piece.ensures

pub returns-in-Ended : goal.returns-in-Ended
returns-in-Ended g c =
    rest_ended c.args.origin.now c.args.session.now c.pieces.session c.answer_piece.new.session (g.F.Files.state c.args.files.now) (g.F.Files.state c.pieces.files) (g.F.Files.state c.answer_piece.new.files)
    (g.O.Sink.state c.args.out.now) (g.O.Sink.state c.pieces.out) (g.O.Sink.state c.answer_piece.new.out) c.in_ok-answer_piece.field-0 c.in-Ended.is c.pieces.invariant c.in_ok-answer_piece.ensures

pub pieces-preserved : goal.pieces-preserved
pieces-preserved g c =
    pieces_more c.args.origin.now c.args.session.now c.pieces.session c.answer_piece.new.session (g.F.Files.state c.args.files.now) (g.F.Files.state c.pieces.files) (g.F.Files.state c.answer_piece.new.files)
    (g.O.Sink.state c.args.out.now) (g.O.Sink.state c.pieces.out) (g.O.Sink.state c.answer_piece.new.out) c.in_ok-answer_piece.field-0 c.in-Read.is c.pieces.invariant c.in_ok-answer_piece.ensures

pub returns : goal.returns
returns g c =
    rest_unended c.args.origin.now c.args.session.now c.pieces.session (g.F.Files.state c.args.files.now) (g.F.Files.state c.pieces.files)
    (g.O.Sink.state c.args.out.now) (g.O.Sink.state c.pieces.out) c.pieces.invariant
