-- Each way in which a piece ends.
use Rattle.std.proofs.Common.{◌≡◌, Err, refl, rules}
use Rattle.step_session.specs.Serving.{fault_of}
use Rattle.step_session.proofs.Files.{piece_ended, piece_taken, piece_unfinished, piece_unread, piece_untaken, piece_unwritten, standing_written}
use Rattle.step_session.proofs.serving.answer_piece.Goals as goal

pub returns-in_err-hand_over : goal.returns-in_err-hand_over
returns-in_err-hand_over g c =
    let fails : c.from_residual.result ≡ Err (fault_of c.in_err-hand_over.field-0.0) = search rules in
    piece_unwritten c.args.origin.now c.args.session.now c.hand_over.new.self (g.F.Files.state c.args.files.now) (g.O.Sink.state c.args.out.now) (g.O.Sink.state c.hand_over.new.out)
    c.in_err-hand_over.field-0.0 c.from_residual.result fails c.in_err-hand_over.ensures.wrote

pub returns-in_default : goal.returns-in_default
returns-in_default g c =
    piece_unread c.args.origin.now c.args.session.now c.hand_over.new.self (g.F.Files.state c.args.files.now) (g.F.Files.state c.read_piece.new.files)
    (g.O.Sink.state c.args.out.now) (g.O.Sink.state c.hand_over.new.out) c.args.piece.now c.read_piece.new.piece _ _ c.in_ok-hand_over.ensures.wrote c.in_ok-hand_over.ensures.emptied c.in_default.ensures

pub finish-requires : goal.finish-requires
finish-requires g c = standing_written c.args.origin.now c.args.session.now c.hand_over.new.self c.in_ok-hand_over.ensures.emptied c.requires.standing

pub take-requires : goal.take-requires
take-requires g c = standing_written c.args.origin.now c.args.session.now c.hand_over.new.self c.in_ok-hand_over.ensures.emptied c.requires.standing

pub returns-in_err-finish : goal.returns-in_err-finish
returns-in_err-finish g c =
    let fails : c.from_residual-in_err-finish.result ≡ Err (fault_of c.in_err-finish.field-0.0) = search rules in
    piece_unfinished c.args.origin.now c.args.session.now c.hand_over.new.self c.finish.new.self (g.F.Files.state c.args.files.now) (g.F.Files.state c.read_piece.new.files)
    (g.O.Sink.state c.args.out.now) (g.O.Sink.state c.hand_over.new.out) (g.O.Sink.state c.finish.new.out) c.args.piece.now c.read_piece.new.piece _ c.in-Ok.count c.in_err-finish.field-0.0
    c.from_residual-in_err-finish.result fails c.in_ok-hand_over.ensures.wrote c.in_ok-hand_over.ensures.emptied c.in-Ok.ensures c.if-count-eq0.true c.requires.room
    c.in_err-finish.ensures.adds c.in_err-finish.ensures.front c.in_err-finish.ensures.cause

pub returns-then-count-eq0 : goal.returns-then-count-eq0
returns-then-count-eq0 g c =
    piece_ended c.args.origin.now c.args.session.now c.hand_over.new.self c.finish.new.self (g.F.Files.state c.args.files.now) (g.F.Files.state c.read_piece.new.files)
    (g.O.Sink.state c.args.out.now) (g.O.Sink.state c.hand_over.new.out) (g.O.Sink.state c.finish.new.out) c.args.piece.now c.read_piece.new.piece _ c.in-Ok.count
    c.in_ok-hand_over.ensures.wrote c.in_ok-hand_over.ensures.emptied c.in-Ok.ensures c.if-count-eq0.true c.requires.room
    c.in_ok-finish.ensures.adds c.in_ok-finish.ensures.took c.in_ok-finish.ensures.flushed

pub returns-in_err-take : goal.returns-in_err-take
returns-in_err-take g c =
    let fails : c.from_residual-in_err-take.result ≡ Err (fault_of c.in_err-take.field-0.0) = search rules in
    piece_untaken c.args.origin.now c.args.session.now c.hand_over.new.self c.take.new.self (g.F.Files.state c.args.files.now) (g.F.Files.state c.read_piece.new.files)
    (g.O.Sink.state c.args.out.now) (g.O.Sink.state c.hand_over.new.out) (g.O.Sink.state c.take.new.out) c.args.piece.now c.read_piece.new.piece _ _ c.in-Ok.count c.in_err-take.field-0.0
    c.from_residual-in_err-take.result fails c.in_ok-hand_over.ensures.wrote c.in_ok-hand_over.ensures.emptied c.in-Ok.ensures refl c.in_err-take.ensures.stops c.in_err-take.ensures.cause

pub returns : goal.returns
returns g c =
    piece_taken c.args.origin.now c.args.session.now c.hand_over.new.self c.take.new.self (g.F.Files.state c.args.files.now) (g.F.Files.state c.read_piece.new.files)
    (g.O.Sink.state c.args.out.now) (g.O.Sink.state c.hand_over.new.out) (g.O.Sink.state c.take.new.out) c.args.piece.now c.read_piece.new.piece _ _ c.in-Ok.count
    c.in_ok-hand_over.ensures.wrote c.in_ok-hand_over.ensures.emptied c.in-Ok.ensures refl c.in_ok-take.ensures.continues c.in_ok-take.ensures.standing
