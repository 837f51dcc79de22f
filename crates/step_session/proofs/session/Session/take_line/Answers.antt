-- The line is answered, and then the answers are written, or not all of them, or none.
use Rattle.std.proofs.Common.{[], ◌∷◌, ◌++◌}
use Rattle.step_session.proofs.Sessions.{continues_then, continues_written, on_err, stops_then, stops_written}
use Rattle.step_session.proofs.session.Session.take_line.Goals as goal

pub returns-in_err-write-clause-stops : goal.returns-in_err-write-clause-stops
returns-in_err-write-clause-stops g c =
    let x = g.O.Sink.state c.args.out.now in
    let y = g.O.Sink.state c.write.new.out in
    on_err c.from_residual-in_err-write.result _
    (stops_then c.args.origin.now c.args.self.now c.end_line.new.self x x y (c.args.bytes.now ++ 10 ∷ []) [] (c.in_ok-end_line.ensures.continues x)
    (stops_written c.args.origin.now c.end_line.new.self x y [] _ c.in_err-write.ensures.wrote))

pub returns-in_ok-write-clause-continues : goal.returns-in_ok-write-clause-continues
returns-in_ok-write-clause-continues g c =
    let x = g.O.Sink.state c.args.out.now in
    let y = g.O.Sink.state c.write.new.out in
    continues_then c.args.origin.now c.args.self.now c.end_line.new.self c.write.new.self x x y (c.args.bytes.now ++ 10 ∷ []) [] [] (c.in_ok-end_line.ensures.continues x)
    (continues_written c.args.origin.now c.end_line.new.self c.write.new.self x y [] _ c.in_ok-write.ensures.wrote c.in_ok-write.ensures.emptied)

pub returns-else-bytes-gt-MOST_GATHERED-clause-continues : goal.returns-else-bytes-gt-MOST_GATHERED-clause-continues
returns-else-bytes-gt-MOST_GATHERED-clause-continues g c = c.in_ok-end_line.ensures.continues (g.O.Sink.state c.args.out.now)
