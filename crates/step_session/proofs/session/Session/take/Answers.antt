-- Each line that ends in the piece is taken, and the rest goes on.
use Rattle.std.proofs.Common.{[], refl}
use Rattle.step_session.proofs.Sessions.{continues_begun, continues_cut, continues_then, on_err, stops_cut, stops_here, stops_then}
use Rattle.step_session.proofs.session.Session.take.Goals as goal

pub returns-in_err-take_line-clause-stops : goal.returns-in_err-take_line-clause-stops
returns-in_err-take_line-clause-stops g c =
    let x = g.O.Sink.state c.args.out.now in
    let y = g.O.Sink.state c.lines.out in
    let z = g.O.Sink.state c.take_line.new.out in
    on_err c.from_residual.result _
    (stops_then c.args.origin.now c.args.self.now c.lines.self x y z c.args.piece.now c.lines.rest.now c.lines.invariant.continues
    (stops_cut c.args.origin.now c.lines.self y z c.lines.rest.now c.in-Some.line.now c.in-Some.behind.now c.in-Some.ensures.cut c.in_err-take_line.ensures.stops))

pub lines-preserved : goal.lines-preserved
lines-preserved g c =
    let x = g.O.Sink.state c.args.out.now in
    let y = g.O.Sink.state c.lines.out in
    let z = g.O.Sink.state c.take_line.new.out in
    record {
      continues = continues_then c.args.origin.now c.args.self.now c.lines.self c.take_line.new.self x y z c.args.piece.now c.lines.rest.now c.in-Some.behind.now c.lines.invariant.continues
          (continues_cut c.args.origin.now c.lines.self c.take_line.new.self y z c.lines.rest.now c.in-Some.line.now c.in-Some.behind.now c.in-Some.ensures.cut c.in_ok-take_line.ensures.continues);
      standing = c.in_ok-take_line.ensures.standing;
    }

pub returns-in_err-go_on-clause-stops : goal.returns-in_err-go_on-clause-stops
returns-in_err-go_on-clause-stops g c =
    let x = g.O.Sink.state c.args.out.now in
    let y = g.O.Sink.state c.lines.out in
    on_err c.from_residual-in_err-go_on.result _
    (stops_then c.args.origin.now c.args.self.now c.lines.self x y y c.args.piece.now c.lines.rest.now c.lines.invariant.continues (stops_here c.args.origin.now c.lines.self y c.lines.rest.now))

pub returns-clause-continues : goal.returns-clause-continues
returns-clause-continues g c =
    let x = g.O.Sink.state c.args.out.now in
    let y = g.O.Sink.state c.lines.out in
    continues_then c.args.origin.now c.args.self.now c.lines.self _ x y y c.args.piece.now c.lines.rest.now [] c.lines.invariant.continues
    (continues_begun c.args.origin.now c.lines.self _ c.lines.rest.now y c.in_ok-go_on.ensures.goes_on refl refl)
