use Rattle.std.specs.Prelude.{Ok}
use Rattle.step_session.specs.Serving.{PieceEnds}
use Rattle.step_session.specs.declared.serving.Next.TheVariants.{Read}
use Rattle.step_session.proofs.serving.answer_rest.Given as goal

abbrev pub invariant-pieces : goal.invariant-pieces
invariant-pieces g l =
    PieceEnds l.origin l.initial.session (g.F.Files.state l.initial.files) (g.O.Sink.state l.initial.out) (Ok Read) l.session (g.F.Files.state l.files) (g.O.Sink.state l.out)
