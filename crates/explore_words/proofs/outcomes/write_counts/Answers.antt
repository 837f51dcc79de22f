use Rattle.std.proofs.Common.{subst}
use Rattle.audit_log.specs.Written.{Wrote}
use Rattle.explore_words.proofs.outcomes.write_counts.Goals as goal

pub returns : goal.returns
returns g c =
    subst (λ text. Wrote (g.O.Sink.state c.args.out.now) text c.write_line.result (g.O.Sink.state c.write_line.new.out)) c.in_ok-line.ensures c.write_line.ensures
