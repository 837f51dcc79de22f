-- What is told of the calls was printed, or a part of it.
use Rattle.std.proofs.Common.{ap}
use Rattle.policy_explain.specs.Blocks.{explained, explanation_of}
use Rattle.policy_words.proofs.ExplainEnds.{explained_ends}
use Rattle.policy_words.proofs.explaining.explain_bytes.Goals as goal

pub returns-in-Ok : goal.returns-in-Ok
returns-in-Ok g c =
    let rules = c.args.policy.now.rules in
    explained_ends c.args.policy.now c.args.bytes.now (explained rules c.in-Ok.calls) (g.O.Sink.state c.args.out.now) (g.O.Sink.state c.print_explained.new.out) c.print_explained.result
    (ap (explanation_of rules) c.in-Ok.ensures) (rw c.items.ensures at c.print_explained.ensures)
