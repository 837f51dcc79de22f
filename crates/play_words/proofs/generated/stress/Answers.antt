use Rattle.play_words.proofs.Ends.{stress_ends}
use Rattle.play_words.proofs.generated.stress.Goals as goal

pub returns : goal.returns
returns g c =
    stress_ends c.args.from c.args.count (g.O.Sink.state c.args.out.now) (g.O.Sink.state c.print_generated.new.out)
    c.print_generated.result c.generated_is_mediated.ensures c.print_generated.ensures
