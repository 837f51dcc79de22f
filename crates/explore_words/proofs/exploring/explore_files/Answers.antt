use Rattle.explore_words.proofs.Explored.{explore_ends}
use Rattle.explore_words.proofs.exploring.explore_files.Goals as goal

pub returns : goal.returns
returns g c =
    let shown = c.print_explored.ensures in
    explore_ends (g.F.Files.state c.args.files.now) (g.F.Files.state c.read_inputs.new.files) (g.O.Sink.state c.args.out.now) (g.O.Sink.state c.print_explored.new.out) c.args.policy.now c.args.script.now
    c.args.workers c.args.delays c.in_ok-policy.policy c.in_ok-policy.script c.print_explored.result c.requires c.in_ok-policy.ensures.policy c.in_ok-policy.ensures.script
    c.keeps_rules.ensures c.explored_are_legal.ensures c.explored_are_finished.ensures c.all_finished_is_complete.ensures shown.0 shown.1 shown.2
