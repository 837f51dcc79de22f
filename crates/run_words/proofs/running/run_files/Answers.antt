use Rattle.run_words.proofs.Runs.{run_ends}
use Rattle.run_words.specs.Runs.{by_servers}
use Rattle.run_words.proofs.running.run_files.Goals as goal

pub returns : goal.returns
returns g c =
    run_ends (g.F.Files.state c.args.files.now) (g.F.Files.state c.read_inputs.new.files) (g.O.Sink.state c.args.out.now) (g.O.Sink.state c.print_whole-printed.new.out) c.args.policy.now c.args.script.now
    (by_servers c.args.workers) c.args.every c.in_ok-ended.ended c.in_ok-policy.policy c.in_ok-policy.script c.print_whole-printed.result c.in_ok-ended.ensures.policy
    c.in_ok-ended.ensures.handed c.in_ok-policy.ensures.policy c.in_ok-policy.ensures.script c.in_ok-ended.ensures.ended c.print_whole-printed.ensures
