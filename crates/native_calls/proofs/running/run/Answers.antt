use Rattle.native_calls.proofs.Stand.{run_answers, run_stands}
use Rattle.native_calls.proofs.running.run.Goals as goal

pub returns-clause-answer : goal.returns-clause-answer
returns-clause-answer c = run_answers c.args.container.now c.args.caller c.args.call c.args.tree.now.tree c.act.new.tree.tree c.args.groups.now c.act.new.groups c.act.result c.act.ensures.run

pub returns-clause-step : goal.returns-clause-step
returns-clause-step c = run_stands c.args.container.now c.args.caller c.args.call c.args.tree.now.tree c.act.new.tree.tree c.args.groups.now c.act.new.groups c.act.result c.act.ensures.run
