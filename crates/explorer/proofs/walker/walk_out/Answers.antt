use Rattle.explorer.specs.Runs.{script_in}
use Rattle.explorer.proofs.Walkers.{run_going, walk_ended}
use Rattle.explorer.proofs.walker.walk_out.Goals as goal

pub returns : goal.returns
returns c = walk_ended c.args.policy.now (script_in c.args.run) c.args.workers _ c.args.left _ _ c.in_ok-walk_on.ensures c.has_few_events.ensures c.in_ok-script.script c.in_ok-script.history.events c.in_ok-hidden.hidden.items c.in_ok-script.ensures.script c.in_ok-script.ensures.events c.in_ok-hidden.ensures

pub hidden-requires : goal.hidden-requires
hidden-requires c = record { going = (c.args.policy.now, run_going c.args.policy.now (script_in c.args.run) c.args.workers _ c.args.left _ _ c.in_ok-walk_on.ensures) }
