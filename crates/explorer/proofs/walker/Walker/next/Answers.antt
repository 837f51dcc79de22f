use Rattle.explorer.proofs.Walkers.{comes_here, next_ended, none_next, turns_there}
use Rattle.explorer.proofs.walker.Walker.next.Goals as goal

pub returns-in-Over : goal.returns-in-Over
returns-in-Over c = none_next c.args.policy.now c.args.workers c.args.self c.in-Over.script c.in-Over.is

pub walk_out-requires-clause-come : goal.walk_out-requires-clause-come
walk_out-requires-clause-come c = comes_here c.args.policy.now c.args.workers c.args.self c.in-Walks.run' c.in-Walks.left c.in-Walks.is c.requires.going

pub next_walk-requires-clause-turns : goal.next_walk-requires-clause-turns
next_walk-requires-clause-turns c = turns_there c.args.policy.now _ c.args.workers _ _ _ _ _ _ c.in_ok-script-in-Walks.ensures

pub returns-in_ok-next-in-Walks : goal.returns-in_ok-next-in-Walks
returns-in_ok-next-in-Walks c = λ S walks g.
    next_ended c.args.policy.now c.args.workers c.args.self c.in-Walks.run' c.in-Walks.left c.in-Walks.is S walks g _ _ _ _ c.in_ok-script-in-Walks.ensures _ c.in_ok-next-in-Walks.ensures
