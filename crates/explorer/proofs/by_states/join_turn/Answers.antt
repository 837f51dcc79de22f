use Rattle.explorer.proofs.AbleRuns.{still_going}
use Rattle.explorer.proofs.by_states.join_turn.Goals as goal

pub key-requires : goal.key-requires
key-requires c = record { going = still_going c.args.policy.now _ _ c.args.run c.requires.run }

pub returns-clause-level : goal.returns-clause-level
returns-clause-level c = (c.in_ok-key.key.items, c.in_ok-key.ensures, c.in_ok-join.ensures)
