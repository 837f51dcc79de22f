use Rattle.task_groups.proofs.Events as events
use Rattle.task_groups.proofs.laws.states_follow_events.Goals as goal

pub returns-clause-first : goal.returns-clause-first
returns-clause-first c = events.at_first

pub returns-clause-fresh : goal.returns-clause-fresh
returns-clause-fresh c = events.freshes

pub returns-clause-copy : goal.returns-clause-copy
returns-clause-copy c = events.copies_of

pub returns-clause-poke : goal.returns-clause-poke
returns-clause-poke c = events.pokes

pub returns-clause-plant : goal.returns-clause-plant
returns-clause-plant c = events.plants

pub returns-clause-install : goal.returns-clause-install
returns-clause-install c = events.installs

pub returns-clause-native : goal.returns-clause-native
returns-clause-native c = events.natives

pub returns-clause-other : goal.returns-clause-other
returns-clause-other c = events.others
