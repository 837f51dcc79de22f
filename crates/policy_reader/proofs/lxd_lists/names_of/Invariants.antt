-- The names so far are held.
use Rattle.std.proofs.Common.{take}
use Rattle.policy_reader.specs.NameSets.{HoldsNames}
use Rattle.policy_reader.proofs.lxd_lists.names_of.Given as goal

abbrev pub invariant-loop-name : goal.invariant-loop-name
invariant-loop-name l = HoldsNames (λ name. name) l.names (take l.name-index l.allowed)
