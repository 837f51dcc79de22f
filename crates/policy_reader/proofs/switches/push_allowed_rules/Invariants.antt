-- The rules so far are those of the file systems so far.
use Rattle.std.proofs.Common.{◌≡◌, ◌++◌, take}
use Rattle.std.specs.List.{flat_map}
use Rattle.hist_model.specs.Decisions.{type_rules}
use Rattle.policy_reader.proofs.switches.push_allowed_rules.Given as goal

abbrev pub invariant-loop-fstype : goal.invariant-loop-fstype
invariant-loop-fstype l = l.rules.items ≡ l.fn.rules.items ++ flat_map (type_rules l.profile l.shift) (take l.fstype-index l.allowed)
