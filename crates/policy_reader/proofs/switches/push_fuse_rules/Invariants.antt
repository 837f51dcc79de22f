-- The rules so far are those of the file systems so far.
use Rattle.std.proofs.Common.{◌≡◌, ◌++◌, take}
use Rattle.std.specs.List.{flat_map}
use Rattle.hist_model.specs.Decisions.{pair_rules}
use Rattle.policy_reader.proofs.switches.push_fuse_rules.Given as goal

abbrev pub invariant-loop-pair : goal.invariant-loop-pair
invariant-loop-pair l = l.rules.items ≡ l.fn.rules.items ++ flat_map (pair_rules l.profile l.shift) (take l.pair-index l.fuse)
