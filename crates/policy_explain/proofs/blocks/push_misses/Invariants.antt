-- The lines of the rules so far stand behind what there was.
use Rattle.std.proofs.Common.{◌≡◌, ◌++◌, take}
use Rattle.std.specs.List.{flat_map}
use Rattle.policy_explain.specs.Blocks.{miss_text}
use Rattle.policy_explain.proofs.blocks.push_misses.Given as goal

abbrev pub invariant-loop-rule : goal.invariant-loop-rule
invariant-loop-rule l = l.line ≡ l.fn.line ++ flat_map (miss_text l.request) (take l.rule-index l.rules)
