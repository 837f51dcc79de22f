-- The lines of the calls so far stand behind what there was.
use Rattle.std.proofs.Common.{◌≡◌, ◌++◌, take}
use Rattle.std.specs.List.{flat_map}
use Rattle.policy_explain.specs.Blocks.{block_text}
use Rattle.policy_explain.proofs.blocks.push_blocks.Given as goal

abbrev pub invariant-loop-call : goal.invariant-loop-call
invariant-loop-call l = l.line ≡ l.fn.line ++ flat_map (block_text l.policy.rules) (take l.call-index l.calls)
