-- The names so far stand behind the line as it was.
use Rattle.std.proofs.Common.{◌≡◌, ◌++◌, take}
use Rattle.std.specs.Prelude.{codes}
use Rattle.std.specs.List.{flat_map}
use Rattle.policy_explain.proofs.flags.push_behind_commas.Given as goal

abbrev pub invariant-loop-name : goal.invariant-loop-name
invariant-loop-name l = l.line ≡ l.fn.line ++ flat_map (λ name. codes "," ++ name.now) (take l.name-index l.names)
