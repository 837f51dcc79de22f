-- The names so far stand behind what there was.
use Rattle.std.proofs.Common.{◌≡◌, ◌++◌, take}
use Rattle.std.specs.Prelude.{codes}
use Rattle.std.specs.List.{flat_map}
use Rattle.hist_model.specs.Decisions.{rule_name}
use Rattle.policy_lint.proofs.lines.push_more_names.Given as goal

abbrev pub invariant-loop-place : goal.invariant-loop-place
invariant-loop-place l = l.line ≡ l.fn.line ++ flat_map (λ p. codes "," ++ rule_name l.rules p) (take l.place-index l.places)
