-- The lines of the claims so far stand behind what there was.
use Rattle.std.proofs.Common.{◌≡◌, ◌++◌, take}
use Rattle.std.specs.List.{flat_map}
use Rattle.policy_claims.specs.Told.{line_text}
use Rattle.policy_claims.proofs.telling.push_lines.Given as goal

abbrev pub invariant-loop-finding : goal.invariant-loop-finding
invariant-loop-finding l = l.text ≡ l.fn.text ++ flat_map (line_text l.policy.rules) (take l.finding-index l.findings)
