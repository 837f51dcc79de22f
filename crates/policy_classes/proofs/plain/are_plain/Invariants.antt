-- Each rule so far is plain.
use Rattle.std.proofs.Common.{take}
use Rattle.std.specs.Prelude.{All}
use Rattle.policy_classes.specs.Plain.{IsPlainRule}
use Rattle.policy_classes.proofs.plain.are_plain.Given as goal

abbrev pub invariant-loop-place : goal.invariant-loop-place
invariant-loop-place l = All IsPlainRule (take l.place l.rules)
