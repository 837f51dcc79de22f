-- Each atom so far is plain.
use Rattle.std.proofs.Common.{take}
use Rattle.std.specs.Prelude.{All}
use Rattle.policy_classes.specs.Choices.{IsPlainAtom}
use Rattle.policy_classes.proofs.plain.are_plain_atoms.Given as goal

abbrev pub invariant-loop-atom : goal.invariant-loop-atom
invariant-loop-atom l = All IsPlainAtom (take l.atom-index l.atoms)
