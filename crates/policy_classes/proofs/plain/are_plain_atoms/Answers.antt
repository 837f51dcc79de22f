-- Each turn shows one more atom to be plain, and at the end these are all.
use Rattle.std.proofs.Common.{arith, rules, subst}
use Rattle.std.specs.Prelude.{All}
use Rattle.std.proofs.lemmas.List.{take_all}
use Rattle.std.proofs.lemmas.List.Elements.{All-more}
use Rattle.policy_classes.specs.Choices.{IsPlainAtom}
use Rattle.policy_classes.proofs.plain.are_plain_atoms.Goals as goal

pub loop-atom-preserved : goal.loop-atom-preserved
loop-atom-preserved c =
    All-more IsPlainAtom c.args.atoms.now c.loop-atom.atom-index c.atom-item.result (omega arith) c.loop-atom.invariant
    (subst IsPlainAtom c.atom-item.is (c.is_plain_atom.ensures.0 (search rules)))

pub returns : goal.returns
returns c =
    ((λ t. subst (All IsPlainAtom) (take_all c.loop-atom.atom-index c.args.atoms.now (omega arith)) c.loop-atom.invariant), λ h. search rules)
