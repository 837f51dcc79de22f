-- The mark is that of this rule.
use Rattle.std.proofs.Common.{None, ap, sym, ◌∙◌, arith}
use Rattle.policy_classes.specs.declared.pending.Pending.{Pending}
use Rattle.policy_classes.specs.Marks.{asked_mark}
use Rattle.policy_classes.specs.Pending.{atoms_seen}
use Rattle.policy_classes.proofs.Marked.{mark_there}
use Rattle.policy_classes.proofs.pending.left_of.Goals as goal

pub fails_by-requires-clause-asked : goal.fails_by-requires-clause-asked
fails_by-requires-clause-asked c =
    mark_there c.args.field c.args.rules.now c.args.marks.now c.loop-place.place None c.index-rules-place.result (omega arith) c.requires.marks
    ∙ ap (λ (r : Pending). asked_mark c.args.field (atoms_seen r.atoms.items)) (sym c.index-rules-place.is)
    ∙ ap (λ atoms. asked_mark c.args.field (atoms_seen atoms)) (sym c.as_slice.ensures.value)
