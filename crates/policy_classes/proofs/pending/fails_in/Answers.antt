-- The atoms that the iterator yields are those that the references are to.
use Rattle.std.proofs.Common.{◌&&◌, not, sym, ◌∙◌, rules, tests}
use Rattle.std.proofs.lemmas.Iterator.{YieldsList-from_slice}
use Rattle.std.proofs.lemmas.Iterator.Search.{any_from_yields_List}
use Rattle.policy_classes.specs.Atoms.{holds}
use Rattle.policy_classes.specs.Fields.{is_of}
use Rattle.policy_classes.proofs.Seen.{fails_in_seen}
use Rattle.policy_classes.proofs.pending.fails_in.Goals as goal

pub returns : goal.returns
returns c =
    let f = c.args.field in
    let q = c.args.request.now in
    any_from_yields_List (λ a. is_of f a.now && not (holds a.now q)) _ _ _ c.any.ensures.ran (YieldsList-from_slice c.args.atoms.now cc)
    (λ x b r k. search (rules, tests))
    ∙ sym (fails_in_seen f q c.args.atoms.now)
