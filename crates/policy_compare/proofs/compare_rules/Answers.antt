-- What the ending says of all calls follows from the classes that are told.
use Rattle.std.proofs.Common.{sym, ◌∙◌}
use Rattle.policy_compare.proofs.Different.{ends_otherwise}
use Rattle.policy_compare.proofs.Equal.{ends_alike}
use Rattle.policy_compare.proofs.compare_rules.Goals as goal

pub returns-clause-equal : goal.returns-clause-equal
returns-clause-equal c =
    let ending = rw c.items.ensures at c.in_ok-told.ensures.ending in
    λ e. ends_alike c.args.old.now c.args.new.now _ _ _ (sym ending ∙ e) c.in_ok-found.ensures.there

pub returns-clause-unequal : goal.returns-clause-unequal
returns-clause-unequal c =
    let ending = rw c.items.ensures at c.in_ok-told.ensures.ending in
    λ e equal. ends_otherwise c.args.old.now c.args.new.now _ _ _ (sym ending ∙ e) c.in_ok-found.ensures.witnesses equal
