-- What holds of the classes that were found holds of these once they are in order.
use Rattle.policy_classes.specs.Classes.{HasWitness, IsLeast}
use Rattle.policy_compare.proofs.Kept.{all_kept, class_kept}
use Rattle.policy_compare.proofs.ordered_classes.Goals as goal

pub returns-clause-witnesses : goal.returns-clause-witnesses
returns-clause-witnesses c =
    rw c.new.ensures (all_kept (HasWitness c.args.old.now c.args.new.now) _ _ c.in_ok-sorted.ensures.known c.in_ok-found.ensures.witnesses)

pub returns-clause-there : goal.returns-clause-there
returns-clause-there c = λ whole q call.
    rw c.new.ensures (class_kept c.args.old.now c.args.new.now q _ _ c.in_ok-sorted.ensures.there (c.in_ok-found.ensures.there whole q call))

pub returns-clause-least : goal.returns-clause-least
returns-clause-least c = λ whole.
    rw c.new.ensures (all_kept (IsLeast c.args.old.now c.args.new.now) _ _ c.in_ok-sorted.ensures.known (c.in_ok-found.ensures.least whole))
