-- What holds of each class, and what some class holds of, where other classes are of the same rules.
-- By the class that each one came from, and by the equations of their places.
use Rattle.std.proofs.Common.{◌≡◌, true, List, sym, ◌∙◌}
use Rattle.std.specs.Prelude.{◌==◌, All, Any, Contains}
use Rattle.std.proofs.lemmas.Bool.{and_parts, eqb-true}
use Rattle.std.proofs.lemmas.List.Elements.{All-contains, All-contains_itself, All-weaker}
use Rattle.hist_model.specs.declared.policy.Rule.{Rule}
use Rattle.hist_model.specs.declared.request.Request.{Request}
use Rattle.policy_classes.specs.declared.found.Class.{Class}
use Rattle.policy_classes.specs.Classes.{Holds}
use Rattle.policy_compare.specs.Order.{are_one}

pub all_kept : (P : Class → Type 0) (found sorted : List Class) → ((c : Class) → Contains sorted c → Contains found c) → All P found → All P sorted
all_kept P found sorted known h = All-weaker (Contains sorted) P (λ c k. All-contains P found c h (known c k)) sorted (All-contains_itself sorted)

pub class_kept : (old new : List Rule) (q : Request) (found sorted : List Class) → ((c : Class) → Contains found c → Any (λ d. are_one c d ≡ true) sorted)
    → Any (Holds old new q) found → Any (Holds old new q) sorted
class_kept old new q found sorted there (k, c, l, e, h) = by (there c (k, l, e))
  where
    by : Any (λ d. are_one c d ≡ true) sorted → Any (Holds old new q) sorted
    by (j, d, m, i, one) =
        let p = and_parts (c.old_place == d.old_place) (c.new_place == d.new_place) one in
        (j, d, m, i, (sym (eqb-true c.old_place d.old_place p.0) ∙ h.0, sym (eqb-true c.new_place d.new_place p.1) ∙ h.1))
