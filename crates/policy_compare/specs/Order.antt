-- The order of classes: by the place of the old policy's rule, and then by that of the new one's.
use Rattle.std.specs.Prelude.{Bool, ◌&&◌, ◌==◌}
use Rattle.std.specs.Ordering.{nat_cmp, ordering_then}
use Rattle.std.specs.declared.cmp.Ordering.{Ordering}
use Rattle.policy_classes.specs.declared.found.Class.{Class}

abbrev pub by_places : Class → Class → Ordering
by_places c d = ordering_then (nat_cmp c.old_place d.old_place) (nat_cmp c.new_place d.new_place)

-- two classes are of the same two rules
abbrev pub are_one : Class → Class → Bool
are_one c d = (c.old_place == d.old_place) && (c.new_place == d.new_place)
