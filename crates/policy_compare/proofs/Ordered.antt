-- Classes that are sorted by their rules' places and then deduplicated are in order, and of the same rules.
-- By the order of pairs of numbers, and what std's `dedup` leaves.
use Rattle.std.proofs.Common.{◌≡◌, ℕ, ◌&&◌, refl, ap, sym, ◌∙◌, arith}
use Rattle.std.specs.Prelude.{◌==◌}
use Rattle.std.specs.Cmp.{IsEquivalence, IsTotalOrder, and_equiv, nat_eq_equiv, on_equiv}
use Rattle.std.specs.Ordering.{eq_by_cmp, is_eq, nat_cmp, ordering_then}
use Rattle.std.specs.declared.cmp.Ordering.{Ordering}
use Rattle.std.specs.declared.cmp.Ordering.TheVariants.{Less, Equal, Greater}
use Rattle.std.proofs.lemmas.Bool.Decides.{nat_tests}
use Rattle.std.proofs.lemmas.Cmp.{nat_cmp_total, on_total, then_total}
use Rattle.policy_classes.specs.declared.found.Class.{Class}
use Rattle.policy_compare.specs.Order.{are_one, by_places}

pub places_total : IsTotalOrder by_places
places_total = then_total (on_total (λ c. c.old_place) nat_cmp_total) (on_total (λ c. c.new_place) nat_cmp_total)

pub one_equivalence : IsEquivalence are_one
one_equivalence = and_equiv (on_equiv (λ c. c.old_place) nat_eq_equiv) (on_equiv (λ c. c.new_place) nat_eq_equiv)

number_ties : (m n : ℕ) → (m == n) ≡ is_eq (nat_cmp m n)
number_ties m n = grind (arith, nat_tests)

both_tie : (o p : Ordering) → is_eq (ordering_then o p) ≡ (is_eq o && is_eq p)
both_tie Less p = refl
both_tie Equal p = refl
both_tie Greater p = refl

pub ties : (c d : Class) → are_one c d ≡ eq_by_cmp by_places c d
ties c d =
    ap (λ b. b && (c.new_place == d.new_place)) (number_ties c.old_place d.old_place)
    ∙ ap (λ b. is_eq (nat_cmp c.old_place d.old_place) && b) (number_ties c.new_place d.new_place)
    ∙ sym (both_tie (nat_cmp c.old_place d.old_place) (nat_cmp c.new_place d.new_place))
