-- After the sort the classes are in order, and after that each pair of rules is there once.
use Rattle.std.proofs.Common.{sym, subst, rules}
use Rattle.std.specs.Prelude.{Contains}
use Rattle.std.proofs.lemmas.Fn.{dedup_same}
use Rattle.std.proofs.lemmas.List.Kept.{Any-dedup, Contains-from_dedup, IsStrictlySortedBy-dedup}
use Rattle.std.proofs.lemmas.List.Sorted.{Contains-permutation, IsPermutation-sym, answers_always}
use Rattle.policy_compare.specs.Order.{are_one}
use Rattle.policy_compare.proofs.Ordered.{one_equivalence, places_total, ties}
use Rattle.policy_compare.proofs.order.in_order.Goals as goal

pub returns-clause-ordered : goal.returns-clause-ordered
returns-clause-ordered c =
    let is = dedup_same _ are_one _ (λ x y b f' x' y' k. search rules) _ _ c.dedup_by_key.ensures.filtered in
    let up = c.in_ok-sort_by_key.ensures.sorted (λ class. (class.old_place, class.new_place)) (answers_always _ _ _ (λ f a r g h. search rules)) in
    rw is (IsStrictlySortedBy-dedup places_total ties _ up)

pub returns-clause-known : goal.returns-clause-known
returns-clause-known c =
    let is = dedup_same _ are_one _ (λ x y b f' x' y' k. search rules) _ _ c.dedup_by_key.ensures.filtered in
    let moved = c.in_ok-sort_by_key.ensures.permutation in
    λ one h.
    subst (λ xs. Contains xs one) c.into_items-sorted.ensures
    (Contains-permutation _ _ one (IsPermutation-sym _ _ moved) (Contains-from_dedup are_one _ one (rw is at h)))

pub returns-clause-there : goal.returns-clause-there
returns-clause-there c =
    let is = dedup_same _ are_one _ (λ x y b f' x' y' k. search rules) _ _ c.dedup_by_key.ensures.filtered in
    let moved = c.in_ok-sort_by_key.ensures.permutation in
    λ one h. rw is (Any-dedup one_equivalence _ one (Contains-permutation _ _ one moved (subst (λ xs. Contains xs one) (sym c.into_items-sorted.ensures) h)))
