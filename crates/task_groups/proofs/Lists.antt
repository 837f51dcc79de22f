-- Page lists: what their entries use, and what is listed after one was set.
-- By induction on the list, and by the laws of sums for the uses of a page.
use Rattle.std.proofs.Common.{◌≡◌, ◌≢◌, inl, inr, ℕ, ◌+◌, ◌<◌, ◌≤◌, List, [], ◌∷◌, ◌++◌, Option, Some, None, refl, sym, ap, ◌∙◌, arith}
use Rattle.std.specs.Prelude.{option_map}
use Rattle.std.specs.List.{sum_by}
use Rattle.std.proofs.lemmas.Bool.{cases_eq, eq-eqb, ne_eqb}
use Rattle.std.proofs.lemmas.List.Sums.{sum_by-cons, sum_by_push}
use Rattle.sorted_list.specs.Entries.{NumbersRise, entry_for, IsSet, at_some}
use Rattle.task_groups.specs.declared.list.PageEntry.{PageEntry}
use Rattle.task_groups.specs.Lists.{page_number, slot_of, uses_in, one_if, one_if_some}

pub uses-cons : (x : PageEntry) (xs : List PageEntry) (p : ℕ) → uses_in (x ∷ xs) p ≡ one_if x.slot p + uses_in xs p
unfolding uses_in
uses-cons x xs p = sum_by-cons (λ (e : PageEntry). one_if e.slot p) x xs

pub uses-none : (p : ℕ) → uses_in [] p ≡ 0
unfolding uses_in
uses-none p = refl

pub one-same : (p : ℕ) → one_if p p ≡ 1
one-same p = rw (eq-eqb p p refl)

pub one-other : (s p : ℕ) → s ≢ p → one_if s p ≡ 0
one-other s p h = rw (ne_eqb s p h)

has-slot : (x : PageEntry) (xs : List PageEntry) (n p : ℕ) → x.number ≡ n → slot_of (x ∷ xs) n ≡ Some p → one_if x.slot p ≡ 1
unfolding slot_of entry_for
has-slot x xs n p q h =
    let s : Some x.slot ≡ Some p = rw (eq-eqb x.number n q) at h in
    let t : x.slot ≡ p = cc in
    ap (one_if x.slot) (sym t) ∙ one-same x.slot

-- a page that is listed is in use
pub slot-uses : (xs : List PageEntry) (n p : ℕ) → slot_of xs n ≡ Some p → 0 < uses_in xs p
unfolding slot_of entry_for
slot-uses [] n p h = absurd (cc)
slot-uses (x ∷ xs) n p h =
    elim (cases_eq x.number n) [
      | inl q ↦ omega (arith, uses-cons x xs p, has-slot x xs n p q h)
      | inr q ↦ omega (arith, uses-cons x xs p, slot-uses xs n p (rw (ne_eqb x.number n q) at h))
    ]

-- at most as often as it is used
pub some-uses : (xs : List PageEntry) (n p : ℕ) → one_if_some (slot_of xs n) p ≤ uses_in xs p
some-uses xs n p = at (slot_of xs n) refl
  where
    at : (o : Option ℕ) → slot_of xs n ≡ o → one_if_some o p ≤ uses_in xs p
    at None q = omega arith
    at (Some s) q = elim (cases_eq s p) [
      | inl e ↦ omega (arith, ap (one_if s) (sym e) ∙ one-same s, slot-uses xs n p (q ∙ ap Some e))
      | inr e ↦ omega (arith, one-other s p e)
    ]

pub uses-push : (xs : List PageEntry) (x : PageEntry) (p : ℕ) → uses_in (xs ++ x ∷ []) p ≡ uses_in xs p + one_if x.slot p
unfolding uses_in
uses-push xs x p = sum_by_push (λ (e : PageEntry). one_if e.slot p) xs x

-- two numbers that have one slot use it twice
pub two-numbers : (xs : List PageEntry) (n m p : ℕ) → slot_of xs n ≡ Some p → slot_of xs m ≡ Some p → n ≢ m → 2 ≤ uses_in xs p
unfolding slot_of entry_for
two-numbers [] n m p h k d = absurd (cc)
two-numbers (x ∷ xs) n m p h k d =
    elim (cases_eq x.number n) [
      | inl q ↦ let r : x.number ≢ m = λ e. d (sym q ∙ e) in
          omega (arith, uses-cons x xs p, has-slot x xs n p q h, slot-uses xs m p (rw (ne_eqb x.number m r) at k))
      | inr q ↦ elim (cases_eq x.number m) [
        | inl r ↦ omega (arith, uses-cons x xs p, has-slot x xs m p r k, slot-uses xs n p (rw (ne_eqb x.number n q) at h))
        | inr r ↦ omega (arith, uses-cons x xs p, two-numbers xs n m p (rw (ne_eqb x.number n q) at h) (rw (ne_eqb x.number m r) at k) d)
      ]
    ]

-- the page was listed under its number, in place of the one that had it
pub record IsListed (old : List PageEntry) (e : PageEntry) (new : List PageEntry) : Type 0 where
  pub rises : NumbersRise page_number new
  pub here : slot_of new e.number ≡ Some e.slot
  pub others : (n : ℕ) → n ≢ e.number → slot_of new n ≡ slot_of old n
  pub uses : (p : ℕ) → uses_in new p + one_if_some (slot_of old e.number) p ≡ uses_in old p + one_if e.slot p

pub listed : {old new : List PageEntry} {e : PageEntry} → IsSet page_number old e.number (Some e) new
    → ((f : PageEntry → ℕ) → sum_by f new + at_some f (entry_for page_number old e.number) ≡ sum_by f old + f e) → IsListed old e new
unfolding slot_of uses_in
listed {old} {new} {e} s sums = record {
  rises = s.rise;
  here = rw (s.entries e.number, eq-eqb e.number e.number refl);
  others = λ n d. rw (s.entries n, ne_eqb n e.number d);
  uses = λ p. rw (slot-uses-one (entry_for page_number old e.number) p) (sums (λ x. one_if x.slot p));
}
  where
    slot-uses-one : (o : Option PageEntry) (p : ℕ) → one_if_some (option_map (λ (x : PageEntry). x.slot) o) p ≡ at_some (λ (x : PageEntry). one_if x.slot p) o
    slot-uses-one None p = refl
    slot-uses-one (Some x) p = refl
