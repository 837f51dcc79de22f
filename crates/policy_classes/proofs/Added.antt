-- A class that is put among others is there, the others stay, and none has a greater witness than before.
-- By induction on the classes, with the order of calls, which is total.
use Rattle.std.proofs.Common.{◌≡◌, zero, suc, Bool, true, false, ◌&&◌, cond, List, [], ◌∷◌, refl, ap, sym, ◌∙◌, subst, arith}
use Rattle.std.specs.Prelude.{◌==◌, All, Any, Contains, if◌then◌else◌, ⊤}
use Rattle.std.specs.Cmp.Lexicographic.{slice_cmp}
use Rattle.std.specs.Ordering.{is_gt, is_le, nat_cmp}
use Rattle.std.specs.declared.cmp.Ordering.{Ordering}
use Rattle.std.specs.declared.cmp.Ordering.TheVariants.{Less, Equal, Greater}
use Rattle.std.proofs.lemmas.Bool.{eq-eqb, eqb-true}
use Rattle.std.proofs.lemmas.Cmp.{nat_list_cmp_total, upto}
use Rattle.std.proofs.lemmas.List.Elements.{All-cons, All-contains, All-head, All-nil, All-tail, All-weaker}
use Rattle.hist_model.specs.declared.policy.Rule.{Rule}
use Rattle.hist_model.specs.declared.request.Request.{Request}
use Rattle.policy_classes.specs.declared.found.Class.{Class}
use Rattle.policy_classes.specs.Classes.{Holds, is_same, lesser_class, with_class}
use Rattle.policy_classes.specs.Order.{is_at_most, rank}
use Rattle.policy_classes.proofs.Lists.{any_later}
use Rattle.policy_classes.proofs.Near.{and_both, and_left, and_right}

-- ---- the order of calls

not_greater : (o : Ordering) → is_le o ≡ true → is_gt o ≡ false
not_greater Less h = refl
not_greater Equal h = refl
not_greater Greater h = cc

not_greater_le : (o : Ordering) → is_gt o ≡ false → is_le o ≡ true
not_greater_le Less h = refl
not_greater_le Equal h = refl
not_greater_le Greater h = cc

pub at_most_through : (p q r : Request) → is_at_most p q ≡ true → is_at_most q r ≡ true → is_at_most p r ≡ true
at_most_through p q r g h =
    not_greater_le (slice_cmp nat_cmp (rank p) (rank r))
    (upto nat_list_cmp_total (rank p) (rank q) (rank r) (not_greater (slice_cmp nat_cmp (rank p) (rank q)) g)
    (not_greater (slice_cmp nat_cmp (rank q) (rank r)) h))

-- of two calls one is at most the other
pub at_most_other : (p q : Request) → is_at_most p q ≡ false → is_at_most q p ≡ true
at_most_other p q h = by (slice_cmp nat_cmp (rank q) (rank p)) refl
  where
    by : (o : Ordering) → slice_cmp nat_cmp (rank q) (rank p) ≡ o → is_le o ≡ true
    by Less e = refl
    by Equal e = refl
    by Greater e =
        let less : slice_cmp nat_cmp (rank p) (rank q) ≡ Less = nat_list_cmp_total.antisymm (rank p) (rank q) ∙ rw e refl in
        let so : is_at_most p q ≡ true = rw less refl in cc

-- ---- the lesser of two classes

pub same_places : (c d : Class) → is_same c d ≡ true → (c.old_place ≡ d.old_place) × (c.new_place ≡ d.new_place)
same_places c d h = (
  eqb-true c.old_place d.old_place (and_left (c.old_place == d.old_place) (c.new_place == d.new_place) h),
  eqb-true c.new_place d.new_place (and_right (c.old_place == d.old_place) (c.new_place == d.new_place) h),
)

pub are_same : (c d : Class) → c.old_place ≡ d.old_place → c.new_place ≡ d.new_place → is_same c d ≡ true
are_same c d e f = and_both (c.old_place == d.old_place) (c.new_place == d.new_place) (eq-eqb c.old_place d.old_place e) (eq-eqb c.new_place d.new_place f)

lesser_is : (P : Class → Type 0) (c d : Class) → P c → P d → P (lesser_class c d)
lesser_is P c d g h = by (is_at_most c.witness d.witness)
  where
    by : (b : Bool) → P (if b then c else d)
    by true = g
    by false = h

lesser_first : (c d : Class) (r : Request) → is_at_most c.witness r ≡ true → is_at_most (lesser_class c d).witness r ≡ true
lesser_first c d r h = by (is_at_most c.witness d.witness) refl
  where
    by : (b : Bool) → is_at_most c.witness d.witness ≡ b → is_at_most (if b then c else d).witness r ≡ true
    by true e = h
    by false e = at_most_through d.witness c.witness r (at_most_other c.witness d.witness e) h

lesser_second : (c d : Class) (r : Request) → is_at_most d.witness r ≡ true → is_at_most (lesser_class c d).witness r ≡ true
lesser_second c d r h = by (is_at_most c.witness d.witness) refl
  where
    by : (b : Bool) → is_at_most c.witness d.witness ≡ b → is_at_most (if b then c else d).witness r ≡ true
    by true e = at_most_through c.witness d.witness r e h
    by false e = h

-- ---- a class more

pub added_all : (P : Class → Type 0) (found : List Class) (d : Class) → All P found → P d → All P (with_class found d)
added_all P [] d h g = All-cons P d [] g (All-nil P)
added_all P (c ∷ found) d h g = by (is_same c d) (added_all P found d (All-tail P c found h) g)
  where
    by : (b : Bool) → All P (with_class found d) → All P (cond b (lesser_class c d ∷ found) (c ∷ with_class found d))
    by true rest = All-cons P (lesser_class c d) found (lesser_is P c d (All-head P c found h) g) (All-tail P c found h)
    by false rest = All-cons P c (with_class found d) (All-head P c found h) rest

-- no two are of the same two rules
abbrev pub AreApart : List Class → Type 0
AreApart [] = ⊤
AreApart (c ∷ found) = All (λ d. is_same c d ≡ false) found × AreApart found

lesser_same : (c d x : Class) → is_same c d ≡ true → is_same c x ≡ false → is_same (lesser_class c d) x ≡ false
lesser_same c d x same h =
    lesser_is (λ y. is_same y x ≡ false) c d h
    (let e = same_places c d same in ap (λ z. (z == x.old_place) && (d.new_place == x.new_place)) (sym e.0) ∙ ap (λ z. (c.old_place == x.old_place) && (z == x.new_place)) (sym e.1) ∙ h)

pub added_apart : (found : List Class) (d : Class) → AreApart found → AreApart (with_class found d)
added_apart [] d h = (All-nil (λ x. is_same d x ≡ false), tt)
added_apart (c ∷ found) d h = by (is_same c d) refl (added_apart found d h.1)
  where
    by : (b : Bool) → is_same c d ≡ b → AreApart (with_class found d) → AreApart (cond b (lesser_class c d ∷ found) (c ∷ with_class found d))
    by true e rest =
        (All-weaker (λ x. is_same c x ≡ false) (λ x. is_same (lesser_class c d) x ≡ false) (λ x. lesser_same c d x e) found h.0, h.1)
    by false e rest = (added_all (λ x. is_same c x ≡ false) found d h.0 e, rest)

pub apart_alone : (found : List Class) (c d : Class) → AreApart found → Contains found c → Contains found d → is_same c d ≡ true → c ≡ d
apart_alone [] c d h (k, l, e) g s = absurd (omega arith)
apart_alone (x ∷ found) c d h (zero, l, e) (zero, m, f) s = sym e ∙ f
apart_alone (x ∷ found) c d h (zero, l, e) (suc j, m, f) s =
    let apart : is_same x d ≡ false = All-contains (λ y. is_same x y ≡ false) found d h.0 (j, omega arith, f) in
    let same : is_same x d ≡ true = subst (λ y. is_same y d ≡ true) (sym e) s in cc
apart_alone (x ∷ found) c d h (suc k, l, e) (zero, m, f) s =
    let apart : is_same x c ≡ false = All-contains (λ y. is_same x y ≡ false) found c h.0 (k, omega arith, e) in
    let places = same_places c d s in
    let same : is_same x c ≡ true = subst (λ y. is_same y c ≡ true) (sym f) (are_same d c (sym places.0) (sym places.1)) in cc
apart_alone (x ∷ found) c d h (suc k, l, e) (suc j, m, f) s = apart_alone found c d h.1 (k, omega arith, e) (j, omega arith, f) s

-- ---- calls of the classes

module _ (old new : List Rule) (r : Request) where
  -- the call is of the class, whose witness is at most it
  abbrev pub Covers : Class → Type 0
  Covers c = Holds old new r c × (is_at_most c.witness r ≡ true)

  pub added_kept : (found : List Class) (d : Class) → Any Covers found → Any Covers (with_class found d)
  added_kept [] d (k, c, l, e, h) = absurd (omega arith)
  added_kept (x ∷ found) d (zero, c, l, e, h) = by (is_same x d) refl
    where
      here : Covers x
      here = subst Covers (sym e) h

      lesser_holds : is_same x d ≡ true → Holds old new r (lesser_class x d)
      lesser_holds s = let p = same_places x d s in lesser_is (Holds old new r) x d here.0 (sym p.0 ∙ here.0.0, sym p.1 ∙ here.0.1)

      by : (b : Bool) → is_same x d ≡ b → Any Covers (cond b (lesser_class x d ∷ found) (x ∷ with_class found d))
      by true s = (0, lesser_class x d, omega arith, refl, (lesser_holds s, lesser_first x d r here.1))
      by false s = (0, x, omega arith, refl, here)
  added_kept (x ∷ found) d (suc k, c, l, e, h) = by (is_same x d) (added_kept found d (k, c, omega arith, e, h))
    where
      by : (b : Bool) → Any Covers (with_class found d) → Any Covers (cond b (lesser_class x d ∷ found) (x ∷ with_class found d))
      by true rest = any_later Covers (lesser_class x d) found (k, c, omega arith, e, h)
      by false rest = any_later Covers x (with_class found d) rest

  pub added_here : (found : List Class) (d : Class) → Covers d → Any Covers (with_class found d)
  added_here [] d h = (0, d, omega arith, refl, h)
  added_here (x ∷ found) d h = by (is_same x d) refl (added_here found d h)
    where
      by : (b : Bool) → is_same x d ≡ b → Any Covers (with_class found d) → Any Covers (cond b (lesser_class x d ∷ found) (x ∷ with_class found d))
      by true s rest = (
        0,
        lesser_class x d,
        omega arith,
        refl,
        (let p = same_places x d s in lesser_is (Holds old new r) x d (p.0 ∙ h.0.0, p.1 ∙ h.0.1) h.0, lesser_second x d r h.1),
      )
      by false s rest = any_later Covers x (with_class found d) rest
