-- The descriptors that are chosen stand for all, and none is greater than the one that stands for it.
-- By induction on a descriptor for which no atom asks: the one before it is asked for, or isn't.
use Rattle.std.proofs.Common.{◌≡◌, ℕ, zero, suc, ◌+◌, ◌<◌, ◌≤◌, Bool, true, false, cond, not, List, [], ◌∷◌, map, get_or, Option, Some, None, ℤ, pos, negsuc, refl, ap, sym, ◌∙◌, subst, ◌⊎◌, inl, inr, arith}
use Rattle.std.specs.Prelude.{◌==◌, All, Any, Contains, if◌then◌else◌, nat_lt}
use Rattle.std.specs.List.{filter, filter_map, list_any}
use Rattle.std.specs.Option.{option_to_list}
use Rattle.std.specs.Ordering.{int_eq}
use Rattle.std.proofs.lemmas.Bool.{eqb-true, ltb-false, ltb-true, lt-ltb}
use Rattle.std.proofs.lemmas.Bool.Decides.{Decides-int_eq}
use Rattle.std.proofs.lemmas.List.Elements.{All-append, All-contains, All-cons, All-nil, filter_passes}
use Rattle.policy_classes.specs.declared.atoms.Atom.{Atom}
use Rattle.policy_classes.specs.declared.atoms.Atom.TheVariants as atom
use Rattle.policy_classes.specs.declared.atoms.Field.TheVariants as field
use Rattle.policy_classes.specs.Asked.{is_descriptor_number}
use Rattle.policy_classes.specs.Chosen.{comes_first, descriptor_asked, descriptor_candidates, descriptor_values, descriptors_asked, fresh_descriptor, is_fresh_descriptor, next_descriptor}
use Rattle.policy_classes.specs.Fields.{descriptor, is_of, suits}
use Rattle.policy_classes.specs.Order.{descriptor_part, descriptor_rank}
use Rattle.policy_classes.specs.Standing.{Alike, DescriptorsStand, IsUpTo}
use Rattle.policy_classes.proofs.Least.{Orders, least_accepted, least_up_to}
use Rattle.policy_classes.proofs.Lists.{any_behind, any_in, any_later, any_place, contains_made, each_fails, each_found, some_passes}
use Rattle.policy_classes.proofs.Near.{and_both, and_left, and_right, not_false, not_true}
use Rattle.policy_classes.proofs.Once.{once_has}
use Rattle.policy_classes.proofs.Ranks.{number_up_to, up_to_itself}

same-int : (x y : ℤ) → int_eq x y ≡ true → x ≡ y
same-int x y h = grind (arith, Decides-int_eq)

abbrev IsRankUpTo : ℤ → ℤ → Type 0
IsRankUpTo d e = descriptor_rank d ≤ descriptor_rank e

orders : Orders comes_first IsRankUpTo
orders = record {
  itself = λ d. omega arith;
  through = λ d e g l m. omega arith;
  yes = λ d e h. let l = ltb-true (descriptor_rank d) (descriptor_rank e) h in omega arith;
  no = λ d e h. let l = ltb-false (descriptor_rank d) (descriptor_rank e) h in omega arith;
}

module _ (asked : List ℤ) where
  abbrev Fresh : ℤ → Type 0
  Fresh d = is_fresh_descriptor asked d ≡ true

  abbrev Serves : ℤ → ℤ → Type 0
  Serves d c = Fresh c × IsRankUpTo c d

  fresh_number : (d : ℤ) → Fresh d → is_descriptor_number d ≡ true
  fresh_number d h = and_left (is_descriptor_number d) (not (list_any (λ n. int_eq d n) asked)) h

  fresh_unasked : (d : ℤ) → Fresh d → list_any (λ n. int_eq d n) asked ≡ false
  fresh_unasked d h =
      not_true (list_any (λ n. int_eq d n) asked) (and_right (is_descriptor_number d) (not (list_any (λ n. int_eq d n) asked)) h)

  fresh_or_asked : (d : ℤ) → is_descriptor_number d ≡ true → Fresh d ⊎ Contains asked d
  fresh_or_asked d may = by (list_any (λ n. int_eq d n) asked) refl
    where
      of : Any (λ n. int_eq d n ≡ true) asked → Contains asked d
      of (k, n, l, e, h) = (k, l, subst (λ y. get_or asked k y ≡ y) (sym (same-int d n h)) e)

      by : (b : Bool) → list_any (λ n. int_eq d n) asked ≡ b → Fresh d ⊎ Contains asked d
      by true e = inr (of (some_passes (λ n. int_eq d n) asked e))
      by false e = inl (and_both (is_descriptor_number d) (not (list_any (λ n. int_eq d n) asked)) may (not_false (list_any (λ n. int_eq d n) asked) e))

  first_is : (d : ℤ) → Fresh d → d ≡ negsuc 99 → Any (Serves d) (descriptor_candidates asked)
  first_is d h e = (0, d, omega arith, sym e, (h, omega arith))

  next_is : (d e : ℤ) → Fresh e → next_descriptor d ≡ e → Contains asked d → Any (Serves e) (descriptor_candidates asked)
  next_is d e h same c =
      any_later (Serves e) (negsuc 99) (pos 0 ∷ negsuc 0 ∷ map next_descriptor asked)
      (any_later (Serves e) (pos 0) (negsuc 0 ∷ map next_descriptor asked)
      (any_later (Serves e) (negsuc 0) (map next_descriptor asked)
      (any_place (Serves e) (map next_descriptor asked) e (subst (Contains (map next_descriptor asked)) same (contains_made next_descriptor asked d c)) (h, omega arith))))

  through : (d e : ℤ) → IsRankUpTo d e → Any (Serves d) (descriptor_candidates asked) → Any (Serves e) (descriptor_candidates asked)
  through d e u (k, c, l, s, h) = (k, c, l, s, (h.0, let a = h.1 in omega arith))

  smaller : (n : ℕ) → nat_lt (suc n) 2147483648 ≡ true → nat_lt n 2147483648 ≡ true
  smaller n h = let l : suc n < 2147483648 = ltb-true (suc n) 2147483648 h in lt-ltb n 2147483648 (omega arith)

  of_pos : (n : ℕ) → Fresh (pos n) → Any (Serves (pos n)) (descriptor_candidates asked)
  of_pos zero h = (1, pos 0, omega arith, refl, (h, omega arith))
  of_pos (suc n) h = by (fresh_or_asked (pos n) (smaller n (fresh_number (pos (suc n)) h))) (of_pos n)
    where
      by : Fresh (pos n) ⊎ Contains asked (pos n) → (Fresh (pos n) → Any (Serves (pos n)) (descriptor_candidates asked))
          → Any (Serves (pos (suc n))) (descriptor_candidates asked)
      by (inl f) rest = through (pos n) (pos (suc n)) (omega arith) (rest f)
      by (inr c) rest = next_is (pos n) (pos (suc n)) h (ap pos (omega arith)) c

  of_neg : (n : ℕ) → Fresh (negsuc n) → Any (Serves (negsuc n)) (descriptor_candidates asked)
  of_neg zero h = (2, negsuc 0, omega arith, refl, (h, omega arith))
  of_neg (suc n) h = by (suc n == 99) refl (fresh_or_asked (negsuc n) (smaller n (fresh_number (negsuc (suc n)) h))) (of_neg n)
    where
      rank_lt : (b : Bool) → (suc n == 99) ≡ b → b ≡ false → IsRankUpTo (negsuc n) (negsuc (suc n))
      rank_lt b e f = of (n == 99)
        where
          of : (c : Bool) → (if c then 0 else n + 2147483649) ≤ (if suc n == 99 then 0 else suc n + 2147483649)
          of true = omega arith
          of false = rw (e, f) (omega arith)

      by : (b : Bool) → (suc n == 99) ≡ b → Fresh (negsuc n) ⊎ Contains asked (negsuc n) → (Fresh (negsuc n) → Any (Serves (negsuc n)) (descriptor_candidates asked))
          → Any (Serves (negsuc (suc n))) (descriptor_candidates asked)
      by true e f rest = first_is (negsuc (suc n)) h (ap negsuc (eqb-true (suc n) 99 e))
      by false e (inl f) rest = through (negsuc n) (negsuc (suc n)) (rank_lt false e refl) (rest f)
      by false e (inr c) rest = next_is (negsuc n) (negsuc (suc n)) h (ap negsuc (omega arith)) c

  served : (d : ℤ) → Fresh d → Any (Serves d) (descriptor_candidates asked)
  served (pos n) h = of_pos n h
  served (negsuc n) h = of_neg n h

  pub descriptor_there : (d : ℤ) → Fresh d → (m : ℤ) × (fresh_descriptor asked ≡ Some m) × Fresh m × IsRankUpTo m d
  descriptor_there d h = of (least_up_to comes_first (is_fresh_descriptor asked) IsRankUpTo orders (descriptor_candidates asked) d (served d h))
    where
      of : (m : ℤ) × (fresh_descriptor asked ≡ Some m) × IsRankUpTo m d → (m : ℤ) × (fresh_descriptor asked ≡ Some m) × Fresh m × IsRankUpTo m d
      of (m, e, u) = (m, e, least_accepted comes_first (is_fresh_descriptor asked) None (descriptor_candidates asked) m (λ b s. cc) e, u)

abbrev asks_descriptor : Option ℤ → ℤ → Bool
asks_descriptor (Some x) t = int_eq t x
asks_descriptor None t = false

seen_descriptor : (a : Atom) → is_of field.Dirfd a ≡ true → (t : ℤ) → suits a (descriptor (Some t)) ≡ asks_descriptor (descriptor_asked a) t
seen_descriptor (atom.Dirfd x) h t = refl
seen_descriptor a h t = cc

module _ (atoms : List Atom) where
  abbrev asked : List ℤ
  asked = descriptors_asked atoms

  abbrev Stands : ℤ → ℤ → Type 0
  Stands d e = Alike atoms field.Dirfd (descriptor (Some e)) (descriptor (Some d)) × IsUpTo (descriptor_part e) (descriptor_part d)

  other_alike : (t u : ℤ) → list_any (λ n. int_eq t n) asked ≡ false → list_any (λ n. int_eq u n) asked ≡ false
      → Alike atoms field.Dirfd (descriptor (Some u)) (descriptor (Some t))
  other_alike t u isnt none k d l o = seen_descriptor a o u ∙ by (descriptor_asked a) refl ∙ sym (seen_descriptor a o t)
    where
      a : Atom
      a = get_or atoms k d

      by : (x : Option ℤ) → descriptor_asked a ≡ x → asks_descriptor x u ≡ asks_descriptor x t
      by None e = refl
      by (Some x) e =
          let c : Contains asked x = once_has int_eq same-int [] (filter_map descriptor_asked atoms) x (inr (each_found descriptor_asked atoms k d l x e)) in
          All-contains (λ y. int_eq u y ≡ false) asked x (each_fails (λ n. int_eq u n) asked none) c
          ∙ sym (All-contains (λ y. int_eq t y ≡ false) asked x (each_fails (λ n. int_eq t n) asked isnt) c)

  kept_number : (xs : List ℤ) (d : ℤ) → Contains xs d → is_descriptor_number d ≡ true → Contains (filter is_descriptor_number xs) d
  kept_number [] d (k, l, e) h = absurd (omega arith)
  kept_number (x ∷ xs) d (zero, l, e) h = rw (ap is_descriptor_number e ∙ h) (0, omega arith, e)
  kept_number (x ∷ xs) d (suc k, l, e) h = by (is_descriptor_number x) (kept_number xs d (k, omega arith, e) h)
    where
      by : (b : Bool) → Contains (filter is_descriptor_number xs) d → Contains (cond b (x ∷ filter is_descriptor_number xs) (filter is_descriptor_number xs)) d
      by true (j, m, s) = (suc j, omega arith, s)
      by false c = c

  stands : (d : ℤ) → is_descriptor_number d ≡ true → Any (Stands d) (descriptor_values atoms)
  stands d may = of (fresh_or_asked asked d may)
    where
      of_fresh : Fresh asked d → (m : ℤ) × (fresh_descriptor asked ≡ Some m) × Fresh asked m × IsRankUpTo m d → Any (Stands d) (descriptor_values atoms)
      of_fresh f (m, e, g, u) =
          any_behind (Stands d) (filter is_descriptor_number asked) (option_to_list (fresh_descriptor asked))
          (rw (ap option_to_list e) (
            0,
            m,
            omega arith,
            refl,
            (other_alike d m (fresh_unasked asked d f) (fresh_unasked asked m g), number_up_to (descriptor_rank m) (descriptor_rank d) u),
          ))

      of : Fresh asked d ⊎ Contains asked d → Any (Stands d) (descriptor_values atoms)
      of (inr c) =
          any_in (Stands d) (filter is_descriptor_number asked) (option_to_list (fresh_descriptor asked))
          (any_place (Stands d) (filter is_descriptor_number asked) d (kept_number asked d c may) ((λ k x l o. refl), up_to_itself (descriptor_part d)))
      of (inl f) = of_fresh f (descriptor_there asked d f)

  pub descriptors_allowed : All (λ d. is_descriptor_number d ≡ true) (descriptor_values atoms)
  descriptors_allowed =
      All-append (λ d. is_descriptor_number d ≡ true) (filter is_descriptor_number asked) (option_to_list (fresh_descriptor asked))
      (filter_passes is_descriptor_number asked) (of (fresh_descriptor asked) refl)
    where
      of : (o : Option ℤ) → fresh_descriptor asked ≡ o → All (λ d. is_descriptor_number d ≡ true) (option_to_list o)
      of None e = All-nil (λ d. is_descriptor_number d ≡ true)
      of (Some m) e =
          All-cons (λ d. is_descriptor_number d ≡ true) m []
          (fresh_number asked m (least_accepted comes_first (is_fresh_descriptor asked) None (descriptor_candidates asked) m (λ b s. cc) e))
          (All-nil (λ d. is_descriptor_number d ≡ true))

pub descriptors_stand : DescriptorsStand
descriptors_stand atoms d may = stands atoms d may
