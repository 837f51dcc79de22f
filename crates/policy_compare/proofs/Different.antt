-- Where something is told of classes, the policies aren't equal.
-- By the witnesses of the class whose line is told, and of the first class of its rule: equal policies answer and count these alike.
use Rattle.std.proofs.Common.{◌≡◌, ℕ, suc, Bool, true, false, ◌&&◌, cond, List, [], ◌∷◌, ◌++◌, Option, Some, None, refl, ap, sym, ◌∙◌, subst, ◌⊎◌, inl, inr, arith}
use Rattle.std.specs.Prelude.{◌==◌, All, Any, Contains, find, is_some, slice_get, ⊤}
use Rattle.std.specs.List.{flat_map}
use Rattle.std.proofs.lemmas.Bool.{and_parts, both_ways, eq-eqb, eqb-true}
use Rattle.std.proofs.lemmas.List.Elements.{All-contains}
use Rattle.hist_model.specs.declared.policy.Rule.{Rule}
use Rattle.hist_model.specs.declared.script.FilterLine.{FilterLine}
use Rattle.policy_classes.specs.declared.ending.Ending.TheVariants.{Otherwise}
use Rattle.policy_classes.specs.declared.found.Class.{Class}
use Rattle.policy_classes.specs.Classes.{HasWitness}
use Rattle.policy_compare.specs.Answers.{answer_of, is_same}
use Rattle.policy_compare.specs.Compared.{AreEqual, IsLimited, Share}
use Rattle.policy_compare.specs.Lines.{all_lines, apart_lines, change_lines, class_lines, count_lines, ending_of, first_of_new, first_of_old}
use Rattle.policy_compare.specs.Lines.{is_alike, is_counted, new_rule, old_rule, share_lines, together_lines}
use Rattle.policy_compare.proofs.Same.{same_itself}

-- ---- lists

abbrev IsSomething : {A : Type 0} → List A → Type 0
IsSomething [] = ⊥
IsSomething (x ∷ xs) = ⊤

some_part : {A : Type 0} (xs ys : List A) → IsSomething (xs ++ ys) → IsSomething xs ⊎ IsSomething ys
some_part [] ys h = inr h
some_part (x ∷ xs) ys h = inl tt

some_made : {A B : Type 0} (make : A → List B) (xs : List A) → IsSomething (flat_map make xs) → Any (λ x. IsSomething (make x)) xs
some_made make [] h = absurd h
some_made {A} make (x ∷ xs) h = by (some_part (make x) (flat_map make xs) h) (some_made make xs)
  where
    by : IsSomething (make x) ⊎ IsSomething (flat_map make xs) → (IsSomething (flat_map make xs) → Any (λ y. IsSomething (make y)) xs)
        → Any (λ y. IsSomething (make y)) (x ∷ xs)
    by (inl g) rest = (0, x, omega arith, refl, g)
    by (inr g) rest = later (rest g)
      where
        later : Any (λ y. IsSomething (make y)) xs → Any (λ y. IsSomething (make y)) (x ∷ xs)
        later (k, y, l, e, s) = (suc k, y, omega arith, e, s)

of_found : {A : Type 0} (test : A → Bool) (xs : List A) (y : A) → find test xs ≡ Some y → Contains xs y × (test y ≡ true)
of_found test [] y h = cc
of_found {A} test (x ∷ xs) y h = by (test x) refl h (of_found test xs y)
  where
    by : (b : Bool) → test x ≡ b → cond b (Some x) (find test xs) ≡ Some y → (find test xs ≡ Some y → Contains xs y × (test y ≡ true))
        → Contains (x ∷ xs) y × (test y ≡ true)
    by true e g rest = let same : x ≡ y = cc in ((0, omega arith, same), subst (λ z. test z ≡ true) same e)
    by false e g rest = later (rest g)
      where
        later : Contains xs y × (test y ≡ true) → Contains (x ∷ xs) y × (test y ≡ true)
        later ((k, l, i), t) = ((suc k, omega arith, i), t)

line_told : {A : Type 0} (b : Bool) (line : A) → IsSomething (cond b [] (line ∷ [])) → b ≡ false
line_told true line h = absurd h
line_told false line h = refl

lines_told : {A : Type 0} (b : Bool) (lines : List A) → IsSomething (cond b lines []) → (b ≡ true) × IsSomething lines
lines_told true lines h = (refl, h)
lines_told false lines h = absurd h

otherwise_means : (lines : List (List ℕ)) (whole : Bool) → ending_of lines whole ≡ Otherwise → IsSomething lines
otherwise_means [] true h = cc
otherwise_means [] false h = cc
otherwise_means (line ∷ lines) whole h = tt

-- ---- equal policies

module _ (old new : List Rule) (filters : Option (List FilterLine)) (classes : List Class) (right : All (HasWitness old new) classes) (equal : AreEqual old new) where
  alike_all : (c : Class) → HasWitness old new c → is_alike old new c ≡ true
  alike_all c h =
      let e : answer_of (old_rule old new c) ≡ answer_of (new_rule old new c) =
      ap (λ n. answer_of (slice_get old n)) h.1 ∙ equal.answers c.witness h.0 ∙ ap (λ n. answer_of (slice_get new n)) (sym h.2) in
      subst (λ b. is_same (answer_of (old_rule old new c)) b ≡ true) e (same_itself (answer_of (old_rule old new c)))

  no_change : IsSomething (class_lines old new filters classes) → ⊥
  no_change h = by (some_made (change_lines old new filters) classes h)
    where
      by : Any (λ c. IsSomething (change_lines old new filters c)) classes → ⊥
      by (k, c, l, e, s) =
          both_ways (is_alike old new c) (line_told (is_alike old new c) _ s) (alike_all c (All-contains (HasWitness old new) classes c right (k, l, e)))

  limited : (c : Class) → HasWitness old new c → is_counted old new c ≡ true → IsLimited old c.witness
  limited c h counted =
      subst (λ n. is_some (answer_of (slice_get old n)).times ≡ true) h.1
      (and_parts (is_some (answer_of (old_rule old new c)).times) (is_alike old new c) counted).0

  -- a counted class beside the first one of its old rule
  no_apart : (d : Class) → HasWitness old new d → is_counted old new d ≡ true → (o : Option Class) → first_of_old old new classes d.old_place ≡ o
      → IsSomething (apart_lines filters o d) → ⊥
  no_apart d w counted None e s = absurd s
  no_apart d w counted (Some f) e s = by (of_found (λ c. (c.old_place == d.old_place) && is_counted old new c) classes f e)
    where
      by : Contains classes f × (((f.old_place == d.old_place) && is_counted old new f) ≡ true) → ⊥
      by (there, passes) =
          let p = and_parts (f.old_place == d.old_place) (is_counted old new f) passes in
          let v : HasWitness old new f = All-contains (HasWitness old new) classes f right there in
          let one : Share new f.witness d.witness = (equal.counters f.witness d.witness v.0 w.0 (limited f v p.1) (limited d w counted)).0
          (sym v.1 ∙ eqb-true f.old_place d.old_place p.0 ∙ w.1) in
          both_ways (f.new_place == d.new_place) (line_told (f.new_place == d.new_place) _ s)
          (eq-eqb f.new_place d.new_place (v.2 ∙ one ∙ sym w.2))

  -- and beside the first one of its new rule
  no_together : (d : Class) → HasWitness old new d → is_counted old new d ≡ true → (o : Option Class) → first_of_new old new classes d.new_place ≡ o
      → IsSomething (together_lines filters o d) → ⊥
  no_together d w counted None e s = absurd s
  no_together d w counted (Some f) e s = by (of_found (λ c. (c.new_place == d.new_place) && is_counted old new c) classes f e)
    where
      by : Contains classes f × (((f.new_place == d.new_place) && is_counted old new f) ≡ true) → ⊥
      by (there, passes) =
          let p = and_parts (f.new_place == d.new_place) (is_counted old new f) passes in
          let v : HasWitness old new f = All-contains (HasWitness old new) classes f right there in
          let one : Share old f.witness d.witness = (equal.counters f.witness d.witness v.0 w.0 (limited f v p.1) (limited d w counted)).1
          (sym v.2 ∙ eqb-true f.new_place d.new_place p.0 ∙ w.2) in
          both_ways (f.old_place == d.old_place) (line_told (f.old_place == d.old_place) _ s)
          (eq-eqb f.old_place d.old_place (v.1 ∙ one ∙ sym w.1))

  no_count : IsSomething (count_lines old new filters classes) → ⊥
  no_count h = by (some_made (share_lines old new filters classes) classes h)
    where
      by : Any (λ d. IsSomething (share_lines old new filters classes d)) classes → ⊥
      by (k, d, l, e, s) = of_two (some_part (apart_lines filters (first_of_old old new classes d.old_place) d) (together_lines filters (first_of_new old new classes d.new_place) d) told.1)
        where
          told : (is_counted old new d ≡ true)
              × IsSomething (apart_lines filters (first_of_old old new classes d.old_place) d ++ together_lines filters (first_of_new old new classes d.new_place) d)
          told = lines_told (is_counted old new d) _ s

          w : HasWitness old new d
          w = All-contains (HasWitness old new) classes d right (k, l, e)

          of_two : IsSomething (apart_lines filters (first_of_old old new classes d.old_place) d) ⊎ IsSomething (together_lines filters (first_of_new old new classes d.new_place) d) → ⊥
          of_two (inl a) = no_apart d w told.0 (first_of_old old new classes d.old_place) refl a
          of_two (inr a) = no_together d w told.0 (first_of_new old new classes d.new_place) refl a

  nothing : IsSomething (all_lines old new filters classes) → ⊥
  nothing h = by (some_part (class_lines old new filters classes) (count_lines old new filters classes) h)
    where
      by : IsSomething (class_lines old new filters classes) ⊎ IsSomething (count_lines old new filters classes) → ⊥
      by (inl a) = no_change a
      by (inr a) = no_count a

-- policies whose comparison ends otherwise aren't equal
pub ends_otherwise : (old new : List Rule) (filters : Option (List FilterLine)) (classes : List Class) (whole : Bool) → ending_of (all_lines old new filters classes) whole ≡ Otherwise
    → All (HasWitness old new) classes → AreEqual old new → ⊥
ends_otherwise old new filters classes whole h right equal =
    nothing old new filters classes right equal (otherwise_means (all_lines old new filters classes) whole h)
