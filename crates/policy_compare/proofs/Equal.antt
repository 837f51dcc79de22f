-- Where nothing is told of classes that are all, each call is answered alike, and calls share counters alike.
-- By the class of each call: its line would be told, and one beside the first class of its rule.
use Rattle.std.proofs.Common.{◌≡◌, ℕ, zero, suc, Bool, true, false, ◌&&◌, cond, List, [], ◌∷◌, ◌++◌, Option, Some, refl, ap, sym, ◌∙◌, subst, arith}
use Rattle.std.specs.Prelude.{◌==◌, All, Any, Contains, find, is_some, slice_get, ◌↔◌}
use Rattle.std.specs.List.{flat_map}
use Rattle.std.proofs.lemmas.Bool.{eq-eqb, eqb-true}
use Rattle.std.proofs.lemmas.List.Elements.{All-cons, All-contains, All-nil}
use Rattle.hist_model.specs.declared.policy.Rule.{Rule}
use Rattle.hist_model.specs.declared.request.Request.{Request}
use Rattle.hist_model.specs.declared.script.FilterLine.{FilterLine}
use Rattle.policy_classes.specs.declared.ending.Ending.TheVariants.{Alike}
use Rattle.policy_classes.specs.declared.found.Class.{Class}
use Rattle.policy_classes.specs.Asked.{IsCall}
use Rattle.policy_classes.specs.Classes.{Holds}
use Rattle.policy_compare.specs.Answers.{answer_of}
use Rattle.policy_compare.specs.Compared.{AreEqual, IsLimited, Share, answer_to}
use Rattle.policy_compare.specs.Lines.{all_lines, apart_lines, change_lines, class_lines, count_lines, ending_of, first_of_new, first_of_old}
use Rattle.policy_compare.specs.Lines.{is_alike, is_counted, new_rule, old_rule, share_lines, together_lines}
use Rattle.policy_compare.proofs.Same.{both, same_answer}

-- ---- lists

both_empty : {A : Type 0} (xs ys : List A) → xs ++ ys ≡ [] → (xs ≡ []) × (ys ≡ [])
both_empty [] ys h = (refl, h)
both_empty (x ∷ xs) ys h = cc

none_made : {A B : Type 0} (make : A → List B) (xs : List A) → flat_map make xs ≡ [] → All (λ x. make x ≡ []) xs
none_made make [] h = All-nil (λ x. make x ≡ [])
none_made make (x ∷ xs) h =
    let e = both_empty (make x) (flat_map make xs) h in
    All-cons (λ y. make y ≡ []) x xs e.0 (none_made make xs e.1)

-- one that passes is found, or one before it
is_found : {A : Type 0} (test : A → Bool) (xs : List A) (x : A) → Contains xs x → test x ≡ true → (y : A) × (find test xs ≡ Some y)
is_found test [] x (k, l, e) h = absurd (omega arith)
is_found {A} test (y ∷ xs) x (zero, l, e) h = (y, subst (λ b. cond b (Some y) (find test xs) ≡ Some y) (sym (subst (λ z. test z ≡ true) (sym e) h)) refl)
is_found {A} test (y ∷ xs) x (suc k, l, e) h = by (test y) (is_found test xs x (k, omega arith, e) h)
  where
    by : (b : Bool) → (z : A) × (find test xs ≡ Some z) → (z : A) × (cond b (Some y) (find test xs) ≡ Some z)
    by true f = (y, refl)
    by false f = f

-- ---- lines

alike_means : (lines : List (List ℕ)) (whole : Bool) → ending_of lines whole ≡ Alike → (lines ≡ []) × (whole ≡ true)
alike_means [] true h = (refl, refl)
alike_means [] false h = cc
alike_means (line ∷ lines) whole h = cc

no_line : {A : Type 0} (b : Bool) (line : A) → cond b [] (line ∷ []) ≡ [] → b ≡ true
no_line true line h = refl
no_line false line h = cc

no_lines : {A : Type 0} (b : Bool) (lines : List A) → b ≡ true → cond b lines [] ≡ [] → lines ≡ []
no_lines true lines e h = h
no_lines false lines e h = cc

-- ---- classes of which nothing is told

module _ (old new : List Rule) (filters : Option (List FilterLine)) (classes : List Class) (none : all_lines old new filters classes ≡ [])
    (there : (q : Request) → IsCall q → Any (Holds old new q) classes) where
  -- a class of a call
  record ClassOf (q : Request) : Type 0 where
    one : Class
    known : Contains classes one
    holds : Holds old new q one
    alike : is_alike old new one ≡ true
    shares : share_lines old new filters classes one ≡ []

  unchanged : All (λ c. change_lines old new filters c ≡ []) classes
  unchanged = none_made (change_lines old new filters) classes (both_empty (class_lines old new filters classes) (count_lines old new filters classes) none).0

  unshared : All (λ c. share_lines old new filters classes c ≡ []) classes
  unshared = none_made (share_lines old new filters classes) classes (both_empty (class_lines old new filters classes) (count_lines old new filters classes) none).1

  class_of : (q : Request) → IsCall q → ClassOf q
  class_of q call = of (there q call)
    where
      of : Any (Holds old new q) classes → ClassOf q
      of (k, c, l, e, h) = record {
        one = c;
        known = (k, l, e);
        holds = h;
        alike = no_line (is_alike old new c) _ (All-contains (λ d. change_lines old new filters d ≡ []) classes c unchanged (k, l, e));
        shares = All-contains (λ d. share_lines old new filters classes d ≡ []) classes c unshared (k, l, e);
      }

  answered : (q : Request) → IsCall q → answer_to old q ≡ answer_to new q
  answered q call =
      let k = class_of q call in
      ap (λ n. answer_of (slice_get old n)) (sym k.holds.0) ∙ same_answer (answer_of (old_rule old new k.one)) (answer_of (new_rule old new k.one)) k.alike
      ∙ ap (λ n. answer_of (slice_get new n)) k.holds.1

  -- the class of a call whose number is limited
  counted : (q : Request) (k : ClassOf q) → IsLimited old q → is_counted old new k.one ≡ true
  counted q k limited =
      let limit : is_some (answer_of (old_rule old new k.one)).times ≡ true =
      subst (λ n. is_some (answer_of (slice_get old n)).times ≡ true) (sym k.holds.0) limited in
      both (is_some (answer_of (old_rule old new k.one)).times) (is_alike old new k.one) limit k.alike

  -- nothing is told of it beside the first class of its old rule, nor of its new one
  untold : (q : Request) (k : ClassOf q) → IsLimited old q
      → (apart_lines filters (first_of_old old new classes k.one.old_place) k.one ≡ []) × (together_lines filters (first_of_new old new classes k.one.new_place) k.one ≡ [])
  untold q k limited =
      both_empty (apart_lines filters (first_of_old old new classes k.one.old_place) k.one) (together_lines filters (first_of_new old new classes k.one.new_place) k.one)
      (no_lines (is_counted old new k.one) _ (counted q k limited) k.shares)

  first_old : (q : Request) (k : ClassOf q) → IsLimited old q → (f : Class) × (first_of_old old new classes k.one.old_place ≡ Some f)
  first_old q k limited =
      is_found (λ c. (c.old_place == k.one.old_place) && is_counted old new c) classes k.one k.known
      (both (k.one.old_place == k.one.old_place) (is_counted old new k.one) (eq-eqb k.one.old_place k.one.old_place refl) (counted q k limited))

  first_new : (q : Request) (k : ClassOf q) → IsLimited old q → (f : Class) × (first_of_new old new classes k.one.new_place ≡ Some f)
  first_new q k limited =
      is_found (λ c. (c.new_place == k.one.new_place) && is_counted old new c) classes k.one k.known
      (both (k.one.new_place == k.one.new_place) (is_counted old new k.one) (eq-eqb k.one.new_place k.one.new_place refl) (counted q k limited))

  -- the first class of an old rule is of the same new one
  new_of_first : (q : Request) (k : ClassOf q) → IsLimited old q → (f : Class) → first_of_old old new classes k.one.old_place ≡ Some f → f.new_place ≡ k.one.new_place
  new_of_first q k limited f e =
      eqb-true f.new_place k.one.new_place (no_line (f.new_place == k.one.new_place) _ (subst (λ o. apart_lines filters o k.one ≡ []) e (untold q k limited).0))

  old_of_first : (q : Request) (k : ClassOf q) → IsLimited old q → (f : Class) → first_of_new old new classes k.one.new_place ≡ Some f → f.old_place ≡ k.one.old_place
  old_of_first q k limited f e =
      eqb-true f.old_place k.one.old_place (no_line (f.old_place == k.one.old_place) _ (subst (λ o. together_lines filters o k.one ≡ []) e (untold q k limited).1))

  same_new : (p q : Request) (j : ClassOf p) (k : ClassOf q) → IsLimited old p → IsLimited old q → j.one.old_place ≡ k.one.old_place → j.one.new_place ≡ k.one.new_place
  same_new p q j k a b e = by (first_old p j a)
    where
      by : (f : Class) × (first_of_old old new classes j.one.old_place ≡ Some f) → j.one.new_place ≡ k.one.new_place
      by (f, is) =
          sym (new_of_first p j a f is) ∙ new_of_first q k b f (subst (λ n. first_of_old old new classes n ≡ Some f) e is)

  same_old : (p q : Request) (j : ClassOf p) (k : ClassOf q) → IsLimited old p → IsLimited old q → j.one.new_place ≡ k.one.new_place → j.one.old_place ≡ k.one.old_place
  same_old p q j k a b e = by (first_new p j a)
    where
      by : (f : Class) × (first_of_new old new classes j.one.new_place ≡ Some f) → j.one.old_place ≡ k.one.old_place
      by (f, is) =
          sym (old_of_first p j a f is) ∙ old_of_first q k b f (subst (λ n. first_of_new old new classes n ≡ Some f) e is)

  shared : (p q : Request) → IsCall p → IsCall q → IsLimited old p → IsLimited old q → Share old p q ↔ Share new p q
  shared p q c d a b =
      let j = class_of p c in
      let k = class_of q d in (
        λ e. sym j.holds.1 ∙ same_new p q j k a b (j.holds.0 ∙ e ∙ sym k.holds.0) ∙ k.holds.1,
        λ e. sym j.holds.0 ∙ same_old p q j k a b (j.holds.1 ∙ e ∙ sym k.holds.1) ∙ k.holds.0,
      )

  equal : AreEqual old new
  equal = record { answers = answered; counters = shared }

-- a comparison that ends alike says that the policies are equal
pub ends_alike : (old new : List Rule) (filters : Option (List FilterLine)) (classes : List Class) (whole : Bool) → ending_of (all_lines old new filters classes) whole ≡ Alike
    → (whole ≡ true → (q : Request) → IsCall q → Any (Holds old new q) classes) → AreEqual old new
ends_alike old new filters classes whole h there =
    let means = alike_means (all_lines old new filters classes) whole h in
    equal old new filters classes means.0 (there means.1)
