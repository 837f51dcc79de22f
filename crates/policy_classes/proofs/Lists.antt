-- What holds of some element or of each, where lists are joined.
-- By induction on the list.
use Rattle.std.proofs.Common.{◌≡◌, ℕ, zero, suc, ◌<◌, Bool, true, false, ◌&&◌, ◌||◌, List, [], ◌∷◌, ◌++◌, length, map, get_or, Option, Some, None, refl, ap, sym, ◌∙◌, subst, ◌⊎◌, inl, inr, arith}
use Rattle.std.specs.Prelude.{All, Any, Contains}
use Rattle.std.specs.List.{cons_option, filter_map, flat_map, list_all, list_any}
use Rattle.std.proofs.Math.ListN.{get_or-map}
use Rattle.std.proofs.lemmas.List.{length-map}
use Rattle.std.proofs.lemmas.List.Elements.{All-append, All-cons, All-head, All-nil, All-tail}

pub All-flat_map : {A B : Type 0} (Q : B → Type 0) (make : A → List B) (xs : List A) → All (λ x. All Q (make x)) xs → All Q (flat_map make xs)
All-flat_map Q make [] h = All-nil Q
All-flat_map Q make (x ∷ xs) h =
    All-append Q (make x) (flat_map make xs) (All-head (λ y. All Q (make y)) x xs h)
    (All-flat_map Q make xs (All-tail (λ y. All Q (make y)) x xs h))

pub any_later : {B : Type 0} (Q : B → Type 0) (x : B) (xs : List B) → Any Q xs → Any Q (x ∷ xs)
any_later Q x xs (k, y, l, e, h) = (suc k, y, omega arith, e, h)

pub any_in : {B : Type 0} (Q : B → Type 0) (xs ys : List B) → Any Q xs → Any Q (xs ++ ys)
any_in Q [] ys (k, y, l, e, h) = absurd (omega arith)
any_in Q (x ∷ xs) ys (zero, y, l, e, h) = (zero, y, omega arith, e, h)
any_in Q (x ∷ xs) ys (suc k, y, l, e, h) = any_later Q x (xs ++ ys) (any_in Q xs ys (k, y, omega arith, e, h))

pub any_behind : {B : Type 0} (Q : B → Type 0) (xs ys : List B) → Any Q ys → Any Q (xs ++ ys)
any_behind Q [] ys h = h
any_behind Q (x ∷ xs) ys h = any_later Q x (xs ++ ys) (any_behind Q xs ys h)

pub Any-flat_map : {A B : Type 0} (Q : B → Type 0) (make : A → List B) (xs : List A) → Any (λ x. Any Q (make x)) xs → Any Q (flat_map make xs)
Any-flat_map Q make [] (k, x, l, e, h) = absurd (omega arith)
Any-flat_map Q make (y ∷ xs) (zero, x, l, e, h) =
    any_in Q (make y) (flat_map make xs) (subst (λ z. Any Q (make z)) (sym e) h)
Any-flat_map Q make (y ∷ xs) (suc k, x, l, e, h) =
    any_behind Q (make y) (flat_map make xs) (Any-flat_map Q make xs (k, x, omega arith, e, h))

-- a test that each element passes
pub each_passes : {A : Type 0} (test : A → Bool) (xs : List A) → list_all test xs ≡ true → All (λ x. test x ≡ true) xs
each_passes test [] h = All-nil (λ x. test x ≡ true)
each_passes test (x ∷ xs) h = by (test x) refl h (each_passes test xs)
  where
    by : (b : Bool) → test x ≡ b → (b && list_all test xs) ≡ true → (list_all test xs ≡ true → All (λ y. test y ≡ true) xs)
        → All (λ y. test y ≡ true) (x ∷ xs)
    by true e g rest = All-cons (λ y. test y ≡ true) x xs e (rest g)
    by false e g rest = cc

pub any_made : {A B : Type 0} (P : B → Type 0) (make : A → B) (xs : List A) → Any (λ x. P (make x)) xs → Any P (map make xs)
any_made P make xs (k, x, l, e, h) = (k, make x, rw length-map l, get_or-map make xs k x ∙ ap make e, h)

pub contains_made : {A B : Type 0} (make : A → B) (xs : List A) (x : A) → Contains xs x → Contains (map make xs) (make x)
contains_made make xs x (k, l, e) = (k, rw length-map l, get_or-map make xs k x ∙ ap make e)

pub any_place : {A : Type 0} (P : A → Type 0) (xs : List A) (x : A) → Contains xs x → P x → Any P xs
any_place P xs x (k, l, e) h = (k, x, l, e, h)

-- a test that no element passes
pub each_fails : {A : Type 0} (test : A → Bool) (xs : List A) → list_any test xs ≡ false → All (λ x. test x ≡ false) xs
each_fails test [] h = All-nil (λ x. test x ≡ false)
each_fails test (x ∷ xs) h = by (test x) refl h (each_fails test xs)
  where
    by : (b : Bool) → test x ≡ b → (b || list_any test xs) ≡ false → (list_any test xs ≡ false → All (λ y. test y ≡ false) xs)
        → All (λ y. test y ≡ false) (x ∷ xs)
    by true e g rest = cc
    by false e g rest = All-cons (λ y. test y ≡ false) x xs e (rest g)

-- a test that some element passes
pub some_passes : {A : Type 0} (test : A → Bool) (xs : List A) → list_any test xs ≡ true → Any (λ x. test x ≡ true) xs
some_passes test [] h = cc
some_passes test (x ∷ xs) h = by (test x) refl h (some_passes test xs)
  where
    by : (b : Bool) → test x ≡ b → (b || list_any test xs) ≡ true → (list_any test xs ≡ true → Any (λ y. test y ≡ true) xs)
        → Any (λ y. test y ≡ true) (x ∷ xs)
    by true e g rest = (0, x, omega arith, refl, e)
    by false e g rest = any_later (λ y. test y ≡ true) x xs (rest g)

-- what is found of an element is among all that is found
pub each_found : {A B : Type 0} (find : A → Option B) (xs : List A) (k : ℕ) (d : A) → k < length xs → (y : B) → find (get_or xs k d) ≡ Some y
    → Contains (filter_map find xs) y
each_found find [] k d l y e = absurd (omega arith)
each_found {A} {B} find (x ∷ xs) zero d l y e = by (find x) e
  where
    by : (o : Option B) → o ≡ Some y → Contains (cons_option o (filter_map find xs)) y
    by None h = cc
    by (Some z) h = (0, omega arith, cc)
each_found {A} {B} find (x ∷ xs) (suc k) d l y e = by (find x) (each_found find xs k d (omega arith) y e)
  where
    by : (o : Option B) → Contains (filter_map find xs) y → Contains (cons_option o (filter_map find xs)) y
    by None c = c
    by (Some z) (j, m, s) = (suc j, omega arith, s)

pub all_front : {A : Type 0} (P : A → Type 0) (xs ys : List A) → All P (xs ++ ys) → All P xs
all_front P [] ys h = All-nil P
all_front P (x ∷ xs) ys h = All-cons P x xs (All-head P x (xs ++ ys) h) (all_front P xs ys (All-tail P x (xs ++ ys) h))

pub any_parts : {A : Type 0} (P : A → Type 0) (xs ys : List A) → Any P (xs ++ ys) → Any P xs ⊎ Any P ys
any_parts P [] ys h = inr h
any_parts P (x ∷ xs) ys (zero, y, l, e, h) = inl (0, y, omega arith, e, h)
any_parts P (x ∷ xs) ys (suc k, y, l, e, h) = by (any_parts P xs ys (k, y, omega arith, e, h))
  where
    by : Any P xs ⊎ Any P ys → Any P (x ∷ xs) ⊎ Any P ys
    by (inl a) = inl (any_later P x xs a)
    by (inr a) = inr a

pub any_single : {A : Type 0} (P : A → Type 0) (x : A) → Any P (x ∷ []) → P x
any_single P x (zero, y, l, e, h) = subst P (sym e) h
any_single P x (suc k, y, l, e, h) = absurd (omega arith)
