-- What tests on the entries of a list say with one more entry at its end, and what it tells that there is no fault.
-- By the laws of lists, and by cases on the tests.
use Rattle.std.proofs.Common.{◌≡◌, ℕ, zero, suc, ◌+◌, ◌<◌, ◌≤◌, List, [], ◌∷◌, ◌++◌, length, Option, Some, None, refl, ◌∙◌, arith, cond}
use Rattle.std.specs.Prelude.{Bool, true, false, slice_get}
use Rattle.std.specs.List.{list_all, list_any, count_by}
use Rattle.std.proofs.lemmas.Bool.{cond-false, and_from, and_parts, or_from, or_left, or_right, or_parts, leb-false}
use Rattle.std.proofs.lemmas.List.Folds.{list_all-append, list_any-append}
use Rattle.std.proofs.lemmas.List.Sums.{sum_by-append, sum_by-cons}
use Rattle.lex_core.specs.declared.reason.Reason.{Reason}
use Rattle.script_reader.specs.declared.error.Fault.{Fault}
use Rattle.script_reader.specs.Faults.{wrong_if, too_large_if, or_else, full}

pub all_more : {X : Type 0} (p : X → Bool) (xs : List X) (x : X) → list_all p xs ≡ true → p x ≡ true → list_all p (xs ++ x ∷ []) ≡ true
all_more p xs x h l = list_all-append p xs (x ∷ []) ∙ and_from _ _ h (and_from _ _ l refl)

pub none_more : {X : Type 0} (p : X → Bool) (xs : List X) (x : X) → list_any p xs ≡ false → p x ≡ false → list_any p (xs ++ x ∷ []) ≡ false
none_more p xs x h l = list_any-append p xs (x ∷ []) ∙ or_from _ _ h (or_from _ _ l refl)

pub any_more : {X : Type 0} (p : X → Bool) (xs : List X) (x : X) → list_any p xs ≡ true → list_any p (xs ++ x ∷ []) ≡ true
any_more p xs x h = list_any-append p xs (x ∷ []) ∙ or_left _ _ h

pub any_last : {X : Type 0} (p : X → Bool) (xs : List X) (x : X) → p x ≡ true → list_any p (xs ++ x ∷ []) ≡ true
any_last p xs x h = list_any-append p xs (x ∷ []) ∙ or_right _ _ (or_left _ _ h)

pub all_weaker : {X : Type 0} (p q : X → Bool) (xs : List X) → ((x : X) → p x ≡ true → q x ≡ true) → list_all p xs ≡ true → list_all q xs ≡ true
all_weaker p q [] w h = refl
all_weaker p q (x ∷ xs) w h = and_from _ _ (w x (and_parts _ _ h).0) (all_weaker p q xs w (and_parts _ _ h).1)

-- the last entry, and each other one
pub get_last : {X : Type 0} (xs : List X) (x : X) → slice_get (xs ++ x ∷ []) (length xs) ≡ Some x
get_last [] x = refl
get_last (y ∷ xs) x = get_last xs x

pub get_more : {X : Type 0} (xs : List X) (x : X) (n : ℕ) (y : X) → slice_get xs n ≡ Some y → slice_get (xs ++ x ∷ []) n ≡ Some y
get_more [] x n y h = cc
get_more (z ∷ xs) x zero y h = h
get_more (z ∷ xs) x (suc n) y h = get_more xs x n y h

count_none : {X : Type 0} (p : X → Bool) (xs : List X) → list_any p xs ≡ false → count_by p xs ≡ 0
count_none p [] h = refl
count_none p (x ∷ xs) h =
    let parts = or_parts (p x) (list_any p xs) h in
    let more : count_by p (x ∷ xs) ≡ cond (p x) 1 0 + count_by p xs = sum_by-cons _ x xs in
    let no : ◌≡◌ {A = ℕ} (cond (p x) 1 0) 0 = cond-false (p x) 1 0 parts.0 in
    let others : count_by p xs ≡ 0 = count_none p xs parts.1 in
    omega arith

count_either : {X : Type 0} (p : X → Bool) (xs : List X) (x : X) (passes : Bool) → p x ≡ passes → count_by p xs ≤ 1
    → (passes ≡ true → list_any p xs ≡ false) → count_by p (xs ++ x ∷ []) ≤ 1
count_either p xs x true e h n =
    let none : count_by p xs ≡ 0 = count_none p xs (n refl) in
    let more : count_by p (xs ++ x ∷ []) ≡ count_by p xs + count_by p (x ∷ []) = sum_by-append _ xs (x ∷ []) in
    let one : count_by p (x ∷ []) ≡ 1 = rw e refl in
    omega arith
count_either p xs x false e h n =
    let more : count_by p (xs ++ x ∷ []) ≡ count_by p xs + count_by p (x ∷ []) = sum_by-append _ xs (x ∷ []) in
    let none : count_by p (x ∷ []) ≡ 0 = rw e refl in
    omega arith

-- where none that passes is joined by another one, at most one passes
pub one_more : {X : Type 0} (p : X → Bool) (xs : List X) (x : X) → count_by p xs ≤ 1 → (p x ≡ true → list_any p xs ≡ false) → count_by p (xs ++ x ∷ []) ≤ 1
one_more p xs x h n = count_either p xs x (p x) refl h n

-- a test that can't pass fails
pub refuted : (t : Bool) → (t ≡ true → ⊥) → t ≡ false
refuted true h = absurd (h refl)
refuted false h = refl

-- ---- no fault

pub not_wrong : (b : Bool) (reason : Reason) → wrong_if b reason ≡ None → b ≡ false
not_wrong true reason h = cc
not_wrong false reason h = refl

pub not_large : (b : Bool) → too_large_if b ≡ None → b ≡ false
not_large true h = cc
not_large false h = refl

pub not_full : (limit n : ℕ) → full limit n ≡ None → n < limit
not_full limit n h = leb-false limit n (not_large _ h)

pub none_first : (fault later : Option Fault) → or_else fault later ≡ None → fault ≡ None
none_first None later h = refl
none_first (Some fault) later h = h

pub none_then : (fault later : Option Fault) → or_else fault later ≡ None → later ≡ None
none_then None later h = h
none_then (Some fault) later h = cc
