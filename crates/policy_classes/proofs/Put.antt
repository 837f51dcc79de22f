-- A class that is put among others: those before it are passed, and one of the same two rules is lessened.
-- By the laws of lists that are taken apart.
use Rattle.std.proofs.Common.{◌≡◌, ℕ, zero, suc, ◌+◌, ◌<◌, ◌≤◌, true, false, cond, List, [], ◌∷◌, ◌++◌, append_assoc, length, take, drop, set, get_or, refl, ap, sym, ◌∙◌, arith}
use Rattle.std.proofs.Math.Seq.{drop-cons}
use Rattle.std.proofs.lemmas.List.{drop_all, take_all, take_more}
use Rattle.policy_classes.specs.declared.found.Class.{Class}
use Rattle.policy_classes.specs.Classes.{is_same, lesser_class, with_class}
use Rattle.policy_classes.proofs.Added.{same_places}

one_more : (k : ℕ) → suc k ≡ k + 1
one_more k = omega arith

drop_at : (found : List Class) (k : ℕ) (d : Class) → k < length found → drop k found ≡ get_or found k d ∷ drop (k + 1) found
drop_at found k d l = drop-cons found k d l ∙ ap (λ n. get_or found k d ∷ drop n found) (one_more k)

-- the classes before a place are passed
abbrev pub Passed : List Class → Class → ℕ → Type 0
Passed found c k = with_class found c ≡ take k found ++ with_class (drop k found) c

pub one_passed : (found : List Class) (c : Class) (k : ℕ) (d : Class) → k < length found → is_same (get_or found k d) c ≡ false
    → Passed found c k → Passed found c (k + 1)
one_passed found c k d l isnt h =
    h ∙ ap (λ xs. take k found ++ with_class xs c) (drop_at found k d l)
    ∙ ap (λ b. take k found ++ cond b (lesser_class (get_or found k d) c ∷ drop (k + 1) found) (get_or found k d ∷ with_class (drop (k + 1) found) c)) isnt
    ∙ sym (append_assoc (take k found) (get_or found k d ∷ []) (with_class (drop (k + 1) found) c))
    ∙ ap (λ xs. xs ++ with_class (drop (k + 1) found) c) (sym (take_more found k d l))

set_apart : (found : List Class) (k : ℕ) (c : Class) → k < length found → set found k c ≡ take k found ++ c ∷ drop (suc k) found
set_apart [] k c l = absurd (omega arith)
set_apart (x ∷ found) zero c l = refl
set_apart (x ∷ found) (suc k) c l = ap (λ xs. x ∷ xs) (set_apart found k c (omega arith))

pub is_lessened : (found : List Class) (c : Class) (k : ℕ) (d : Class) → k < length found → is_same (get_or found k d) c ≡ true
    → Passed found c k → set found k (lesser_class (get_or found k d) c) ≡ with_class found c
is_lessened found c k d l is h =
    set_apart found k (lesser_class (get_or found k d) c) l ∙ ap (λ n. take k found ++ lesser_class (get_or found k d) c ∷ drop n found) (one_more k)
    ∙ sym (h ∙ ap (λ xs. take k found ++ with_class xs c) (drop_at found k d l)
    ∙ ap (λ b. take k found ++ cond b (lesser_class (get_or found k d) c ∷ drop (k + 1) found) (get_or found k d ∷ with_class (drop (k + 1) found) c)) is)

-- where all are passed, it is added
pub all_passed : (found : List Class) (c : Class) (k : ℕ) → length found ≤ k → Passed found c k → with_class found c ≡ found ++ c ∷ []
all_passed found c k l h = h ∙ ap (λ xs. xs ++ with_class (drop k found) c) (take_all k found l) ∙ ap (λ xs. found ++ with_class xs c) (drop_all k found l)

-- the class of the same rules with another witness
lesser_at : (c d : Class) → is_same c d ≡ true
    → lesser_class c (record { old_place = c.old_place; new_place = c.new_place; witness = d.witness }) ≡ lesser_class c d
lesser_at c d h =
    let places = same_places c d h in
    ap (λ n. lesser_class c (record { old_place = n; new_place = c.new_place; witness = d.witness })) places.0
    ∙ ap (λ n. lesser_class c (record { old_place = d.old_place; new_place = n; witness = d.witness })) places.1

pub put_lessened : (found : List Class) (c : Class) (k : ℕ) (d x new : Class) → k < length found → x ≡ get_or found k d
    → new ≡ lesser_class x (record { old_place = x.old_place; new_place = x.new_place; witness = c.witness }) → is_same x c ≡ true → Passed found c k
    → set found k new ≡ with_class found c
put_lessened found c k d x new l is made same h =
    ap (set found k) (made ∙ lesser_at x c same ∙ ap (λ y. lesser_class y c) is)
    ∙ is_lessened found c k d l (ap (λ y. is_same y c) (sym is) ∙ same) h
