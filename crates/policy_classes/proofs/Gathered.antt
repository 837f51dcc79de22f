-- What is gathered of a list, element by element.
-- By the laws of lists that are joined.
use Rattle.std.proofs.Common.{◌≡◌, ℕ, ◌+◌, ◌<◌, Bool, true, false, cond, List, [], ◌∷◌, ◌++◌, append_assoc, length, take, get_or, Option, refl, ap, sym, ◌∙◌}
use Rattle.std.specs.Borrow.{Bor}
use Rattle.std.specs.List.{filter, filter_map, flat_map}
use Rattle.std.proofs.lemmas.List.{take_more}
use Rattle.std.proofs.lemmas.List.Elements.{filter_map-append}
use Rattle.policy_classes.specs.declared.atoms.Atom.{Atom}
use Rattle.policy_classes.specs.Chosen.{added, once_behind}
use Rattle.policy_classes.specs.Pending.{atoms_seen}
use Rattle.policy_classes.proofs.Seen.{atoms_seen-append}

once_behind-append : {A : Type 0} (same : A → A → Bool) (seen xs ys : List A)
    → once_behind same seen (xs ++ ys) ≡ once_behind same (once_behind same seen xs) ys
once_behind-append same seen [] ys = refl
once_behind-append same seen (x ∷ xs) ys = once_behind-append same (added same seen x) xs ys

-- what one more atom asks for
pub one_more_asked : {A : Type 0} (same : A → A → Bool) (find : Atom → Option A) (atoms : List (Bor Atom)) (i : ℕ) (d x : Bor Atom) (before after : List A)
    → i < length atoms → x ≡ get_or atoms i d → before ≡ once_behind same [] (filter_map find (atoms_seen (take i atoms)))
    → after ≡ once_behind same before (filter_map find (x.now ∷ []))
    → after ≡ once_behind same [] (filter_map find (atoms_seen (take (i + 1) atoms)))
one_more_asked same find atoms i d x before after l is was grows =
    grows ∙ ap (λ y. once_behind same before (filter_map find (y.now ∷ []))) is
    ∙ ap (λ xs. once_behind same xs (filter_map find ((get_or atoms i d).now ∷ []))) was
    ∙ sym (once_behind-append same [] (filter_map find (atoms_seen (take i atoms))) (filter_map find ((get_or atoms i d).now ∷ [])))
    ∙ ap (once_behind same []) (sym (filter_map-append find (atoms_seen (take i atoms)) ((get_or atoms i d).now ∷ [])))
    ∙ ap (λ xs. once_behind same [] (filter_map find xs)) (sym (atoms_seen-append (take i atoms) (get_or atoms i d ∷ [])))
    ∙ ap (λ xs. once_behind same [] (filter_map find (atoms_seen xs))) (sym (take_more atoms i d l))

pub filter-append : {A : Type 0} (test : A → Bool) (xs ys : List A) → filter test (xs ++ ys) ≡ filter test xs ++ filter test ys
filter-append test [] ys = refl
filter-append test (x ∷ xs) ys = by (test x) (filter-append test xs ys)
  where
    by : (b : Bool) → filter test (xs ++ ys) ≡ filter test xs ++ filter test ys
        → cond b (x ∷ filter test (xs ++ ys)) (filter test (xs ++ ys)) ≡ cond b (x ∷ filter test xs) (filter test xs) ++ filter test ys
    by true e = ap (λ zs. x ∷ zs) e
    by false e = e

pub flat_map-append : {A B : Type 0} (make : A → List B) (xs ys : List A) → flat_map make (xs ++ ys) ≡ flat_map make xs ++ flat_map make ys
flat_map-append make [] ys = refl
flat_map-append make (x ∷ xs) ys = ap (λ zs. make x ++ zs) (flat_map-append make xs ys) ∙ sym (append_assoc (make x) (flat_map make xs) (flat_map make ys))
