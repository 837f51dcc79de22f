-- Rules that refer to atoms, as lists of atoms.
-- By induction on the lists, and by `drop-cons` at the first rule that is left.
use Rattle.std.proofs.Common.{◌≡◌, ℕ, suc, ◌+◌, ◌<◌, ◌≤◌, Bool, true, false, ◌&&◌, ◌||◌, cond, not, List, [], ◌∷◌, ◌++◌, length, take, drop, length-drop, get_or, refl, ap, sym, ◌∙◌, append_assoc, append-nil, arith, add-one}
use Rattle.std.specs.List.{list_any}
use Rattle.std.specs.Borrow.{Bor}
use Rattle.std.proofs.Math.Seq.{drop-cons}
use Rattle.std.proofs.lemmas.List.{take_more}
use Rattle.hist_model.specs.declared.request.Request.{Request}
use Rattle.policy_classes.specs.declared.atoms.Atom.{Atom}
use Rattle.policy_classes.specs.declared.atoms.Field.{Field}
use Rattle.policy_classes.specs.declared.pending.Pending.{Pending}
use Rattle.policy_classes.specs.Atoms.{holds}
use Rattle.policy_classes.specs.Fields.{is_of}
use Rattle.policy_classes.specs.Pending.{atoms_seen, rule_seen, rules_seen}
use Rattle.policy_classes.specs.Search.{Waiting, fails_in, left_of, others, put_before}

pub fails_in_seen : (f : Field) (q : Request) (atoms : List (Bor Atom))
    → fails_in f q (atoms_seen atoms) ≡ list_any (λ a. is_of f a.now && not (holds a.now q)) atoms
fails_in_seen f q [] = refl
fails_in_seen f q (a ∷ atoms) = ap (λ b. (is_of f a.now && not (holds a.now q)) || b) (fails_in_seen f q atoms)

pub atoms_seen-append : (xs ys : List (Bor Atom)) → atoms_seen (xs ++ ys) ≡ atoms_seen xs ++ atoms_seen ys
atoms_seen-append [] ys = refl
atoms_seen-append (x ∷ xs) ys = ap (λ zs. x.now ∷ zs) (atoms_seen-append xs ys)

others-append : (f : Field) (xs ys : List Atom) → others f (xs ++ ys) ≡ others f xs ++ others f ys
others-append f [] ys = refl
others-append f (x ∷ xs) ys = by (not (is_of f x)) (others-append f xs ys)
  where
    by : (b : Bool) → others f (xs ++ ys) ≡ others f xs ++ others f ys
        → cond b (x ∷ others f (xs ++ ys)) (others f (xs ++ ys)) ≡ cond b (x ∷ others f xs) (others f xs) ++ others f ys
    by true e = ap (λ zs. x ∷ zs) e
    by false e = e

-- one more atom of another field
pub other_kept : (f : Field) (atoms : List (Bor Atom)) (i : ℕ) (d : Bor Atom) (rest more : List (Bor Atom)) → i < length atoms
    → atoms_seen rest ≡ others f (atoms_seen (take i atoms)) → is_of f (get_or atoms i d).now ≡ false → more ≡ rest ++ get_or atoms i d ∷ []
    → atoms_seen more ≡ others f (atoms_seen (take (i + 1) atoms))
other_kept f atoms i d rest more l e h g =
    ap atoms_seen g ∙ atoms_seen-append rest (get_or atoms i d ∷ []) ∙ ap (λ zs. zs ++ (get_or atoms i d).now ∷ []) e ∙ sym (next f atoms i d l h)
  where
    next : (f : Field) (atoms : List (Bor Atom)) (i : ℕ) (d : Bor Atom) → i < length atoms → is_of f (get_or atoms i d).now ≡ false
        → others f (atoms_seen (take (i + 1) atoms)) ≡ others f (atoms_seen (take i atoms)) ++ (get_or atoms i d).now ∷ []
    next f atoms i d l h =
        ap (λ zs. others f (atoms_seen zs)) (take_more atoms i d l) ∙ ap (others f) (atoms_seen-append (take i atoms) (get_or atoms i d ∷ []))
        ∙ others-append f (atoms_seen (take i atoms)) ((get_or atoms i d).now ∷ []) ∙ rw h refl

-- one of the field
pub other_dropped : (f : Field) (atoms : List (Bor Atom)) (i : ℕ) (d : Bor Atom) (rest : List (Bor Atom)) → i < length atoms
    → atoms_seen rest ≡ others f (atoms_seen (take i atoms)) → is_of f (get_or atoms i d).now ≡ true
    → atoms_seen rest ≡ others f (atoms_seen (take (i + 1) atoms))
other_dropped f atoms i d rest l e h =
    e ∙ sym (ap (λ zs. others f (atoms_seen zs)) (take_more atoms i d l) ∙ ap (others f) (atoms_seen-append (take i atoms) (get_or atoms i d ∷ []))
    ∙ others-append f (atoms_seen (take i atoms)) ((get_or atoms i d).now ∷ []) ∙ rw h (append-nil (others f (atoms_seen (take i atoms)))))

-- ---- what is left of rules

rules_seen-append : (xs ys : List Pending) → rules_seen (xs ++ ys) ≡ rules_seen xs ++ rules_seen ys
rules_seen-append [] ys = refl
rules_seen-append (x ∷ xs) ys = ap (λ zs. rule_seen x ∷ zs) (rules_seen-append xs ys)

-- this rule fails
pub rule_fails : (f : Field) (q : Request) (rules left : List Pending) (i : ℕ) (d : Pending) → i < length rules
    → left_of f q (rules_seen rules) ≡ rules_seen left ++ left_of f q (rules_seen (drop i rules))
    → fails_in f q (atoms_seen (get_or rules i d).atoms.items) ≡ true
    → left_of f q (rules_seen rules) ≡ rules_seen left ++ left_of f q (rules_seen (drop (i + 1) rules))
rule_fails f q rules left i d l e h =
    e ∙ ap (λ zs. rules_seen left ++ left_of f q (rules_seen zs)) (drop-cons rules i d l) ∙ rw (h, add-one) refl

no_atoms : (place : ℕ) (atoms : List Atom) (cs : List Waiting) → length atoms ≡ 0 → put_before place atoms cs ≡ record { place = place; atoms = atoms } ∷ []
no_atoms place [] cs e = refl
no_atoms place (a ∷ atoms) cs e = absurd (omega arith)

some_atoms : (place : ℕ) (atoms : List Atom) (cs : List Waiting) → (length atoms ≡ 0 → ⊥) → put_before place atoms cs ≡ record { place = place; atoms = atoms } ∷ cs
some_atoms place [] cs e = absurd (e refl)
some_atoms place (a ∷ atoms) cs e = refl

module _ (f : Field) (q : Request) (rules left more : List Pending) (i : ℕ) (d p : Pending) (l : i < length rules)
    (so : left_of f q (rules_seen rules) ≡ rules_seen left ++ left_of f q (rules_seen (drop i rules)))
    (holds : fails_in f q (atoms_seen (get_or rules i d).atoms.items) ≡ false)
    (place : p.place ≡ (get_or rules i d).place) (atoms : atoms_seen p.atoms.items ≡ others f (atoms_seen (get_or rules i d).atoms.items))
    (grows : more ≡ left ++ p ∷ []) where
  -- what is left begins with this rule
  first_left : left_of f q (rules_seen (drop i rules)) ≡ put_before p.place (atoms_seen p.atoms.items) (left_of f q (rules_seen (drop (i + 1) rules)))
  first_left = ap (λ zs. left_of f q (rules_seen zs)) (drop-cons rules i d l) ∙ rw (holds, sym place, sym atoms, add-one) refl

  seen_length : (xs : List (Bor Atom)) → length (atoms_seen xs) ≡ length xs
  seen_length [] = refl
  seen_length (x ∷ xs) = ap suc (seen_length xs)

  -- it waits for others of its atoms
  pub rule_waits : (length p.atoms.items ≡ 0 → ⊥) → left_of f q (rules_seen rules) ≡ rules_seen more ++ left_of f q (rules_seen (drop (i + 1) rules))
  rule_waits some =
      so ∙ ap (λ zs. rules_seen left ++ zs)
      (first_left ∙ some_atoms p.place (atoms_seen p.atoms.items) (left_of f q (rules_seen (drop (i + 1) rules))) (λ e. some (sym (seen_length p.atoms.items) ∙ e)))
      ∙ sym (ap (λ zs. rules_seen zs ++ left_of f q (rules_seen (drop (i + 1) rules))) grows
      ∙ ap (λ zs. zs ++ left_of f q (rules_seen (drop (i + 1) rules))) (rules_seen-append left (p ∷ []))
      ∙ append_assoc (rules_seen left) (rule_seen p ∷ []) (left_of f q (rules_seen (drop (i + 1) rules))))

  -- it decides
  pub rule_decides : length p.atoms.items ≡ 0 → left_of f q (rules_seen rules) ≡ rules_seen more
  rule_decides none =
      so ∙ ap (λ zs. rules_seen left ++ zs)
      (first_left ∙ no_atoms p.place (atoms_seen p.atoms.items) (left_of f q (rules_seen (drop (i + 1) rules))) (seen_length p.atoms.items ∙ none))
      ∙ sym (ap rules_seen grows ∙ rules_seen-append left (p ∷ []))

pub all_seen : (f : Field) (q : Request) (rules left : List Pending) (i : ℕ) → length rules ≤ i
    → left_of f q (rules_seen rules) ≡ rules_seen left ++ left_of f q (rules_seen (drop i rules)) → left_of f q (rules_seen rules) ≡ rules_seen left
all_seen f q rules left i l e = e ∙ ap (λ zs. rules_seen left ++ zs) (nothing (drop i rules) (simp length-drop (omega arith))) ∙ append-nil (rules_seen left)
  where
    nothing : (xs : List Pending) → length xs ≡ 0 → left_of f q (rules_seen xs) ≡ []
    nothing [] h = refl
    nothing (x ∷ xs) h = absurd (omega arith)
