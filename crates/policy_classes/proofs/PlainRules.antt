-- Rules that are plain, one after another.
-- By what one more rule adds to those before it.
use Rattle.std.proofs.Common.{◌≡◌, ℕ, ◌+◌, ◌<◌, ◌≤◌, Bool, true, false, not, List, length, map, take, get_or, refl, ap, sym, ◌∙◌, subst}
use Rattle.std.specs.Prelude.{All}
use Rattle.std.proofs.lemmas.List.{get_or-map, take_all}
use Rattle.std.proofs.lemmas.List.Elements.{All-more}
use Rattle.hist_model.specs.declared.policy.Rule.{Rule}
use Rattle.policy_classes.specs.declared.atoms.Atom.{Atom}
use Rattle.policy_classes.specs.Atoms.{atoms_in}
use Rattle.policy_classes.specs.Choices.{IsPlainAtom}
use Rattle.policy_classes.specs.Plain.{AreKnown, IsPlainRule}

pub not_not : (b : Bool) → not (not b) ≡ b
not_not true = refl
not_not false = refl

-- one more rule, of which these are the atoms
pub plain_more : (rules : List Rule) (atoms : List (List Atom)) (i : ℕ) (d : Rule) (e own : List Atom) → i < length rules → atoms ≡ map atoms_in rules
    → own ≡ get_or atoms i e → All IsPlainRule (take i rules) → AreKnown (get_or rules i d).calls → All IsPlainAtom own → All IsPlainRule (take (i + 1) rules)
plain_more rules atoms i d e own l all among h known plain =
    All-more IsPlainRule rules i d l h (record { calls = known; atoms = subst (All IsPlainAtom) same plain })
  where
    same : own ≡ atoms_in (get_or rules i d)
    same = among ∙ ap (λ xs. get_or xs i e) all ∙ get_or-map atoms_in rules i d e l

-- all rules are plain where the first so many are, and there are no more
pub plain_whole : (rules : List Rule) (i : ℕ) → length rules ≤ i → All IsPlainRule (take i rules) → All IsPlainRule rules
plain_whole rules i l h = subst (All IsPlainRule) (take_all i rules l) h

-- a rule that isn't plain is one of them
pub not_plain : (rules : List Rule) (atoms : List (List Atom)) (i : ℕ) (d : Rule) (e own : List Atom) → i < length rules → atoms ≡ map atoms_in rules
    → own ≡ get_or atoms i e → (AreKnown (get_or rules i d).calls × All IsPlainAtom own → ⊥) → All IsPlainRule rules → ⊥
not_plain rules atoms i d e own l all among isnt h =
    let one : IsPlainRule (get_or rules i d) = h i d l in
    isnt (one.calls, subst (All IsPlainAtom) (sym (among ∙ ap (λ xs. get_or xs i e) all ∙ get_or-map atoms_in rules i d e l)) one.atoms)
