-- A rule that asks for a text with another mark than the request's fails.
-- By cases on the field, and by induction on the atoms.
use Rattle.std.proofs.Common.{◌≡◌, ℕ, ◌<◌, Bool, true, false, ◌&&◌, ◌||◌, not, List, [], ◌∷◌, length, map, get_or, Option, Some, None, refl, ap, sym, ◌∙◌}
use Rattle.std.specs.Prelude.{◌==◌, bytes_eq}
use Rattle.std.specs.Option.{option_map}
use Rattle.std.proofs.lemmas.Bool.{eq-eqb}
use Rattle.std.proofs.lemmas.List.{get_or-map}
use Rattle.hist_model.specs.Decisions.{is_text}
use Rattle.hist_model.specs.declared.request.Request.{Request}
use Rattle.policy_classes.specs.declared.atoms.Atom.{Atom}
use Rattle.policy_classes.specs.declared.atoms.Atom.TheVariants as atom
use Rattle.policy_classes.specs.declared.atoms.Field.{Field}
use Rattle.policy_classes.specs.declared.atoms.Field.TheVariants as field
use Rattle.policy_classes.specs.declared.pending.Pending.{Pending}
use Rattle.policy_classes.specs.Atoms.{holds}
use Rattle.policy_classes.specs.Chosen.{text_asked}
use Rattle.policy_classes.specs.Fields.{is_of}
use Rattle.policy_classes.specs.Marks.{asked_mark, mark_at, mark_from, mark_of, may_be, or_mark, text_at}
use Rattle.policy_classes.specs.Pending.{atoms_seen, rules_seen}
use Rattle.policy_classes.specs.Search.{Waiting, fails_in}
use Rattle.policy_classes.proofs.Near.{same-bytes}

-- an atom that asks for a text in a field is of it, and holds where the request has that text
asks_text : (f : Field) (a : Atom) (t : List ℕ) (q : Request) → text_asked f a ≡ Some t → (is_of f a && not (holds a q)) ≡ not (is_text (text_at f q) t)
asks_text field.Path (atom.Path t) u q e = ap (λ z. not (is_text (text_at field.Path q) z)) (cc)
asks_text field.Fstype (atom.Fstype t) u q e = ap (λ z. not (is_text (text_at field.Fstype q) z)) (cc)
asks_text field.Source (atom.Source t) u q e = ap (λ z. not (is_text (text_at field.Source q) z)) (cc)
asks_text field.Name (atom.Name t) u q e = ap (λ z. not (is_text (text_at field.Name q) z)) (cc)
asks_text field.Value (atom.Value t) u q e = ap (λ z. not (is_text (text_at field.Value q) z)) (cc)
asks_text f a u q e = cc

-- a text of another mark is another one
other_mark : (seen : Option (List ℕ)) (t : List ℕ) → may_be (Some (mark_of t)) (option_map mark_of seen) ≡ false → not (is_text seen t) ≡ true
other_mark None t h = refl
other_mark (Some u) t h = by (bytes_eq u t) refl
  where
    by : (b : Bool) → bytes_eq u t ≡ b → not b ≡ true
    by true e =
        let same : mark_of t ≡ mark_of u = ap mark_of (sym (same-bytes u t e)) in
        let so : (mark_of t == mark_of u) ≡ true = eq-eqb (mark_of t) (mark_of u) same in cc
    by false e = refl

pub other_fails : (f : Field) (q : Request) (atoms : List Atom) → may_be (asked_mark f atoms) (mark_at f q) ≡ false → fails_in f q atoms ≡ true
other_fails f q [] h = cc
other_fails f q (a ∷ atoms) h = by (text_asked f a) refl h (other_fails f q atoms)
  where
    first : (b : Bool) → b ≡ true → (b || fails_in f q atoms) ≡ true
    first true e = refl
    first false e = cc

    second : (b : Bool) → fails_in f q atoms ≡ true → (b || fails_in f q atoms) ≡ true
    second true e = refl
    second false e = e

    by : (o : Option (List ℕ)) → text_asked f a ≡ o → may_be (or_mark o (asked_mark f atoms)) (mark_at f q) ≡ false
        → (may_be (asked_mark f atoms) (mark_at f q) ≡ false → fails_in f q atoms ≡ true)
        → ((is_of f a && not (holds a q)) || fails_in f q atoms) ≡ true
    by None e g rest = second (is_of f a && not (holds a q)) (rest g)
    by (Some t) e g rest = first (is_of f a && not (holds a q)) (asks_text f a t q e ∙ other_mark (text_at f q) t g)

-- ---- a text's mark

pub mark_begins : (t : List ℕ) → mark_of t ≡ mark_from 0 t
unfolding mark_of
mark_begins t = refl

-- ---- the marks of rules

-- the mark of one of the rules
pub mark_there : (f : Field) (rules : List Pending) (marks : List (Option ℕ)) (i : ℕ) (d : Option ℕ) (e : Pending) → i < length rules
    → marks ≡ map (λ (c : Waiting). asked_mark f c.atoms) (rules_seen rules) → get_or marks i d ≡ asked_mark f (atoms_seen (get_or rules i e).atoms.items)
mark_there f rules marks i d e l h =
    ap (λ ms. get_or ms i d) (h ∙ both rules) ∙ get_or-map (λ (r : Pending). asked_mark f (atoms_seen r.atoms.items)) rules i e d l
  where
    both : (xs : List Pending) → map (λ (c : Waiting). asked_mark f c.atoms) (rules_seen xs) ≡ map (λ (r : Pending). asked_mark f (atoms_seen r.atoms.items)) xs
    both [] = refl
    both (x ∷ xs) = ap (λ ms. asked_mark f (atoms_seen x.atoms.items) ∷ ms) (both xs)
