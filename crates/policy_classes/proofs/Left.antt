-- What is left of the rules where a field is decided finds the same place.
-- By induction on the atoms, and on the rules.
use Rattle.std.proofs.Common.{◌≡◌, ℕ, Bool, true, false, ◌&&◌, ◌||◌, cond, not, List, [], ◌∷◌, refl, ap, sym, ◌∙◌}
use Rattle.std.specs.Prelude.{All}
use Rattle.std.proofs.lemmas.List.Elements.{All-head, All-tail, All-cons, All-nil}
use Rattle.hist_model.specs.declared.request.Request.{Request}
use Rattle.policy_classes.specs.declared.atoms.Atom.{Atom}
use Rattle.policy_classes.specs.declared.atoms.Field.{Field}
use Rattle.policy_classes.specs.Atoms.{all_hold, holds}
use Rattle.policy_classes.specs.Fields.{is_of}
use Rattle.policy_classes.specs.Search.{Waiting, fails_in, left_of, others, place_among, put_before}

-- two requests are alike in the atoms of a field
abbrev pub AgreesIn : Field → Request → Request → Atom → Type 0
AgreesIn f q r a = is_of f a ≡ true → holds a q ≡ holds a r

module _ (f : Field) (q r : Request) where
  -- one atom more: it is of the field and fails, or it holds; or it is of another
  more : (of it hold fails rest : Bool) → (of ≡ true → it ≡ hold)
      → (hold && (not fails && rest)) ≡ (not ((of && not it) || fails) && (cond (not of) (hold && rest) rest))
  more true true hold fails rest e = rw (sym (e refl)) refl
  more true false hold fails rest e = rw (sym (e refl)) refl
  more false it true fails rest e = refl
  more false it false true rest e = refl
  more false it false false rest e = refl

  others-more : (a : Atom) (atoms : List Atom) (b : Bool)
      → all_hold (cond b (a ∷ others f atoms) (others f atoms)) r ≡ cond b (holds a r && all_hold (others f atoms) r) (all_hold (others f atoms) r)
  others-more a atoms true = refl
  others-more a atoms false = refl

  atoms_left : (atoms : List Atom) → All (AgreesIn f q r) atoms → all_hold atoms r ≡ (not (fails_in f q atoms) && all_hold (others f atoms) r)
  atoms_left [] h = refl
  atoms_left (a ∷ atoms) h =
      ap (λ b. holds a r && b) (atoms_left atoms (All-tail (AgreesIn f q r) a atoms h))
      ∙ more (is_of f a) (holds a q) (holds a r) (fails_in f q atoms) (all_hold (others f atoms) r) (All-head (AgreesIn f q r) a atoms h)
      ∙ ap (λ b. not (fails_in f q (a ∷ atoms)) && b) (sym (others-more a atoms (not (is_of f a))))

  placed : (none place : ℕ) (atoms : List Atom) (cs : List Waiting)
      → place_among none (put_before place atoms cs) r ≡ cond (all_hold atoms r) place (place_among none cs r)
  placed none place [] cs = refl
  placed none place (a ∷ atoms) cs = refl

  -- the atoms of a rule
  abbrev pub AllAgree : Waiting → Type 0
  AllAgree c = All (AgreesIn f q r) c.atoms

  pub same_place : (none : ℕ) (cs : List Waiting) → All AllAgree cs → place_among none (left_of f q cs) r ≡ place_among none cs r
  same_place none [] h = refl
  same_place none (c ∷ cs) h =
      by (fails_in f q c.atoms) (atoms_left c.atoms (All-head AllAgree c cs h)) (same_place none cs (All-tail AllAgree c cs h))
    where
      by : (fails : Bool) → all_hold c.atoms r ≡ (not fails && all_hold (others f c.atoms) r)
          → place_among none (left_of f q cs) r ≡ place_among none cs r
          → place_among none (cond fails (left_of f q cs) (put_before c.place (others f c.atoms) (left_of f q cs))) r
          ≡ cond (all_hold c.atoms r) c.place (place_among none cs r)
      by true e h = rw e h
      by false e h = placed none c.place (others f c.atoms) (left_of f q cs) ∙ rw (e, h) refl

-- ---- facts of atoms

-- each atom of a rule is so
abbrev pub AllAre : (Atom → Type 0) → Waiting → Type 0
AllAre P c = All P c.atoms

put_kept : (P : Atom → Type 0) (place : ℕ) (atoms : List Atom) (cs : List Waiting) → All P atoms → All (AllAre P) cs
    → All (AllAre P) (put_before place atoms cs)
put_kept P place [] cs h g = All-cons (AllAre P) (record { place = place; atoms = [] }) [] h (All-nil (AllAre P))
put_kept P place (a ∷ atoms) cs h g = All-cons (AllAre P) (record { place = place; atoms = a ∷ atoms }) cs h g

pub left_kept : (P Q : Atom → Type 0) (f : Field) (q : Request) → ((atoms : List Atom) → All P atoms → All Q (others f atoms))
    → (cs : List Waiting) → All (AllAre P) cs → All (AllAre Q) (left_of f q cs)
left_kept P Q f q keep [] h = All-nil (AllAre Q)
left_kept P Q f q keep (c ∷ cs) h = by (fails_in f q c.atoms) (left_kept P Q f q keep cs (All-tail (AllAre P) c cs h))
  where
    by : (b : Bool) → All (AllAre Q) (left_of f q cs)
        → All (AllAre Q) (cond b (left_of f q cs) (put_before c.place (others f c.atoms) (left_of f q cs)))
    by true g = g
    by false g = put_kept Q c.place (others f c.atoms) (left_of f q cs) (keep c.atoms (All-head (AllAre P) c cs h)) g
