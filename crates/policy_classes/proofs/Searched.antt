-- What a field's choice keeps of a search, and what is known where nothing is left to decide.
-- What is left of the rules finds the place that all rules do: for each call that is seen as the request in the fields that are decided,
-- and for a call to which the request comes up, since one of the choices does that again and is like it in the atoms that are left.
use Rattle.std.proofs.Common.{◌≡◌, ℕ, Bool, true, false, not, List, [], ◌∷◌, ◌++◌, get_or, Option, Some, None, ℤ, refl, ap, sym, ◌∙◌, subst, ◌⊎◌, inl, inr}
use Rattle.std.specs.Prelude.{All, Any}
use Rattle.std.specs.List.{flat_map}
use Rattle.std.proofs.lemmas.List.Elements.{All-cons, All-filter, All-head, All-nil, All-tail, All-weaker, filter_passes}
use Rattle.hist_model.specs.declared.request.Request.{Request}
use Rattle.policy_classes.specs.declared.atoms.Atom.{Atom}
use Rattle.policy_classes.specs.declared.atoms.Field.{Field}
use Rattle.policy_classes.specs.Asked.{IsCall}
use Rattle.policy_classes.specs.Choices.{IsOneField, IsPlainAtom, choices}
use Rattle.policy_classes.specs.Fields.{field_eq, field_of, is_of, sight, suits}
use Rattle.policy_classes.specs.Search.{Waiting, atoms_left, first_field, first_place, left_of, next_field, or_field, others, place_among, undecided}
use Rattle.policy_classes.proofs.FieldEq.{apart, or_left, or_neither, or_right, same_field, with_field}
use Rattle.policy_classes.proofs.Kept.{IsWitness, kept}
use Rattle.policy_classes.proofs.Left.{AgreesIn, AllAgree, AllAre, left_kept, same_place}
use Rattle.policy_classes.proofs.Lists.{all_front}
use Rattle.policy_classes.proofs.Sights.{one_field_counts}
use Rattle.policy_classes.proofs.Stands.{ComesUpTo, Likes, Serves, one_serves}
use Rattle.policy_classes.proofs.Untouched.{Untouched, untouched}

-- ---- which field is next

no_first : (atoms : List Atom) → first_field atoms ≡ None → atoms ≡ []
no_first [] h = refl
no_first (a ∷ atoms) h = cc

-- where the first rule decides, it is the one that is found
first_decides : (none : ℕ) (cs : List Waiting) (r : Request) → undecided cs ≡ None → place_among none cs r ≡ first_place none cs
first_decides none [] r h = refl
first_decides none (c ∷ cs) r h = rw (no_first c.atoms h) refl

neither : (o p : Option Field) → or_field o p ≡ None → (o ≡ None) × (p ≡ None)
neither (Some f) p h = cc
neither None p h = (refl, h)

either : (o p : Option Field) (f : Field) → or_field o p ≡ Some f → (o ≡ Some f) ⊎ (p ≡ Some f)
either (Some g) p f h = inl h
either None p f h = inr h

first_atom : (P : Atom → Type 0) (atoms : List Atom) (f : Field) → first_field atoms ≡ Some f → All P atoms → (a : Atom) × P a × (field_of a ≡ f)
first_atom P [] f h g = cc
first_atom P (a ∷ atoms) f h g = (a, All-head P a atoms g, cc)

undecided_atom : (P : Atom → Type 0) (cs : List Waiting) (f : Field) → undecided cs ≡ Some f → All (AllAre P) cs → (a : Atom) × P a × (field_of a ≡ f)
undecided_atom P [] f h g = cc
undecided_atom P (c ∷ cs) f h g = first_atom P c.atoms f h (All-head (AllAre P) c cs g)

-- ---- what is kept

-- the same is seen of both in each field that is decided
abbrev pub SeenAs : (Field → Bool) → Request → Request → Type 0
SeenAs decided q r = (g : Field) → IsOneField g → decided g ≡ true → sight g r ≡ sight g q

-- an atom whose field isn't decided
abbrev pub IsOpen : (Field → Bool) → Atom → Type 0
IsOpen decided a = IsPlainAtom a × (decided (field_of a) ≡ false)

pub record Goes (Asks : Request → Type 0) (decided : Field → Bool) (q : Request) (none : ℕ) (left : List Waiting) (place : Request → ℕ) : Type 0 where
  -- what is left finds the place, for each call that is seen as the request
  pub finds : (r : Request) → Asks r → SeenAs decided q r → place_among none left r ≡ place r
  -- and has no atom of a field that is decided
  pub opens : All (AllAre (IsOpen decided)) left

-- the state of a search: a call that is a witness, and what is left of both policies' rules
pub record State (nr : ℤ) (Asks : Request → Type 0) (olds news : ℕ) (old_place new_place : Request → ℕ) (decided : Field → Bool) (q : Request) (old new : List Waiting) : Type 0 where
  pub witness : IsWitness nr q
  pub old_goes : Goes Asks decided q olds old old_place
  pub new_goes : Goes Asks decided q news new new_place

-- what is left finds the places of a call, to which the request comes up
pub record Reaches (olds news : ℕ) (old_place new_place : Request → ℕ) (q : Request) (old new : List Waiting) (r : Request) : Type 0 where
  pub old_found : place_among olds old r ≡ old_place r
  pub new_found : place_among news new r ≡ new_place r
  pub up : ComesUpTo q r

module _ (decided : Field → Bool) (f : Field) (open_field : decided f ≡ false) (q p : Request) (same : Untouched f q p) where
  -- a call that is seen as the request after the choice was seen so before
  seen_before : (r : Request) → SeenAs (with_field decided f) p r → SeenAs decided q r
  seen_before r h g one is = h g one (or_left (decided g) (field_eq g f) is) ∙ same g one (apart decided g f is open_field)

  -- and an atom of the field holds of both or of neither
  agrees_in : (r : Request) → SeenAs (with_field decided f) p r → (a : Atom) → IsOpen decided a → AgreesIn f p r a
  agrees_in r h a i o =
      one_field_counts a p ∙ ap (suits a) (sym (h (field_of a) i.0 (or_right (decided (field_of a)) (is_of f a) o))) ∙ sym (one_field_counts a r)

  still_open : (xs : List Atom) → All (IsOpen decided) xs → All (IsOpen (with_field decided f)) (others f xs)
  still_open xs h k d l =
      let one : IsOpen decided (get_or (others f xs) k d) = All-filter (λ a. not (is_of f a)) (IsOpen decided) xs h k d l in
      let two : not (is_of f (get_or (others f xs) k d)) ≡ true = filter_passes (λ a. not (is_of f a)) xs k d l in
      (one.0, or_neither (decided (field_of (get_or (others f xs) k d))) (is_of f (get_or (others f xs) k d)) one.1 two)

  goes_on : (Asks : Request → Type 0) (none : ℕ) (left : List Waiting) (place : Request → ℕ)
      → Goes Asks decided q none left place → Goes Asks (with_field decided f) p none (left_of f p left) place
  goes_on Asks none left place g = record {
    finds = λ r asks h.
        same_place f p r none left
        (All-weaker (AllAre (IsOpen decided)) (AllAgree f p r)
        (λ c. All-weaker (IsOpen decided) (AgreesIn f p r) (agrees_in r h) c.atoms) left g.opens)
        ∙ g.finds r asks (seen_before r h);
    opens = left_kept (IsOpen decided) (IsOpen (with_field decided f)) f p still_open left g.opens;
  }

-- ---- a call that is like a choice

all_behind : {A : Type 0} (P : A → Type 0) (xs ys : List A) → All P (xs ++ ys) → All P ys
all_behind P [] ys h = h
all_behind P (x ∷ xs) ys h = all_behind P xs ys (All-tail P x (xs ++ ys) h)

each_part : {A B : Type 0} (P : B → Type 0) (make : A → List B) (xs : List A) → All P (flat_map make xs) → All (λ x. All P (make x)) xs
each_part P make [] h = All-nil (λ x. All P (make x))
each_part P make (x ∷ xs) h =
    All-cons (λ y. All P (make y)) x xs (all_front P (make x) (flat_map make xs) h) (each_part P make xs (all_behind P (make x) (flat_map make xs) h))

-- where the same atoms that are left suit what is seen of the field, they hold of both or of neither
like_agrees : (f : Field) (p r : Request) (atoms : List Atom) → Likes atoms f r p → All (AgreesIn f p r) atoms
like_agrees f p r atoms like k d l o =
    let a = get_or atoms k d in
    let same : field_of a ≡ f = same_field (field_of a) f o in
    one_field_counts a p ∙ ap (λ g. suits a (sight g p)) same ∙ like k d l o ∙ ap (λ g. suits a (sight g r)) (sym same) ∙ sym (one_field_counts a r)

reaches_on : (olds news : ℕ) (old_place new_place : Request → ℕ) (f : Field) (q p r : Request) (old new : List Waiting)
    → Reaches olds news old_place new_place q old new r → Serves (atoms_left old new) f r p
    → Reaches olds news old_place new_place p (left_of f p old) (left_of f p new) r
reaches_on olds news old_place new_place f q p r old new h s = record {
  old_found = same_place f p r olds old (each_part (AgreesIn f p r) (λ (c : Waiting). c.atoms) old
      (all_front (AgreesIn f p r) (flat_map (λ (c : Waiting). c.atoms) old) (flat_map (λ (c : Waiting). c.atoms) new) agree)) ∙ h.old_found;
  new_found = same_place f p r news new (each_part (AgreesIn f p r) (λ (c : Waiting). c.atoms) new
      (all_behind (AgreesIn f p r) (flat_map (λ (c : Waiting). c.atoms) old) (flat_map (λ (c : Waiting). c.atoms) new) agree)) ∙ h.new_found;
  up = s.1;
}
  where
    agree : All (AgreesIn f p r) (atoms_left old new)
    agree = like_agrees f p r (atoms_left old new) s.0

-- ---- the search

module _ (nr : ℤ) (Asks : Request → Type 0) (asks : (q : Request) → IsWitness nr q → Asks q) (olds news : ℕ) (old_place new_place : Request → ℕ) where
  abbrev pub StateAt : (Field → Bool) → Request → List Waiting → List Waiting → Type 0
  StateAt decided q old new = State nr Asks olds news old_place new_place decided q old new

  -- the next field is one flag or no flag, and isn't decided
  next_open : (decided : Field → Bool) (q : Request) (old new : List Waiting) (f : Field) → StateAt decided q old new → next_field old new ≡ Some f
      → (decided f ≡ false) × IsOneField f
  next_open decided q old new f s e = from (either (undecided old) (undecided new) f e)
    where
      of_atom : (a : Atom) × IsOpen decided a × (field_of a ≡ f) → (decided f ≡ false) × IsOneField f
      of_atom (a, i, same) = (subst (λ g. decided g ≡ false) same i.1, subst IsOneField same i.0)

      from : (undecided old ≡ Some f) ⊎ (undecided new ≡ Some f) → (decided f ≡ false) × IsOneField f
      from (inl h) = of_atom (undecided_atom (IsOpen decided) old f h s.old_goes.opens)
      from (inr h) = of_atom (undecided_atom (IsOpen decided) new f h s.new_goes.opens)

  -- the state after a choice
  pub next_state : (decided : Field → Bool) (q : Request) (old new : List Waiting) (f : Field) → StateAt decided q old new → next_field old new ≡ Some f
      → All (λ p. StateAt (with_field decided f) p (left_of f p old) (left_of f p new)) (choices f (atoms_left old new) q)
  next_state decided q old new f s e k d l =
      let is_open = next_open decided q old new f s e in
      let p = get_or (choices f (atoms_left old new) q) k d in
      let same : Untouched f q p = untouched f (atoms_left old new) q is_open.1 s.witness.no_magic k d l in
      record {
        witness = kept (atoms_left old new) nr f q is_open.1 s.witness k d l;
        old_goes = goes_on decided f is_open.0 q p same Asks olds old old_place s.old_goes;
        new_goes = goes_on decided f is_open.0 q p same Asks news new new_place s.new_goes;
      }

  -- the places where nothing is left to decide: of the request itself, and of a call that is reached
  pub own_places : (decided : Field → Bool) (q : Request) (old new : List Waiting) → StateAt decided q old new → next_field old new ≡ None
      → (first_place olds old ≡ old_place q) × (first_place news new ≡ new_place q)
  own_places decided q old new s e =
      let none = neither (undecided old) (undecided new) e in (
        sym (first_decides olds old q none.0) ∙ s.old_goes.finds q (asks q s.witness) (λ g o is. refl),
        sym (first_decides news new q none.1) ∙ s.new_goes.finds q (asks q s.witness) (λ g o is. refl),
      )

  pub found_places : (q : Request) (old new : List Waiting) (r : Request) → Reaches olds news old_place new_place q old new r → next_field old new ≡ None
      → (first_place olds old ≡ old_place r) × (first_place news new ≡ new_place r)
  found_places q old new r h e =
      let none = neither (undecided old) (undecided new) e in
      (sym (first_decides olds old r none.0) ∙ h.old_found, sym (first_decides news new r none.1) ∙ h.new_found)

  -- one of the choices reaches a call that is reached
  pub one_reaches : (decided : Field → Bool) (q : Request) (old new : List Waiting) (f : Field) → StateAt decided q old new → next_field old new ≡ Some f
      → (r : Request) → IsCall r → Reaches olds news old_place new_place q old new r
      → Any (λ p. Reaches olds news old_place new_place p (left_of f p old) (left_of f p new) r × StateAt (with_field decided f) p (left_of f p old) (left_of f p new))
      (choices f (atoms_left old new) q)
  one_reaches decided q old new f s e r c h =
      from (one_serves (atoms_left old new) f q r (next_open decided q old new f s e).1 s.witness.no_magic c h.up)
    where
      from : Any (Serves (atoms_left old new) f r) (choices f (atoms_left old new) q)
          → Any (λ p. Reaches olds news old_place new_place p (left_of f p old) (left_of f p new) r × StateAt (with_field decided f) p (left_of f p old) (left_of f p new))
          (choices f (atoms_left old new) q)
      from (k, p, l, same, serves) =
          let t : StateAt (with_field decided f) p (left_of f p old) (left_of f p new) =
          subst (λ x. StateAt (with_field decided f) x (left_of f x old) (left_of f x new)) same (next_state decided q old new f s e k p l) in
          (k, p, l, same, (reaches_on olds news old_place new_place f q p r old new h serves, t))
