-- How many places the search looks at: a place, and those behind it, of which each has fewer atoms left.
-- By induction on the number of fields that may still be decided.
use Rattle.std.proofs.Common.{◌≡◌, ℕ, zero, suc, ◌+◌, ◌<◌, ◌≤◌, Bool, true, false, cond, not, List, [], ◌∷◌, ◌++◌, length, length-append, map, get_or, Option, Some, None, ℤ, refl, ap, sym, ◌∙◌, arith}
use Rattle.std.specs.Prelude.{All}
use Rattle.std.specs.List.{flat_map, sum_by}
use Rattle.std.proofs.lemmas.Bool.{eq-eqb}
use Rattle.std.proofs.lemmas.List.Elements.{All-head, All-map, All-tail}
use Rattle.std.proofs.lemmas.List.Sums.{sum_by-cons}
use Rattle.hist_model.specs.declared.policy.Flag.TheVariants as flag
use Rattle.hist_model.specs.declared.policy.Rule.{Rule}
use Rattle.hist_model.specs.declared.request.Request.{Request}
use Rattle.hist_model.specs.Decisions.{covers}
use Rattle.policy_classes.specs.declared.atoms.Atom.{Atom}
use Rattle.policy_classes.specs.declared.atoms.Field.{Field}
use Rattle.policy_classes.specs.declared.atoms.Field.TheVariants as field
use Rattle.policy_classes.specs.Atoms.{atoms_of_all}
use Rattle.policy_classes.specs.Choices.{choices}
use Rattle.policy_classes.specs.Fields.{field_eq, field_of, is_of}
use Rattle.policy_classes.specs.Looked.{Looked, looked_from, start_frame, with_choice}
use Rattle.policy_classes.specs.Plain.{all_atoms, atoms_of_rules}
use Rattle.policy_classes.specs.Search.{Waiting, atoms_left, fails_in, first_field, left_of, looked, looked_by, next_field, or_field, others, put_before, undecided, waiting_from}

-- ---- fewer atoms are left

abbrev atoms_in : List Waiting → List Atom
atoms_in cs = flat_map (λ (c : Waiting). c.atoms) cs

others_within : (f : Field) (atoms : List Atom) → length (others f atoms) ≤ length atoms
others_within f [] = omega arith
others_within f (a ∷ atoms) = by (not (is_of f a)) (others_within f atoms)
  where
    by : (b : Bool) → length (others f atoms) ≤ length atoms → length (cond b (a ∷ others f atoms) (others f atoms)) ≤ suc (length atoms)
    by true l = omega arith
    by false l = omega arith

put_within : (place : ℕ) (atoms : List Atom) (cs : List Waiting) → length (atoms_in (put_before place atoms cs)) ≤ length atoms + length (atoms_in cs)
put_within place [] cs = omega arith
put_within place (a ∷ atoms) cs = rw length-append (omega arith)

left_within : (f : Field) (q : Request) (cs : List Waiting) → length (atoms_in (left_of f q cs)) ≤ length (atoms_in cs)
left_within f q [] = omega arith
left_within f q (c ∷ cs) = by (fails_in f q c.atoms) (left_within f q cs)
  where
    whole : length (c.atoms ++ atoms_in cs) ≡ length c.atoms + length (atoms_in cs)
    whole = length-append c.atoms (atoms_in cs)

    by : (b : Bool) → length (atoms_in (left_of f q cs)) ≤ length (atoms_in cs)
        → length (atoms_in (cond b (left_of f q cs) (put_before c.place (others f c.atoms) (left_of f q cs)))) ≤ length (c.atoms ++ atoms_in cs)
    by true l = omega (arith, whole)
    by false l =
        let p = put_within c.place (others f c.atoms) (left_of f q cs) in let o = others_within f c.atoms in omega (arith, whole)

same_field_is : (f : Field) → field_eq f f ≡ true
same_field_is field.Path = refl
same_field_is field.Node = refl
same_field_is field.Fstype = refl
same_field_is field.Source = refl
same_field_is field.Name = refl
same_field_is field.Value = refl
same_field_is field.Dirfd = refl
same_field_is (field.Flag (flag.Mount a)) = eq-eqb a a refl
same_field_is (field.Flag (flag.Attribute a)) = eq-eqb a a refl

others_less : (f : Field) (atoms : List Atom) → first_field atoms ≡ Some f → length (others f atoms) < length atoms
others_less f [] e = cc
others_less f (a ∷ atoms) e =
    let same : field_of a ≡ f = cc in
    let is : is_of f a ≡ true = ap (λ g. field_eq g f) same ∙ same_field_is f in
    rw is (let l = others_within f atoms in omega arith)

left_less : (f : Field) (q : Request) (cs : List Waiting) → undecided cs ≡ Some f → length (atoms_in (left_of f q cs)) < length (atoms_in cs)
left_less f q [] e = cc
left_less f q (c ∷ cs) e = by (fails_in f q c.atoms)
  where
    whole : length (c.atoms ++ atoms_in cs) ≡ length c.atoms + length (atoms_in cs)
    whole = length-append c.atoms (atoms_in cs)

    less : length (others f c.atoms) < length c.atoms
    less = others_less f c.atoms e

    rest : length (atoms_in (left_of f q cs)) ≤ length (atoms_in cs)
    rest = left_within f q cs

    by : (b : Bool) → length (atoms_in (cond b (left_of f q cs) (put_before c.place (others f c.atoms) (left_of f q cs)))) < length (c.atoms ++ atoms_in cs)
    by true = omega (arith, whole, less, rest)
    by false = let p = put_within c.place (others f c.atoms) (left_of f q cs) in omega (arith, whole, less, rest)

fewer : (f : Field) (q : Request) (old new : List Waiting) → next_field old new ≡ Some f
    → length (atoms_left (left_of f q old) (left_of f q new)) < length (atoms_left old new)
fewer f q old new e = by (undecided old) refl e
  where
    before : length (atoms_left old new) ≡ length (atoms_in old) + length (atoms_in new)
    before = length-append (atoms_in old) (atoms_in new)

    after : length (atoms_left (left_of f q old) (left_of f q new)) ≡ length (atoms_in (left_of f q old)) + length (atoms_in (left_of f q new))
    after = length-append (atoms_in (left_of f q old)) (atoms_in (left_of f q new))

    by : (o : Option Field) → undecided old ≡ o → or_field o (undecided new) ≡ Some f
        → length (atoms_left (left_of f q old) (left_of f q new)) < length (atoms_left old new)
    by (Some g) s h =
        let l : length (atoms_in (left_of f q old)) < length (atoms_in old) = left_less f q old (s ∙ h) in
        let r = left_within f q new in omega (arith, before, after)
    by None s h =
        let l = left_within f q old in let r : length (atoms_in (left_of f q new)) < length (atoms_in new) = left_less f q new h in
        omega (arith, before, after)

-- ---- so many fields suffice

no_atoms : (old new : List Waiting) → length (atoms_left old new) ≤ 0 → next_field old new ≡ None
no_atoms old new l = by (next_field old new) refl
  where
    by : (o : Option Field) → next_field old new ≡ o → o ≡ None
    by None e = refl
    by (Some f) e = let less = fewer f (Request.Sysinfo 0) old new e in absurd (omega arith)

same_sums : {A : Type 0} (f g : A → ℕ) (xs : List A) → All (λ x. f x ≡ g x) xs → sum_by f xs ≡ sum_by g xs
same_sums f g [] h = refl
same_sums f g (x ∷ xs) h =
    sum_by-cons f x xs ∙ (let e = All-head (λ y. f y ≡ g y) x xs h in let r = same_sums f g xs (All-tail (λ y. f y ≡ g y) x xs h) in omega arith)
    ∙ sym (sum_by-cons g x xs)

-- the places behind one
abbrev behind : ℕ → Request → List Waiting → List Waiting → Field → ℕ
behind n q old new f = sum_by (λ p. looked n p (left_of f p old) (left_of f p new)) (choices f (atoms_left old new) q)

looked_again : (n : ℕ) (q : Request) (old new : List Waiting) → length (atoms_left old new) ≤ n → looked n q old new ≡ looked (suc n) q old new
unfolding looked
looked_again zero q old new l = sym (ap (λ o. looked_by o (behind zero q old new)) (no_atoms old new l))
looked_again (suc n) q old new l = by (next_field old new) refl (looked_again n)
  where
    by : (o : Option Field) → next_field old new ≡ o
        → ((p : Request) (olds news : List Waiting) → length (atoms_left olds news) ≤ n → looked n p olds news ≡ looked (suc n) p olds news)
        → looked_by o (behind n q old new) ≡ looked_by o (behind (suc n) q old new)
    by None e rest = refl
    by (Some f) e rest =
        ap (λ x. 1 + x)
        (same_sums (λ p. looked n p (left_of f p old) (left_of f p new)) (λ p. looked (suc n) p (left_of f p old) (left_of f p new))
        (choices f (atoms_left old new) q)
        (λ k d m. let less = fewer f (get_or (choices f (atoms_left old new) q) k d) old new e in
        rest (get_or (choices f (atoms_left old new) q) k d) (left_of f (get_or (choices f (atoms_left old new) q) k d) old)
        (left_of f (get_or (choices f (atoms_left old new) q) k d) new) (omega arith)))

looked_more : (n : ℕ) (q : Request) (old new : List Waiting) → looked (suc n) q old new ≡ looked_by (next_field old new) (behind n q old new)
unfolding looked
looked_more n q old new = refl

-- ---- a frame is looked at

abbrev pub Fits : ℕ → Looked → Type 0
Fits n frame = length (atoms_left frame.old frame.new) ≤ n

pub none_behind : (n : ℕ) (frame : Looked) → Fits n frame → next_field frame.old frame.new ≡ None → looked_from n frame ≡ 1
none_behind n frame l e =
    looked_again n frame.request frame.old frame.new l ∙ looked_more n frame.request frame.old frame.new
    ∙ ap (λ o. looked_by o (behind n frame.request frame.old frame.new)) e

mapped_sum : {A B : Type 0} (f : B → ℕ) (make : A → B) (xs : List A) → sum_by f (map make xs) ≡ sum_by (λ x. f (make x)) xs
mapped_sum f make [] = refl
mapped_sum f make (x ∷ xs) = sum_by-cons f (make x) (map make xs) ∙ ap (λ n. f (make x) + n) (mapped_sum f make xs) ∙ sym (sum_by-cons (λ y. f (make y)) x xs)

pub each_behind : (n : ℕ) (frame : Looked) (f : Field) → Fits n frame → next_field frame.old frame.new ≡ Some f
    → looked_from n frame ≡ 1 + sum_by (looked_from n) (map (with_choice f frame) (choices f (atoms_left frame.old frame.new) frame.request))
each_behind n frame f l e =
    looked_again n frame.request frame.old frame.new l ∙ looked_more n frame.request frame.old frame.new
    ∙ ap (λ o. looked_by o (behind n frame.request frame.old frame.new)) e
    ∙ ap (λ x. 1 + x) (sym (mapped_sum (looked_from n) (with_choice f frame) (choices f (atoms_left frame.old frame.new) frame.request)))

pub fits_behind : (n : ℕ) (frame : Looked) (f : Field) → Fits n frame → next_field frame.old frame.new ≡ Some f
    → All (Fits n) (map (with_choice f frame) (choices f (atoms_left frame.old frame.new) frame.request))
fits_behind n frame f l e =
    All-map (Fits n) (with_choice f frame) (choices f (atoms_left frame.old frame.new) frame.request)
    (λ k d m. let less = fewer f (get_or (choices f (atoms_left frame.old frame.new) frame.request) k d) frame.old frame.new e in omega arith)

-- at least it is looked at
pub looked_some : (n : ℕ) (frame : Looked) → Fits n frame → 1 ≤ looked_from n frame
looked_some n frame l = by (next_field frame.old frame.new) refl
  where
    by : (o : Option Field) → next_field frame.old frame.new ≡ o → 1 ≤ looked_from n frame
    by None e = let one = none_behind n frame l e in omega arith
    by (Some f) e = let some = each_behind n frame f l e in omega arith

-- ---- the beginning

waiting_within : (n : ℕ) (rules : List Rule) (nr : ℤ) → length (atoms_in (waiting_from n rules nr)) ≤ length (atoms_of_rules rules)
waiting_within n [] nr = omega arith
waiting_within n (rule ∷ rules) nr = by (covers rule.calls nr) (waiting_within (n + 1) rules nr)
  where
    whole : length (atoms_of_rules (rule ∷ rules)) ≡ length (atoms_of_all rule.conds) + length (atoms_of_rules rules)
    whole = length-append (atoms_of_all rule.conds) (atoms_of_rules rules)

    by : (b : Bool) → length (atoms_in (waiting_from (n + 1) rules nr)) ≤ length (atoms_of_rules rules)
        → length (atoms_in (cond b (record { place = n; atoms = atoms_of_all rule.conds } ∷ waiting_from (n + 1) rules nr) (waiting_from (n + 1) rules nr)))
        ≤ length (atoms_of_rules (rule ∷ rules))
    by true l = rw length-append (omega (arith, whole))
    by false l = omega (arith, whole)

pub start_fits : (old new : List Rule) (nr : ℤ) → Fits (length (all_atoms old new)) (start_frame old new nr)
start_fits old new nr =
    let a = waiting_within 0 old nr in let b = waiting_within 0 new nr in
    let c = length-append (atoms_of_rules old) (atoms_of_rules new) in
    let d = length-append (atoms_in (waiting_from 0 old nr)) (atoms_in (waiting_from 0 new nr)) in omega arith

pub start_counts : (old new : List Rule) (n : ℕ) (nrs : List ℤ)
    → sum_by (looked_from n) (map (start_frame old new) nrs) ≡ sum_by (λ nr. looked_from n (start_frame old new nr)) nrs
start_counts old new n nrs = mapped_sum (looked_from n) (start_frame old new) nrs
