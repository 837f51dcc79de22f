-- A path is that of its directory, a slash and its last name, so paths with the same directory and the same name are one.
-- By induction on the bytes, with what the bytes are split into at a slash.
use Rattle.std.proofs.Common.{◌≡◌, ℕ, ◌+◌, ◌-◌, ◌<◌, List, [], ◌∷◌, ◌++◌, length, refl, ap, sym, subst, ◌∙◌, inl, inr, arith, drop, take, unwrap_or, cond}
use Rattle.std.specs.Prelude.{Bool, true, false, ◌&&◌, nat_lt, reverse, Some, None}
use Rattle.std.specs.List.{list_all, list_any, onto_first, position_or_len, slice_split}
use Rattle.std.proofs.lemmas.Bool.{and_from, and_parts, cases_Bool, eqb-true, lt-ltb, not_from_false, or_cases, or_left, or_parts, both_ways}
use Rattle.std.proofs.lemmas.List.{append_assoc, length-append, length-reverse, reverse-append}
use Rattle.std.proofs.Math.Seq.{drop-append-add, take-append_seam}
use Rattle.hist_model.specs.TreeLines.{is_component}
use Rattle.script_reader.specs.Paths.{are_node_names, is_node_name, is_path, is_slash, name_length, name_of, or_root, parent_of, root_path}
use Rattle.script_reader.proofs.Pushed.{none_more}

-- the last slash of some bytes, and what stands before it and after it
pub record IsCut (text : List ℕ) : Type 0 where
  pub front : List ℕ
  pub name : List ℕ
  pub whole : text ≡ front ++ 47 ∷ name
  pub plain : list_any is_slash name ≡ false

cut : (text : List ℕ) → list_any is_slash text ≡ true → IsCut text
cut [] h = cc
cut (b ∷ bs) h = elim (cases_Bool (list_any is_slash bs)) [
  | inl more ↦
      let rest = cut bs more in
      record { front = b ∷ rest.front; name = rest.name; whole = ap (λ t. b ∷ t) rest.whole; plain = rest.plain }
  | inr none ↦ elim (or_cases (is_slash b) (list_any is_slash bs) h) [
    | inl here ↦ record { front = []; name = bs; whole = ap (λ c. c ∷ bs) (eqb-true b 47 here); plain = none }
    | inr more ↦ absurd (both_ways (list_any is_slash bs) none more)
  ]
]

-- ---- the parts of a path

first-slash : (ys zs : List ℕ) → list_any is_slash ys ≡ false → position_or_len is_slash (ys ++ 47 ∷ zs) ≡ length ys
first-slash [] zs h = refl
first-slash (y ∷ ys) zs h =
    let parts = or_parts (is_slash y) (list_any is_slash ys) h in
    let rest : position_or_len is_slash (ys ++ 47 ∷ zs) ≡ length ys = first-slash ys zs parts.1 in
    rw parts.0 (omega arith)

none-reversed : (ys : List ℕ) → list_any is_slash ys ≡ false → list_any is_slash (reverse ys) ≡ false
none-reversed [] h = refl
none-reversed (y ∷ ys) h =
    let parts = or_parts (is_slash y) (list_any is_slash ys) h in
    subst (λ t. list_any is_slash t ≡ false) (sym (reverse-append (y ∷ []) ys)) (none_more is_slash (reverse ys) y (none-reversed ys parts.1) parts.0)

reversed : (front name : List ℕ) → reverse (front ++ 47 ∷ name) ≡ reverse name ++ 47 ∷ reverse front
reversed front name =
    reverse-append front (47 ∷ name)
    ∙ (ap (λ t. t ++ reverse front) (reverse-append (47 ∷ []) name) ∙ append_assoc (reverse name) (47 ∷ []) (reverse front))

within : (n m k : ℕ) → n ≡ m → m < k → unwrap_or (cond (nat_lt n k) (Some n) None) k ≡ m
within n m k e l = rw e (rw (lt-ltb m k l) refl)

name-length : (front name : List ℕ) → list_any is_slash name ≡ false → name_length (front ++ 47 ∷ name) ≡ length name
name-length front name h =
    let path : List ℕ = front ++ 47 ∷ name in
    let first : position_or_len is_slash (reverse path) ≡ length name =
    ap (position_or_len is_slash) (reversed front name) ∙ (first-slash (reverse name) (reverse front) (none-reversed name h) ∙ length-reverse name)
    in
    let longer : length path ≡ length front + length (47 ∷ name) = length-append front (47 ∷ name) in
    let l : length name < length path = omega arith in
    subst (λ k. unwrap_or (cond (nat_lt (position_or_len is_slash (reverse path)) k) (Some (position_or_len is_slash (reverse path))) None) (length path) ≡ length name) (sym (length-reverse path))
    (within (position_or_len is_slash (reverse path)) (length name) (length path) first l)

before-name : (front name : List ℕ) → length (front ++ 47 ∷ name) - length name ≡ length front + 1
before-name front name =
    let longer : length (front ++ 47 ∷ name) ≡ length front + length (47 ∷ name) = length-append front (47 ∷ name) in
    omega arith

last-name : (front name : List ℕ) → list_any is_slash name ≡ false → name_of (front ++ 47 ∷ name) ≡ name
last-name front name h =
    ap (λ n. drop (length (front ++ 47 ∷ name) - n) (front ++ 47 ∷ name)) (name-length front name h)
    ∙ (ap (λ n. drop n (front ++ 47 ∷ name)) (before-name front name) ∙ drop-append-add front (47 ∷ name) 1)

directory : (front name : List ℕ) → list_any is_slash name ≡ false → parent_of (front ++ 47 ∷ name) ≡ or_root front
directory front name h =
    let n : length (front ++ 47 ∷ name) - name_length (front ++ 47 ∷ name) - 1 ≡ length front = omega (arith, name-length front name h, before-name front name) in
    ap (λ n. or_root (take n (front ++ 47 ∷ name))) n ∙ ap or_root (take-append_seam front (47 ∷ name))

-- ---- the last name

rest-of : List (List ℕ) → List (List ℕ)
rest-of [] = []
rest-of (section ∷ parts) = parts

rest-passes : (p : List ℕ → Bool) (parts : List (List ℕ)) → list_all p parts ≡ true → list_all p (rest-of parts) ≡ true
unfolding rest-of
rest-passes p [] h = refl
rest-passes p (section ∷ parts) h = (and_parts _ _ h).1

rest-onto : (b : ℕ) (parts : List (List ℕ)) → rest-of (onto_first b parts) ≡ rest-of parts
unfolding rest-of
rest-onto b [] = refl
rest-onto b (section ∷ parts) = refl

-- what passes after the first slash passes after the last one
behind-last : (p : List ℕ → Bool) (front name : List ℕ) → list_all p (rest-of (slice_split is_slash (front ++ 47 ∷ name))) ≡ true → list_all p (slice_split is_slash name) ≡ true
unfolding rest-of
behind-last p [] name h = h
behind-last p (b ∷ front) name h = elim (cases_Bool (is_slash b)) [
  | inl e ↦ behind-last p front name (rest-passes p _ (rw e at h))
  | inr e ↦
      let other : list_all p (rest-of (onto_first b (slice_split is_slash (front ++ 47 ∷ name)))) ≡ true = rw e at h in
      behind-last p front name (subst (λ parts. list_all p parts ≡ true) (rest-onto b (slice_split is_slash (front ++ 47 ∷ name))) other)
]

one-section : (name : List ℕ) → list_any is_slash name ≡ false → slice_split is_slash name ≡ name ∷ []
one-section [] h = refl
one-section (b ∷ bs) h =
    let parts = or_parts (is_slash b) (list_any is_slash bs) h in
    rw (parts.0, one-section bs parts.1) refl

names-of : (first : ℕ) (names front name : List ℕ) → are_node_names names ≡ true → first ∷ names ≡ front ++ 47 ∷ name → list_all is_node_name (slice_split is_slash name) ≡ true
names-of first names [] name h e =
    let e2 : names ≡ name = cc in
    subst (λ text. list_all is_node_name (slice_split is_slash text) ≡ true) e2 h
names-of first names (b ∷ front) name h e =
    let e2 : names ≡ front ++ 47 ∷ name = cc in
    behind-last is_node_name front name (rest-passes is_node_name _ (subst (λ text. list_all is_node_name (slice_split is_slash text) ≡ true) e2 h))

not-root : (first : ℕ) (names front name : List ℕ) → are_node_names names ≡ true → first ∷ names ≡ front ++ 47 ∷ name → front ≡ root_path → ⊥
not-root first names front name h e r =
    let e2 : names ≡ 47 ∷ name = cc in
    both_ways false refl (subst (λ text. are_node_names text ≡ true) e2 h)

-- a path as its directory's, or nothing where that is `/`, a slash and its name
pub record HasParts (path : List ℕ) : Type 0 where
  pub front : List ℕ
  pub name : List ℕ
  pub whole : path ≡ front ++ 47 ∷ name
  pub inner : front ≡ root_path → ⊥
  pub directory : parent_of path ≡ or_root front
  pub named : name_of path ≡ name
  pub component : is_component name ≡ true

slashed : (first : ℕ) (names : List ℕ) → is_slash first ≡ true → list_any is_slash (first ∷ names) ≡ true
slashed first names h = or_left _ _ h

pub path_parts : (path : List ℕ) → is_path path ≡ true → HasParts path
path_parts [] h = cc
path_parts (first ∷ names) h =
    let tests = and_parts (is_slash first && nat_lt (length names) 4095) (are_node_names names) h in
    let c = cut (first ∷ names) (slashed first names (and_parts (is_slash first) (nat_lt (length names) 4095) tests.0).0) in
    let passes : list_all is_node_name (slice_split is_slash c.name) ≡ true = names-of first names c.front c.name tests.1 c.whole in
    let one : is_node_name c.name ≡ true = (and_parts (is_node_name c.name) true (subst (λ parts. list_all is_node_name parts ≡ true) (one-section c.name c.plain) passes)).0 in
    record {
      front = c.front;
      name = c.name;
      whole = c.whole;
      inner = not-root first names c.front c.name tests.1 c.whole;
      directory = ap parent_of c.whole ∙ directory c.front c.name c.plain;
      named = ap name_of c.whole ∙ last-name c.front c.name c.plain;
      component = and_from _ _ one (not_from_false _ c.plain);
    }

-- the last name of a path may be that of a node
pub name_fits : (path : List ℕ) → is_path path ≡ true → is_component (name_of path) ≡ true
name_fits path h =
    let parts = path_parts path h in
    subst (λ name. is_component name ≡ true) (sym parts.named) parts.component

same-front : (front other : List ℕ) → (front ≡ root_path → ⊥) → (other ≡ root_path → ⊥) → or_root front ≡ or_root other → front ≡ other
same-front [] [] f o e = refl
same-front [] (b ∷ bs) f o e = absurd (o (sym e))
same-front (b ∷ bs) [] f o e = absurd (f e)
same-front (b ∷ bs) (c ∷ cs) f o e = e

-- the directory and the name tell the path
pub same_path : (path other : List ℕ) → is_path path ≡ true → is_path other ≡ true → parent_of path ≡ parent_of other → name_of path ≡ name_of other → path ≡ other
same_path path other p o d n =
    let parts = path_parts path p in
    let others = path_parts other o in
    let front : parts.front ≡ others.front = same-front parts.front others.front parts.inner others.inner (sym parts.directory ∙ (d ∙ others.directory)) in
    let name : parts.name ≡ others.name = sym parts.named ∙ (n ∙ others.named) in
    parts.whole ∙ (ap (λ front. front ++ 47 ∷ parts.name) front ∙ (ap (λ name. others.front ++ 47 ∷ name) name ∙ sym others.whole))
