-- A path and its first component.
-- By induction on the bytes of the path, with cases on whether the first one is a slash.
use Rattle.std.proofs.Common.{◌≡◌, ℕ, suc, ◌<◌, ◌≤◌, List, [], ◌∷◌, ◌++◌, length, take, drop, inl, inr, refl, ap, ◌∙◌, arith}
use Rattle.std.specs.Prelude.{◌==◌, filter}
use Rattle.std.proofs.lemmas.Bool.{cases_Bool}
use Rattle.std.proofs.lemmas.List.{append-nil, length-take-le}
use Rattle.hist_model.specs.Paths.{pieces, onto_first, has_bytes, components}
use Rattle.path_walk.specs.Components.{leading_slashes, name_length}

-- with more bytes before the first piece
onto : List ℕ → List (List ℕ) → List (List ℕ)
onto c [] = c ∷ []
onto c (p ∷ ps) = (c ++ p) ∷ ps

onto_more : (ps : List (List ℕ)) (b : ℕ) (bs : List ℕ) → onto_first b (onto bs ps) ≡ onto (b ∷ bs) ps
unfolding onto
onto_more [] b bs = refl
onto_more (p ∷ ps) b bs = refl

-- the slashes before the first component don't matter
pub components_skip : (p : List ℕ) → components (drop (leading_slashes p) p) ≡ components p
unfolding pieces
components_skip [] = refl
components_skip (b ∷ bs) = elim (cases_Bool (b == 47)) [ inl h ↦ rw h (components_skip bs) | inr h ↦ rw h (rw h) ]

pub slashes_skip : (p : List ℕ) → leading_slashes (drop (leading_slashes p) p) ≡ 0
slashes_skip [] = refl
slashes_skip (b ∷ bs) = elim (cases_Bool (b == 47)) [ inl h ↦ rw h (slashes_skip bs) | inr h ↦ rw h (rw h) ]

pub slashes_within : (p : List ℕ) → leading_slashes p ≤ length p
slashes_within [] = omega arith
slashes_within (b ∷ bs) =
    let ih = slashes_within bs in elim (cases_Bool (b == 47)) [ inl h ↦ rw h (omega arith) | inr h ↦ rw h (omega arith) ]

pub name_within : (p : List ℕ) → name_length p ≤ length p
name_within [] = omega arith
name_within (b ∷ bs) =
    let ih = name_within bs in elim (cases_Bool (b == 47)) [ inl h ↦ rw h (omega arith) | inr h ↦ rw h (omega arith) ]

-- the bytes before the first slash belong to the first piece
pieces_split : (p : List ℕ) → pieces p ≡ onto (take (name_length p) p) (pieces (drop (name_length p) p))
unfolding pieces onto
pieces_split [] = refl
pieces_split (b ∷ bs) =
    elim (cases_Bool (b == 47)) [
      | inl h ↦ rw h (rw h)
      | inr h ↦ rw h (ap (onto_first b) (pieces_split bs) ∙ onto_more (pieces (drop (name_length bs) bs)) b (take (name_length bs) bs))
    ]

-- after the bytes before the first slash comes an empty piece
pieces_after : (p : List ℕ) → (ps : List (List ℕ)) × (pieces (drop (name_length p) p) ≡ [] ∷ ps)
unfolding pieces
pieces_after [] = ([], refl)
pieces_after (b ∷ bs) =
    elim (cases_Bool (b == 47)) [
      | inl h ↦ (pieces bs, rw h (rw h))
      | inr h ↦ rw h (pieces_after bs)
    ]

filtered : (c : List ℕ) (ps qs : List (List ℕ)) → 0 < length c → qs ≡ [] ∷ ps → filter has_bytes (onto c qs) ≡ c ∷ filter has_bytes qs
unfolding onto
filtered [] ps qs h e = absurd (omega arith)
filtered (b ∷ bs) ps qs h e = rw e (ap (λ (x : List ℕ). (b ∷ x) ∷ filter has_bytes ps) (append-nil bs))

pub name_some : (p : List ℕ) → leading_slashes p ≡ 0 → 0 < length p → 0 < name_length p
name_some [] z h = h
name_some (b ∷ bs) z h =
    elim (cases_Bool (b == 47)) [
      | inl q ↦ let y : suc (leading_slashes bs) ≡ 0 = rw q at z in absurd (omega arith)
      | inr q ↦ rw q (omega arith)
    ]

-- a path that begins with a component
pub components_split : (p : List ℕ) → leading_slashes p ≡ 0 → 0 < length p
    → components p ≡ take (name_length p) p ∷ components (drop (name_length p) p)
components_split p z h =
    let after = pieces_after p in
    let some = name_some p z h in
    let long : 0 < length (take (name_length p) p) = rw (length-take-le (name_length p) p (name_within p)) some in
    ap (filter has_bytes) (pieces_split p) ∙ filtered (take (name_length p) p) after.0 (pieces (drop (name_length p) p)) long after.1
