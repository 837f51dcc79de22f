-- Texts that part behind common bytes have as many lines in common as end in these, and the next lines differ.
-- By induction on the common bytes: one more byte makes the first line longer, or is a line of its own.
use Rattle.std.proofs.Common.{inl, inr, ◌≡◌, ℕ, zero, suc, ◌+◌, ◌≤◌, true, false, List, [], ◌∷◌, ◌++◌, length, take, get_or, cond, refl, sym, ap, ◌∙◌, arith}
use Rattle.std.specs.Prelude.{◌==◌, ◌≢◌, slice_get, Some}
use Rattle.std.proofs.lemmas.Bool.{cases_Bool}
use Rattle.std.proofs.lemmas.List.Recursion.{is_count_by}
use Rattle.audit_check.specs.Lines.{before_lines, lines}
use Rattle.audit_check.specs.Pass.{PartBehind, ends}
use Rattle.audit_check.proofs.Cut.{line_alone, no_lines}

first-more : (b : ℕ) (rows : List (List ℕ)) → (b == 10) ≡ false → get_or (before_lines b rows) 0 [] ≡ b ∷ get_or rows 0 []
first-more b [] h = refl
first-more b (line ∷ rows) h = rw h refl

later-same : (b i : ℕ) (rows : List (List ℕ)) → (b == 10) ≡ false → get_or (before_lines b rows) (suc i) [] ≡ get_or rows (suc i) []
later-same b i [] h = refl
later-same b i (line ∷ rows) h = rw h refl

longer : (b : ℕ) (rows : List (List ℕ)) → (b == 10) ≡ false → length rows ≤ length (before_lines b rows)
longer b [] h = omega arith
longer b (line ∷ rows) h = rw h (omega arith)

front-same : (b n : ℕ) (rows others : List (List ℕ)) → (b == 10) ≡ false → take n rows ≡ take n others → take n (before_lines b rows) ≡ take n (before_lines b others)
front-same b zero rows others h q = refl
front-same b (suc n) [] [] h q = refl
front-same b (suc n) [] (y ∷ others) h q = cc
front-same b (suc n) (x ∷ rows) [] h q = cc
front-same b (suc n) (x ∷ rows) (y ∷ others) h q = rw h (let e : x ≡ y = cc in let t : take n rows ≡ take n others = cc in rw (e, t) refl)

-- the same count, byte by byte
counted : List ℕ → ℕ
counted [] = 0
counted (b ∷ bytes) = cond (b == 10) (1 + counted bytes) (counted bytes)

count-is : (bytes : List ℕ) → ends bytes ≡ counted bytes
unfolding counted
count-is bytes = sym (is_count_by counted (λ b. b == 10) refl (λ b more. refl) bytes)

ends-here : (b : ℕ) (common : List ℕ) → (b == 10) ≡ true → ends (b ∷ common) ≡ suc (ends common)
unfolding counted
ends-here b common h = count-is (b ∷ common) ∙ (ap (λ t. cond t (1 + counted common) (counted common)) h ∙ (let e : 1 + counted common ≡ suc (counted common) = omega arith in e ∙ ap suc (sym (count-is common))))

ends-later : (b : ℕ) (common : List ℕ) → (b == 10) ≡ false → ends (b ∷ common) ≡ ends common
unfolding counted
ends-later b common h = count-is (b ∷ common) ∙ (ap (λ t. cond t (1 + counted common) (counted common)) h ∙ sym (count-is common))

-- the rows are the same up to row n, where they differ
pub record Parts (n : ℕ) (rows others : List (List ℕ)) : Type 0 where
  pub same : take n rows ≡ take n others
  pub inside : n ≤ length others
  pub differ : get_or rows n [] ≡ get_or others n [] → ⊥

parts-ended : (b n : ℕ) (rows others : List (List ℕ)) → (b == 10) ≡ true → Parts n rows others → Parts (suc n) (before_lines b rows) (before_lines b others)
parts-ended b n rows others h p =
    rw (line_alone b rows h, line_alone b others h)
    (record { same = ap (λ more. (b ∷ []) ∷ more) p.same; inside = let l = p.inside in omega arith; differ = p.differ })

parts-more : (b n : ℕ) (rows others : List (List ℕ)) → (b == 10) ≡ false → Parts n rows others → Parts n (before_lines b rows) (before_lines b others)
parts-more b n rows others h p = record { same = front-same b n rows others h p.same; inside = (let l = p.inside in let m = longer b others h in omega arith); differ = differ n p.differ }
  where
    differ : (n : ℕ) → (get_or rows n [] ≡ get_or others n [] → ⊥) → get_or (before_lines b rows) n [] ≡ get_or (before_lines b others) n [] → ⊥
    differ zero d q = let e : b ∷ get_or rows 0 [] ≡ b ∷ get_or others 0 [] = sym (first-more b rows h) ∙ (q ∙ first-more b others h) in let f : get_or rows 0 [] ≡ get_or others 0 [] = cc in d f
    differ (suc i) d q = d (sym (later-same b i rows h) ∙ (q ∙ later-same b i others h))

first-byte : (b : ℕ) (text : List ℕ) → (line : List ℕ) × (get_or (lines (b ∷ text)) 0 [] ≡ b ∷ line)
unfolding lines
first-byte b text = by (lines text)
  where
    by : (rows : List (List ℕ)) → (line : List ℕ) × (get_or (before_lines b rows) 0 [] ≡ b ∷ line)
    by [] = ([], refl)
    by (line ∷ rows) = elim (cases_Bool (b == 10)) [
      | inl h ↦ ([], rw h refl)
      | inr h ↦ (line, rw h refl)
    ]

apart : (t r : List ℕ) → slice_get t 0 ≢ slice_get r 0 → get_or (lines t) 0 [] ≡ get_or (lines r) 0 [] → ⊥
apart [] [] h q = h refl
apart [] (b ∷ r) h q = let f = first-byte b r in let e : [] ≡ b ∷ f.0 = sym (ap (λ rows. get_or rows 0 []) no_lines) ∙ (q ∙ f.1) in cc
apart (a ∷ t) [] h q = let f = first-byte a t in let e : a ∷ f.0 ≡ [] = sym f.1 ∙ (q ∙ ap (λ rows. get_or rows 0 []) no_lines) in cc
apart (a ∷ t) (b ∷ r) h q =
    let f = first-byte a t in
    let g = first-byte b r in
    let e : a ∷ f.0 ≡ b ∷ g.0 = sym f.1 ∙ (q ∙ g.1) in
    let same : a ≡ b = cc in
    h (ap (λ c. Some c) same)

parts : (c t r : List ℕ) → slice_get t 0 ≢ slice_get r 0 → Parts (ends c) (lines (c ++ t)) (lines (c ++ r))
unfolding lines
parts [] t r h = record { same = refl; inside = omega arith; differ = apart t r h }
parts (b ∷ c) t r h = elim (cases_Bool (b == 10)) [
  | inl y ↦ rw (ends-here b c y) (parts-ended b (ends c) (lines (c ++ t)) (lines (c ++ r)) y (parts c t r h))
  | inr n ↦ rw (ends-later b c n) (parts-more b (ends c) (lines (c ++ t)) (lines (c ++ r)) n (parts c t r h))
]

pub parted : (common text other : List ℕ) → PartBehind common text other → Parts (ends common) (lines text) (lines other)
parted common text other p = rw (p.text_is, p.other_is) (parts common p.text_rest p.other_rest p.differ)
