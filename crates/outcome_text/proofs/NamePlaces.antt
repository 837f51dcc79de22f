-- A name is put among names in their order where the first stands that it stands before.
-- By what stands at that place, and the names in front of it.
use Rattle.std.proofs.Common.{◌≡◌, ℕ, ◌+◌, ◌<◌, ◌≤◌, true, false, List, [], ◌∷◌, ◌++◌, length, get_or, take, drop, sym, ap, ap₂, ◌∙◌, append_assoc, arith}
use Rattle.std.specs.Prelude.{if◌then◌else◌}
use Rattle.std.specs.List.{insert}
use Rattle.std.proofs.lemmas.List.{drop_more, take_more, take_all, drop_all}
use Rattle.hist_model.specs.Look.{Name}
use Rattle.outcome_text.specs.Outcomes.{stands_before, with_name}

-- the names before a place stay in front
abbrev pub StaysBefore : Name → List Name → ℕ → Type 0
StaysBefore n names i = take i names ++ with_name n (drop i names) ≡ with_name n names

at-place : (n : Name) (names : List Name) (i : ℕ) (m : Name) → i < length names → m ≡ get_or names i m
    → with_name n (drop i names) ≡ (if stands_before n m then n ∷ m ∷ drop (i + 1) names else m ∷ with_name n (drop (i + 1) names))
at-place n names i m l is = ap (with_name n) (drop_more names i m l ∙ ap (λ x. x ∷ drop (i + 1) names) (sym is))

pub placed_here : (n : Name) (names : List Name) (i : ℕ) (m : Name) → i < length names → m ≡ get_or names i m → stands_before n m ≡ true → StaysBefore n names i → insert names i n ≡ with_name n names
placed_here n names i m l is before h =
    let here : with_name n (drop i names) ≡ n ∷ drop i names =
    at-place n names i m l is ∙ ap (λ b. if b then n ∷ m ∷ drop (i + 1) names else m ∷ with_name n (drop (i + 1) names)) before
    ∙ ap (λ xs. n ∷ xs) (sym (drop_more names i m l ∙ ap (λ x. x ∷ drop (i + 1) names) (sym is))) in
    ap (λ xs. take i names ++ xs) (sym here) ∙ h

pub one_before : (n : Name) (names : List Name) (i : ℕ) (m : Name) → i < length names → m ≡ get_or names i m → stands_before n m ≡ false → StaysBefore n names i → StaysBefore n names (i + 1)
one_before n names i m l is behind h =
    let here : with_name n (drop i names) ≡ m ∷ with_name n (drop (i + 1) names) =
    at-place n names i m l is ∙ ap (λ b. if b then n ∷ m ∷ drop (i + 1) names else m ∷ with_name n (drop (i + 1) names)) behind in
    ap (λ xs. xs ++ with_name n (drop (i + 1) names)) (take_more names i m l ∙ ap (λ x. take i names ++ x ∷ []) (sym is))
    ∙ (append_assoc (take i names) (m ∷ []) (with_name n (drop (i + 1) names)) ∙ (ap (λ xs. take i names ++ xs) (sym here) ∙ h))

pub placed_last : (n : Name) (names : List Name) (i j : ℕ) → length names ≤ i → j ≡ length names → StaysBefore n names i → insert names j n ≡ with_name n names
placed_last n names i j l q h =
    let end : StaysBefore n names (length names) = ap₂ (λ xs ys. xs ++ with_name n ys) (take_all (length names) names (omega arith) ∙ sym (take_all i names l)) (drop_all (length names) names (omega arith) ∙ sym (drop_all i names l)) ∙ h in
    let none : drop (length names) names ≡ [] = drop_all (length names) names (omega arith) in
    rw q (ap (λ ys. take (length names) names ++ n ∷ ys) none ∙ (ap (λ ys. take (length names) names ++ with_name n ys) (sym none) ∙ end))
