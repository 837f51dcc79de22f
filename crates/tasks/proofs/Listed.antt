-- What is counted in lists, and names as their parents' with a last number.
-- By induction on the lists.
use Rattle.std.proofs.Common.{◌≡◌, ℕ, zero, suc, ◌+◌, ◌-◌, ◌≤◌, Bool, false, List, [], ◌∷◌, ◌++◌, length, set, Some, refl, sym, ap, ◌∙◌, arith}
use Rattle.std.specs.Prelude.{if◌then◌else◌, count_by}
use Rattle.std.specs.List.{slice_get}
use Rattle.std.proofs.lemmas.List.{take_at, length-append}
use Rattle.std.proofs.lemmas.List.Sums.{sum_by-cons, sum_by-set, sum_by_push}
use Rattle.std.proofs.lemmas.Option.{slice_get_within, get_or_from_slice_get}
use Rattle.hist_model.specs.Look.{Name}
use Rattle.hist_model.specs.Tasks.{parent}
pub use Rattle.sorted_list.proofs.Places.{get-snoc, get-set, get-put, get-other, set-set, set-snoc, get-within, get-there, same-lists, get-more, get-last, get-removed, still-there}

pub snoc-nil : (n : Name) (k : ℕ) → n ++ k ∷ [] ≡ [] → ⊥
snoc-nil [] k q = cc
snoc-nil (x ∷ n) k q = cc

-- a list with a last number has no other parts
pub snoc-parts : (m n : Name) (k j : ℕ) → m ++ k ∷ [] ≡ n ++ j ∷ [] → (m ≡ n) × (k ≡ j)
snoc-parts [] [] k j q = (refl, cc)
snoc-parts [] (y ∷ n) k j q = let h : n ++ j ∷ [] ≡ [] = cc in absurd (snoc-nil n j h)
snoc-parts (x ∷ m) [] k j q = let h : m ++ k ∷ [] ≡ [] = cc in absurd (snoc-nil m k h)
snoc-parts (x ∷ m) (y ∷ n) k j q =
    let h : x ≡ y = cc in
    let t : m ++ k ∷ [] ≡ n ++ j ∷ [] = cc in
    let p = snoc-parts m n k j t in
    (let r = p.0 in cc, p.1)

pub parent-snoc : (m : Name) (k : ℕ) → parent (m ++ k ∷ []) ≡ m
parent-snoc m k = take_at m (k ∷ []) (length (m ++ k ∷ []) - 1) (omega (arith, length-append m (k ∷ [])))

-- ---- what is counted

abbrev pub one : Bool → ℕ
one b = if b then 1 else 0

pub count-put : {X : Type 0} (test : X → Bool) (xs : List X) (i : ℕ) (old new : X) → slice_get xs i ≡ Some old → count_by test (set xs i new) + one (test old) ≡ count_by test xs + one (test new)
count-put test xs i old new q =
    let g = get_or_from_slice_get xs i old old q in
    let s = sum_by-set (λ x. one (test x)) xs i new old (slice_get_within xs i old q) in
    ap (λ x. count_by test (set xs i new) + one (test x)) (sym g) ∙ s

pub count-added : {X : Type 0} (test : X → Bool) (xs : List X) (y : X) → count_by test (xs ++ y ∷ []) ≡ count_by test xs + one (test y)
count-added test xs y = sum_by_push (λ x. one (test x)) xs y

pub count-has : {X : Type 0} (test : X → Bool) (xs : List X) (i : ℕ) (x : X) → slice_get xs i ≡ Some x → one (test x) ≤ count_by test xs
count-has test [] i x q = absurd (cc)
count-has test (y ∷ xs) zero x q = let e : y ≡ x = cc in rw (← e) (omega (arith, sum_by-cons (λ x. one (test x)) y xs))
count-has test (y ∷ xs) (suc i) x q = omega (arith, sum_by-cons (λ x. one (test x)) y xs, count-has test xs i x q)

pub count-none : {X : Type 0} (test : X → Bool) (xs : List X) → ((i : ℕ) (x : X) → slice_get xs i ≡ Some x → test x ≡ false) → count_by test xs ≡ 0
count-none test [] h = refl
count-none test (y ∷ xs) h = let z = h 0 y refl in omega (arith, sum_by-cons (λ x. one (test x)) y xs, ap one z, count-none test xs (λ i x q. h (suc i) x q))
