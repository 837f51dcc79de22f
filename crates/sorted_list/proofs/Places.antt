-- Lists by place: what stands at one after an element was written, added or removed.
-- By induction on the list.
use Rattle.std.proofs.Common.{◌≡◌, ◌⊎◌, inl, inr, ℕ, zero, suc, ◌<◌, ◌≤◌, List, [], ◌∷◌, ◌++◌, length, set, Some, refl, ap, arith}
use Rattle.std.specs.List.{slice_get, remove}
use Rattle.std.proofs.lemmas.Option.{slice_get_within}

-- what a list with one more item has at a place
pub get-snoc : {X : Type 0} → (xs : List X) (x y : X) (j : ℕ) → slice_get (xs ++ x ∷ []) j ≡ Some y → (slice_get xs j ≡ Some y) ⊎ ((j ≡ length xs) × (x ≡ y))
get-snoc [] x y zero q = inr (refl, cc)
get-snoc [] x y (suc j) q = cc
get-snoc (z ∷ xs) x y zero q = inl q
get-snoc (z ∷ xs) x y (suc j) q = elim (get-snoc xs x y j q) [ inl p ↦ inl p | inr p ↦ inr (ap suc p.0, p.1) ]

-- and one with another item in a place
pub get-set : {X : Type 0} → (xs : List X) (i j : ℕ) (x y : X) → slice_get (set xs i x) j ≡ Some y → ((j ≡ i) × (x ≡ y)) ⊎ ((j ≡ i → ⊥) × (slice_get xs j ≡ Some y))
get-set [] i j x y q = cc
get-set (z ∷ xs) zero zero x y q = inl (refl, cc)
get-set (z ∷ xs) zero (suc j) x y q = inr ((λ h. omega arith), q)
get-set (z ∷ xs) (suc i) zero x y q = inr ((λ h. omega arith), q)
get-set (z ∷ xs) (suc i) (suc j) x y q = elim (get-set xs i j x y q) [ inl p ↦ inl (ap suc p.0, p.1) | inr p ↦ inr ((λ h. p.0 (omega arith)), p.1) ]

-- ---- a list in which one element was put in the place of another

pub get-put : {X : Type 0} → (xs : List X) (o : ℕ) (x y : X) → slice_get xs o ≡ Some y → slice_get (set xs o x) o ≡ Some x
get-put [] o x y q = cc
get-put (z ∷ xs) zero x y q = refl
get-put (z ∷ xs) (suc o) x y q = get-put xs o x y q

pub get-other : {X : Type 0} → (xs : List X) (o j : ℕ) (x : X) → (j ≡ o → ⊥) → slice_get (set xs o x) j ≡ slice_get xs j
get-other [] o j x n = refl
get-other (z ∷ xs) zero zero x n = absurd (n refl)
get-other (z ∷ xs) zero (suc j) x n = refl
get-other (z ∷ xs) (suc o) zero x n = refl
get-other (z ∷ xs) (suc o) (suc j) x n = get-other xs o j x (λ q. n (ap suc q))

pub set-set : {X : Type 0} → (xs : List X) (o : ℕ) (x y : X) → set (set xs o x) o y ≡ set xs o y
set-set {X = X} [] o x y = refl
set-set {X = X} (z ∷ xs) zero x y = refl
set-set {X = X} (z ∷ xs) (suc o) x y = ap (λ (s : List X). z ∷ s) (set-set xs o x y)

pub set-snoc : {X : Type 0} → (xs : List X) (o : ℕ) (x y z : X) → slice_get xs o ≡ Some z → set (xs ++ x ∷ []) o y ≡ set xs o y ++ x ∷ []
set-snoc {X = X} [] o x y z q = cc
set-snoc {X = X} (v ∷ xs) zero x y z q = refl
set-snoc {X = X} (v ∷ xs) (suc o) x y z q = ap (λ (s : List X). v ∷ s) (set-snoc xs o x y z q)

-- ---- two lists of one length

pub get-within : {X : Type 0} → (xs : List X) (o : ℕ) → o < length xs → (x : X) × (slice_get xs o ≡ Some x)
get-within [] o l = absurd (omega arith)
get-within (x ∷ xs) zero l = (x, refl)
get-within (x ∷ xs) (suc o) l = get-within xs o (omega arith)

pub get-there : {X Y : Type 0} → (xs : List X) (ys : List Y) (o : ℕ) (x : X) → length ys ≡ length xs → slice_get xs o ≡ Some x → (y : Y) × (slice_get ys o ≡ Some y)
get-there xs ys o x l q = get-within ys o (omega (arith, l, slice_get_within xs o x q))

pub same-lists : {X : Type 0} → (xs ys : List X) → length xs ≡ length ys → ((o : ℕ) (x y : X) → slice_get xs o ≡ Some x → slice_get ys o ≡ Some y → x ≡ y) → xs ≡ ys
same-lists [] [] l h = refl
same-lists [] (y ∷ ys) l h = cc
same-lists (x ∷ xs) [] l h = cc
same-lists (x ∷ xs) (y ∷ ys) l h =
    let a : x ≡ y = h 0 x y refl refl in
    let b : xs ≡ ys = same-lists xs ys (omega arith) (λ o u v p q. h (suc o) u v p q) in
    rw (a, b)

-- ---- an element more

pub get-more : {X : Type 0} → (xs : List X) (x y : X) (j : ℕ) → slice_get xs j ≡ Some y → slice_get (xs ++ x ∷ []) j ≡ Some y
get-more [] x y j q = cc
get-more (z ∷ xs) x y zero q = q
get-more (z ∷ xs) x y (suc j) q = get-more xs x y j q

pub get-last : {X : Type 0} → (xs : List X) (x : X) → slice_get (xs ++ x ∷ []) (length xs) ≡ Some x
get-last [] x = refl
get-last (z ∷ xs) x = get-last xs x

-- ---- an element less

pub get-removed : {X : Type 0} → (xs : List X) (k j : ℕ) (x : X) → slice_get (remove xs k) j ≡ Some x → ((j < k) × (slice_get xs j ≡ Some x)) ⊎ ((k ≤ j) × (slice_get xs (suc j) ≡ Some x))
get-removed [] zero j x q = cc
get-removed [] (suc k) j x q = cc
get-removed (y ∷ xs) zero j x q = inr (omega arith, q)
get-removed (y ∷ xs) (suc k) zero x q = inl (omega arith, q)
get-removed (y ∷ xs) (suc k) (suc j) x q = elim (get-removed xs k j x q) [
  | inl p ↦ inl (omega (arith, p.0), p.1)
  | inr p ↦ inr (omega (arith, p.0), p.1)
]

pub still-there : {X : Type 0} → (xs : List X) (k j : ℕ) (x : X) → slice_get xs j ≡ Some x → (j ≡ k → ⊥) → (i : ℕ) × (slice_get (remove xs k) i ≡ Some x)
still-there [] k j x q n = cc
still-there (y ∷ xs) zero zero x q n = absurd (n refl)
still-there (y ∷ xs) zero (suc j) x q n = (j, q)
still-there (y ∷ xs) (suc k) zero x q n = (0, q)
still-there (y ∷ xs) (suc k) (suc j) x q n = let i = still-there xs k j x q (λ z. n (ap suc z)) in (suc i.0, i.1)
