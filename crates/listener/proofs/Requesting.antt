-- Requests in a list: whose they are, and which of them wait.
-- By induction on the requests, by cases on whether the first one is the worker's or passes the test.
use Rattle.std.proofs.Common.{◌≡◌, inl, inr, ℕ, ◌<◌, Bool, true, false, ◌||◌, not, List, [], ◌∷◌, ◌++◌, length, zero, suc, refl, sym, ap, ◌∙◌, subst, arith, get_or, set}
use Rattle.std.specs.Prelude.{filter, find, Some, None, Result, remove, position}
use Rattle.std.specs.List.{list_any, position_or_len}
use Rattle.std.proofs.lemmas.Bool.{cases_Bool, eq-eqb, eqb-true, both_ways, and_parts, or_parts, or_cases, or_left, or_right, not-true, false_from_ne_true, lt-ltb}
use Rattle.std.proofs.lemmas.List.Quantifiers.{position-Some}
use Rattle.listener.specs.State.{told}
use Rattle.listener.specs.declared.requests.Request.{Request}
use Rattle.listener.specs.Requests.{is_of, is_waiting, has_request, are_apart, are_workers, without}

-- ---- whose requests there are

pub has-filter : (w : ℕ) (p : Request → Bool) (qs : List Request) → has_request (filter p qs) w ≡ true → has_request qs w ≡ true
has-filter w p [] h = cc
has-filter w p (q ∷ qs) h = elim (cases_Bool (p q)) [
  | inl b ↦ elim (or_cases (is_of w q) (has_request (filter p qs) w) (rw b at h)) [
    | inl o ↦ or_left (is_of w q) (has_request qs w) o
    | inr o ↦ or_right (is_of w q) (has_request qs w) (has-filter w p qs o)
  ]
  | inr b ↦ or_right (is_of w q) (has_request qs w) (has-filter w p qs (rw b at h))
]

-- ---- no worker has two

-- the first request's worker has no other, and the others are apart
pub apart-parts : (q : Request) (qs : List Request) → are_apart (q ∷ qs) ≡ true → (has_request qs q.worker ≡ false) × (are_apart qs ≡ true)
apart-parts q qs h = let a = and_parts (not (has_request qs q.worker)) (are_apart qs) h in (not-true (has_request qs q.worker) a.0, a.1)

apart-own : (w : ℕ) (q : Request) (qs : List Request) → are_apart (q ∷ qs) ≡ true → is_of w q ≡ true → has_request qs w ≡ false
apart-own w q qs s h = ap (has_request qs) (sym (eqb-true q.worker w h)) ∙ (apart-parts q qs s).0

apart-other : (w : ℕ) (q : Request) (qs : List Request) → are_apart (q ∷ qs) ≡ true → has_request qs w ≡ true → is_of w q ≡ false
apart-other w q qs s h = false_from_ne_true (is_of w q) (λ z. both_ways (has_request qs w) (apart-own w q qs s z) h)

pub apart-filter : (p : Request → Bool) (qs : List Request) → are_apart qs ≡ true → are_apart (filter p qs) ≡ true
apart-filter p [] h = refl
apart-filter p (q ∷ qs) h =
    let a = apart-parts q qs h in
    let ih = apart-filter p qs a.1 in
    let n : has_request (filter p qs) q.worker ≡ false = false_from_ne_true (has_request (filter p qs) q.worker) (λ z. both_ways (has_request qs q.worker) a.0 (has-filter q.worker p qs z)) in
    elim (cases_Bool (p q)) [ inl b ↦ rw (b, n, ih) | inr b ↦ rw b ih ]

has-push : (w : ℕ) (qs : List Request) (q : Request) → has_request (qs ++ q ∷ []) w ≡ (has_request qs w || is_of w q)
has-push w [] q = grind arith
has-push w (x ∷ qs) q = rw (has-push w qs q) (grind arith)

pub apart-push : (qs : List Request) (q : Request) → are_apart qs ≡ true → has_request qs q.worker ≡ false → are_apart (qs ++ q ∷ []) ≡ true
apart-push [] q h f = refl
apart-push (x ∷ qs) q h f =
    let a = apart-parts x qs h in
    let b = or_parts (is_of q.worker x) (has_request qs q.worker) f in
    let n : is_of x.worker q ≡ false = false_from_ne_true (is_of x.worker q) (λ z. both_ways (is_of q.worker x) b.0 (eq-eqb x.worker q.worker (sym (eqb-true q.worker x.worker z)))) in
    let m = a.0 in
    rw (has-push x.worker qs q, m, n) (apart-push qs q a.1 b.1)

pub without-none : (w : ℕ) (qs : List Request) → has_request qs w ≡ false → without w qs ≡ qs
without-none w [] h = refl
without-none w (q ∷ qs) h = let p = or_parts (is_of w q) (has_request qs w) h in let b = p.0 in rw (b, without-none w qs p.1)

has-at : (w : ℕ) (qs : List Request) (i : ℕ) (d : Request) → i < length qs → is_of w (get_or qs i d) ≡ true → has_request qs w ≡ true
has-at w [] i d l h = absurd (omega (arith, l))
has-at w (q ∷ qs) zero d l h = or_left (is_of w q) (has_request qs w) h
has-at w (q ∷ qs) (suc i) d l h = or_right (is_of w q) (has_request qs w) (has-at w qs i d (omega (arith, l)) h)

-- the one request of a worker is taken off
pub remove-without : (w : ℕ) (qs : List Request) (i : ℕ) (d : Request) → i < length qs → is_of w (get_or qs i d) ≡ true → are_apart qs ≡ true → remove qs i ≡ without w qs
remove-without w [] i d l h s = absurd (omega (arith, l))
remove-without w (q ∷ qs) zero d l h s =
    rw (h, without-none w qs (apart-own w q qs s h))
remove-without w (q ∷ qs) (suc i) d l h s =
    let m : i < length qs = omega (arith, l) in
    rw (apart-other w q qs s (has-at w qs i d m h)) (ap (λ r. q ∷ r) (remove-without w qs i d m h (apart-parts q qs s).1))

-- what a test finds has a place
found-below : (p : Request → Bool) (qs : List Request) → list_any p qs ≡ true → position_or_len p qs < length qs
found-below p [] h = cc
found-below p (q ∷ qs) h = elim (cases_Bool (p q)) [
  | inl b ↦ rw b (omega arith)
  | inr b ↦ let ih = found-below p qs (rw b at h) in rw b (omega arith)
]

pub placed : (p : Request → Bool) (qs : List Request) → list_any p qs ≡ true → position p qs ≡ None → ⊥
placed p qs h n = let l = lt-ltb (position_or_len p qs) (length qs) (found-below p qs h) in let n' : Some (position_or_len p qs) ≡ None = rw l at n in cc

-- ---- the request at a place where its worker's stands

module _ (w : ℕ) (items qs : List Request) (i : ℕ) (same : items ≡ qs) (l : i < length qs) (its : (d : Request) → is_of w (get_or qs i d) ≡ true) (apart : are_apart items ≡ true) where
  inside : i < length items
  inside = subst (λ xs. i < length xs) (sym same) l

  own : (d : Request) → is_of w (get_or items i d) ≡ true
  own d = subst (λ xs. is_of w (get_or xs i d) ≡ true) (sym same) (its d)

  pub removed-at : (x : Request) → remove items i ≡ without w qs
  removed-at x = remove-without w items i x inside (own x) apart ∙ ap (without w) same

-- ---- the first that waits is told

told-by : (x : ℕ) (a : Result ℕ ℕ) (qs : List Request) (i : ℕ) (d : Request) → i < length qs → is_waiting x (get_or qs i d) ≡ true → ((k : ℕ) → k < i → is_waiting x (get_or qs k d) ≡ false) → set qs i (record (get_or qs i d) { result = Some a }) ≡ told x a qs
told-by x a [] i d l h n = absurd (omega (arith, l))
told-by x a (q ∷ qs) zero d l h n = rw h refl
told-by x a (q ∷ qs) (suc i) d l h n = rw (n 0 (omega arith)) (ap (λ r. q ∷ r) (told-by x a qs i d (omega (arith, l)) h (λ k m. n (suc k) (omega arith))))

pub told-at : (x : ℕ) (a : Result ℕ ℕ) (items qs : List Request) (i : ℕ) (y : Request) → items ≡ qs → y ≡ get_or items i y → position (is_waiting x) qs ≡ Some i → set items i (record y { result = Some a }) ≡ told x a qs
told-at x a items qs i y s e h =
    let p = position-Some (is_waiting x) qs i y h in
    ap (λ (z : Request). set items i (record z { result = Some a })) e ∙ (ap (λ xs. set xs i (record (get_or xs i y) { result = Some a })) s ∙ told-by x a qs i y p.0 p.1 p.2)

pub told-none : (x : ℕ) (a : Result ℕ ℕ) (qs : List Request) → position (is_waiting x) qs ≡ None → told x a qs ≡ qs
told-none x a qs h = go qs (false_from_ne_true (list_any (is_waiting x) qs) (λ z. placed (is_waiting x) qs z h))
  where
    go : (qs : List Request) → list_any (is_waiting x) qs ≡ false → told x a qs ≡ qs
    go [] h = refl
    go (q ∷ qs) h = let p = or_parts (is_waiting x q) (list_any (is_waiting x) qs) h in rw (p.0, go qs p.1) refl

has-told : (w x : ℕ) (a : Result ℕ ℕ) (qs : List Request) → has_request (told x a qs) w ≡ has_request qs w
has-told w x a [] = refl
has-told w x a (q ∷ qs) = elim (cases_Bool (is_waiting x q)) [ inl b ↦ rw b refl | inr b ↦ rw (b, has-told w x a qs) refl ]

pub apart-told : (x : ℕ) (a : Result ℕ ℕ) (qs : List Request) → are_apart (told x a qs) ≡ are_apart qs
apart-told x a [] = refl
apart-told x a (q ∷ qs) = elim (cases_Bool (is_waiting x q)) [ inl b ↦ rw b refl | inr b ↦ rw (b, has-told q.worker x a qs, apart-told x a qs) refl ]

pub workers-told : (x : ℕ) (a : Result ℕ ℕ) (qs : List Request) → are_workers (told x a qs) ≡ are_workers qs
workers-told x a [] = refl
workers-told x a (q ∷ qs) = elim (cases_Bool (is_waiting x q)) [ inl b ↦ rw b refl | inr b ↦ rw (b, workers-told x a qs) refl ]

-- what one passes is found
pub found-one : (p : Request → Bool) (qs : List Request) → list_any p qs ≡ true → find p qs ≡ None → ⊥
found-one p [] h n = cc
found-one p (q ∷ qs) h n = elim (cases_Bool (p q)) [ inl b ↦ let z : Some q ≡ None = rw b at n in cc | inr b ↦ found-one p qs (rw b at h) (rw b at n) ]
