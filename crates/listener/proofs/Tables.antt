-- The state that a queue is, after its entries have changed.
-- By arithmetic modulo 2 ^ 64 on ids and numbers, and by induction on the entries.
use Rattle.std.proofs.Common.{◌≡◌, inl, inr, ℕ, suc, ◌+◌, ◌%◌, ◌^◌, ◌<◌, ◌≤◌, Bool, true, false, ◌||◌, not, List, [], ◌∷◌, Option, Some, refl, sym, ap, ◌∙◌, arith}
use Rattle.std.specs.Prelude.{map, filter, find, All, option_map, slice_index_or, nat_lt, nat_le, ◌==◌}
use Rattle.std.proofs.lemmas.Bool.{cases_Bool, cases_eq, cases_lt, eq-eqb, ne_eqb, eqb-true, le-leb, lt-leb, lt-ltb, le-ltb}
use Rattle.std.proofs.lemmas.List.Elements.{All-nil, All-cons}
use Rattle.hist_model.specs.Look.{Name}
use Rattle.hist_model.specs.declared.notification.Reply.{Reply}
use Rattle.listener.specs.declared.order.Entry.{Entry}
use Rattle.listener.specs.declared.queue.Queue.{Queue}
use Rattle.listener.specs.State.{Row, has_id, fetch, answer}
use Rattle.sorted_list.specs.Entries.{NumbersRise}
use Rattle.sorted_list.proofs.Found.{rise-tail}
use Rattle.listener.specs.Entries.{AreBelow, entry_number, has_number, replied}
use Rattle.listener.specs.Table.{row, number_of}
use Rattle.listener.proofs.Lists.{map-same, map-map, filter-map, find-map, find-same, filter-same}

-- the call of an id is that of its number
number-id : (f n x : ℕ) → f < 2 ^ 64 → n < 2 ^ 64 → x < 2 ^ 64 → ((f + n) % 2 ^ 64 == x) ≡ (n == number_of f x)
number-id f n x a b c = elim (cases_eq n (number_of f x)) [
  | inl q ↦ eq-eqb ((f + n) % 2 ^ 64) x (omega arith) ∙ sym (eq-eqb n (number_of f x) q)
  | inr q ↦ ne_eqb ((f + n) % 2 ^ 64) x (λ z. q (omega arith)) ∙ sym (ne_eqb n (number_of f x) q)
]

-- what is true of the entries of a queue
pub record AreEntries (f n : ℕ) (xs : List Entry) : Type 0 where
  pub fits : f < 2 ^ 64
  pub few : n < 2 ^ 64
  pub below : AreBelow n xs

module _ (f n s x : ℕ) (names : ℕ → Name) (xs : List Entry) (h : AreEntries f n xs) (l : x < 2 ^ 64) where
  has : All (λ e. has_id x (row f s names e) ≡ has_number (number_of f x) e) xs
  has k d m = number-id f _ x h.fits (omega (arith, h.below k d m, h.few)) l

  found : find (has_id x) (map (row f s names) xs) ≡ option_map (row f s names) (find (has_number (number_of f x)) xs)
  found = find-map (has_id x) (row f s names) xs ∙ ap (option_map (row f s names)) (find-same (λ e. has_id x (row f s names e)) (has_number (number_of f x)) xs has)

  left : map (row f s names) (filter (λ e. not (has_number (number_of f x) e)) xs) ≡ filter (λ r. not (has_id x r)) (map (row f s names) xs)
  left = sym (filter-map (λ r. not (has_id x r)) (row f s names) xs ∙ ap (map (row f s names)) (filter-same (λ e. not (has_id x (row f s names e))) (λ e. not (has_number (number_of f x) e)) xs (λ k d m. ap not (has k d m))))

  answered : (y : Option Reply) → map (row f s names) (map (replied (number_of f x) y) xs) ≡ map (answer x y) (map (row f s names) xs)
  answered y = map-map (row f s names) (replied (number_of f x) y) xs ∙ (map-same _ _ xs (λ k d m. one (slice_index_or xs k d) (has k d m)) ∙ sym (map-map (answer x y) (row f s names) xs))
    where
      one : (e : Entry) → has_id x (row f s names e) ≡ has_number (number_of f x) e → row f s names (replied (number_of f x) y e) ≡ answer x y (row f s names e)
      one e q = elim (cases_Bool (has_number (number_of f x) e)) [ inl b ↦ rw (q, b) | inr b ↦ rw (q, b) ]

-- the same of a queue
module _ (Q : Queue) where
  pub entries : AreEntries Q.first Q.order.entered Q.order.entries.items
  entries = record { fits = Q.fits; few = Q.few; below = Q.order.below }

  module _ (names : ℕ → Name) (x : ℕ) (l : x < 2 ^ 64) where
    pub found-in : find (has_id x) (map (row Q.first Q.fetched names) Q.order.entries.items) ≡ option_map (row Q.first Q.fetched names) (find (has_number (number_of Q.first x)) Q.order.entries.items)
    found-in = found Q.first Q.order.entered Q.fetched x names Q.order.entries.items entries l

    pub left-in : map (row Q.first Q.fetched names) (filter (λ e. not (has_number (number_of Q.first x) e)) Q.order.entries.items) ≡ filter (λ r. not (has_id x r)) (map (row Q.first Q.fetched names) Q.order.entries.items)
    left-in = left Q.first Q.order.entered Q.fetched x names Q.order.entries.items entries l

    pub answered-in : (y : Option Reply) → map (row Q.first Q.fetched names) (map (replied (number_of Q.first x) y) Q.order.entries.items) ≡ map (answer x y) (map (row Q.first Q.fetched names) Q.order.entries.items)
    answered-in y = answered Q.first Q.order.entered Q.fetched x names Q.order.entries.items entries l y

-- the oldest that wasn't fetched is the first from a number on
pub oldest-first : (f s : ℕ) (names : ℕ → Name) (xs : List Entry) → find (λ (r : Row). not r.fetched) (map (row f s names) xs) ≡ option_map (row f s names) (find (λ (e : Entry). nat_le s e.number) xs)
oldest-first f s names xs = find-map (λ (r : Row). not r.fetched) (row f s names) xs ∙ ap (option_map (row f s names)) (find-same (λ (e : Entry). not (nat_lt e.number s)) (λ (e : Entry). nat_le s e.number) xs (λ k d l. by (slice_index_or xs k d).number))
  where
    by : (n : ℕ) → not (nat_lt n s) ≡ nat_le s n
    by n = elim (cases_lt n s) [ inl l ↦ rw (lt-ltb n s l, lt-leb s n l) | inr l ↦ rw (le-ltb n s l, le-leb s n l) ]

found-from : (s : ℕ) (xs : List Entry) (e : Entry) → find (λ (e : Entry). nat_le s e.number) xs ≡ Some e → s ≤ e.number
found-from s [] e q = cc
found-from s (x ∷ xs) e q = elim (cases_lt x.number s) [
  | inl l ↦ found-from s xs e (rw (lt-leb s x.number l) at q)
  | inr l ↦ let z : Some x ≡ Some e = rw (le-leb s x.number l) at q in let w : x ≡ e = cc in rw (← w) l
]

-- how a receive of the call with number n changes the one with number m
now-fetched : (f s n m : ℕ) → f < 2 ^ 64 → n < 2 ^ 64 → m < 2 ^ 64 → s ≤ n → (m < n → m < s) → nat_lt m (n + 1) ≡ (((f + n) % 2 ^ 64 == (f + m) % 2 ^ 64) || nat_lt m s)
now-fetched f s n m a b c l o = elim (cases_lt m s) [
  | inl h ↦ rw (lt-ltb m (n + 1) (omega arith), lt-ltb m s h) (sym (or-true ((f + n) % 2 ^ 64 == (f + m) % 2 ^ 64)))
  | inr h ↦ elim (cases_eq m n) [
    | inl q ↦ rw (lt-ltb m (n + 1) (omega arith), eq-eqb ((f + n) % 2 ^ 64) ((f + m) % 2 ^ 64) (omega arith))
    | inr q ↦ let g : n < m = elim (cases_lt m n) [ inl g ↦ absurd (omega (arith, o g)) | inr g ↦ omega (arith, q) ] in rw (le-ltb m (n + 1) (omega arith), le-ltb m s h, ne_eqb ((f + n) % 2 ^ 64) ((f + m) % 2 ^ 64) (λ z. omega arith))
  ]
]
  where
    or-true : (b : Bool) → (b || true) ≡ true
    or-true true = refl
    or-true false = refl

-- an entry before the first from a number on is below it
before-first : (s : ℕ) (xs : List Entry) (e : Entry) → NumbersRise entry_number xs → find (λ (e : Entry). nat_le s e.number) xs ≡ Some e → All (λ (x : Entry). x.number < e.number → x.number < s) xs
before-first s [] e r q = All-nil (λ (x : Entry). x.number < e.number → x.number < s)
before-first s (x ∷ xs) e r q = elim (cases_lt x.number s) [
  | inl l ↦ All-cons (λ (x : Entry). x.number < e.number → x.number < s) x xs (λ g. l) (before-first s xs e (rise-tail entry_number x xs r) (rw (lt-leb s x.number l) at q))
  | inr l ↦
      let z : Some x ≡ Some e = rw (le-leb s x.number l) at q in let w : x ≡ e = cc in
      rw (← w) (All-cons (λ (y : Entry). y.number < x.number → y.number < s) x xs (λ g. absurd (omega arith)) (λ k d m g. absurd (omega (arith, r 0 (suc k) d (omega arith) (omega arith)))))
]

-- a receive of the oldest that wasn't fetched
pub fetched-to : (f s t : ℕ) (names : ℕ → Name) (xs : List Entry) (e : Entry) → AreEntries f t xs → NumbersRise entry_number xs → e.number < t → find (λ (e : Entry). nat_le s e.number) xs ≡ Some e
    → map (row f (e.number + 1) names) xs ≡ map (fetch ((f + e.number) % 2 ^ 64)) (map (row f s names) xs)
fetched-to f s t names xs e h r l q =
    map-same _ _ xs (λ k d m.
    let y = slice_index_or xs k d in
    ap (λ b. record (row f s names y) { fetched = b }) (now-fetched f s e.number y.number h.fits (omega (arith, h.few)) (omega (arith, h.below k d m, h.few)) (found-from s xs e q) (before-first s xs e r q k d m)))
    ∙ sym (map-map (fetch ((f + e.number) % 2 ^ 64)) (row f s names) xs)

pub found-number : (n : ℕ) (xs : List Entry) (e : Entry) → find (has_number n) xs ≡ Some e → e.number ≡ n
found-number n [] e q = cc
found-number n (x ∷ xs) e q = elim (cases_Bool (has_number n x)) [
  | inl b ↦ let z : Some x ≡ Some e = rw b at q in let w : x ≡ e = cc in ap (λ (x : Entry). x.number) (sym w) ∙ eqb-true x.number n b
  | inr b ↦ found-number n xs e (rw b at q)
]
