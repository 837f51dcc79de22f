-- Pages, and what lists of them have.
-- By arithmetic on the counts of the pages, by `stored-cases` for each byte, and by induction on the bytes that are read.
use Rattle.std.proofs.Common.{◌≡◌, ◌≢◌, ◌⊎◌, inl, inr, ℕ, zero, suc, ◌+◌, ◌-◌, ◌*◌, ◌/◌, ◌%◌, ◌<◌, ◌≤◌, List, [], ◌∷◌, ◌++◌, length, get_or, take, drop, Option, Some, None, refl, sym, ap, ◌∙◌, arith, add-zero, zero-add, min, append_assoc, append-nil, length-append}
use Rattle.std.specs.Prelude.{slice_index}
use Rattle.std.proofs.lemmas.Bool.{cases_eq, cases_lt, le-leb, lt-leb}
use Rattle.std.proofs.Math.Seq.{take-add}
use Rattle.std.proofs.lemmas.List.{drop-drop, get_or_append_left, get_or-append_right, length-take-le}
use Rattle.std.proofs.lemmas.Option.{slice_get_past, slice_get-get_or}
use Rattle.hist_model.specs.Memory.{byte_or, byte_stored}
use Rattle.task_groups.specs.declared.list.PageEntry.{PageEntry}
use Rattle.task_groups.specs.declared.pages.Pages.{Pages}
use Rattle.task_groups.specs.Lists.{slot_of, uses_in, one_if, one_if_some}
use Rattle.task_groups.specs.Pages.{count_at, bytes_at, bytes_at_some, byte_in, bytes_from, IsStore, IsList, IsApart, HasPages, pages_touched, IsLeft, IsLeftBySome, IsPageAdded, IsOwned, IsPut, IsStored, IsSharedOnce, IsShared, IsLeftByAll}
use Rattle.task_groups.proofs.Lists.{IsListed, slot-uses, some-uses, two-numbers, one-same, one-other, uses-push, uses-none}

-- bytes are the same where the pages that are listed have the same
pub same-bytes : (P Q : Pages) (xs : List PageEntry) → ((p : ℕ) → 0 < uses_in xs p → bytes_at Q p ≡ bytes_at P p) → (b : ℕ) → byte_in Q xs b ≡ byte_in P xs b
same-bytes P Q xs h b = at (slot_of xs (b / 4096)) refl
  where
    at : (s : Option ℕ) → slot_of xs (b / 4096) ≡ s → byte_in Q xs b ≡ byte_in P xs b
    at None q = rw q refl
    at (Some p) q = rw q (ap (λ (ys : List ℕ). slice_index ys (b % 4096)) (h p (slot-uses xs (b / 4096) p q)))

pub left-none : (P : Pages) → IsLeftByAll P [] P
left-none P = record { count = λ p. omega (arith, uses-none p); bytes = λ p l. refl }

pub left-more : (P Q R : Pages) (xs : List PageEntry) (x : PageEntry) → IsLeftByAll P xs Q → IsLeft Q x.slot R → IsLeftByAll P (xs ++ x ∷ []) R
left-more P Q R xs x a b = record {
  count = λ p. omega (arith, a.count p, b.count p, uses-push xs x p);
  bytes = λ p l. b.bytes p l ∙ a.bytes p (omega (arith, b.count p));
}

pub shared-none : (P : Pages) → IsShared P [] P
shared-none P = record { count = λ p h l. omega (arith, uses-none p); bytes = λ p. refl }

pub shared-more : (P Q R : Pages) (xs : List PageEntry) (x : PageEntry) → IsShared P xs Q → IsSharedOnce Q x.slot R → IsShared P (xs ++ x ∷ []) R
shared-more P Q R xs x a b = record {
  count = λ p h l.
      let u = uses-push xs x p in
      let c = a.count p (λ k. h (omega (arith, u))) (omega (arith, u)) in
      omega (arith, u, c, b.count p (λ k. omega (arith, c, h (omega (arith, u)))) (omega (arith, u, c)));
  bytes = λ p. b.bytes p ∙ a.bytes p;
}

-- lists that are apart stay so when one of them changes with the counts
pub apart-on : (P Q : Pages) (xs ys zs : List PageEntry) → ((p : ℕ) → count_at Q p + uses_in xs p ≡ count_at P p + uses_in ys p) → IsApart P xs zs → IsApart Q ys zs
apart-on P Q xs ys zs m a p = omega (arith, m p, a p)

one-cases : (s p : ℕ) → ((s ≡ p) × (one_if s p ≡ 1)) ⊎ ((s ≢ p) × (one_if s p ≡ 0))
one-cases s p = elim (cases_eq s p) [
  | inl q ↦ inl (q, ap (one_if s) (sym q) ∙ one-same s)
  | inr q ↦ inr (q, one-other s p q)
]

some-cases : (o : Option ℕ) (p : ℕ) → ((o ≡ Some p) × (one_if_some o p ≡ 1)) ⊎ (one_if_some o p ≡ 0)
some-cases None p = inr refl
some-cases (Some s) p = elim (one-cases s p) [ inl q ↦ inl (ap Some q.0, q.1) | inr q ↦ inr q.1 ]

-- a page of its own in place of the one that the list had
pub owned-new : (P Q R : Pages) (xs ys : List PageEntry) (n s : ℕ) → IsList P xs → IsStore R → IsPageAdded P (slot_of xs n) s Q → IsLeftBySome Q (slot_of xs n) R
    → IsListed xs (record { number = n; slot = s }) ys → ((p : ℕ) → slot_of xs n ≡ Some p → count_at P p ≢ 1) → IsOwned P xs n s R ys
owned-new P Q R xs ys n s l r a b i h =
    record {
      store = r;
      rises = i.rises;
      once = once;
      here = i.here;
      alone = alone;
      same = λ j. ap (λ (zs : List ℕ). slice_index zs j) (b.bytes s (omega (arith, alone))) ∙ a.here j;
      others = i.others;
      bytes = bytes;
      moved = λ p. omega (arith, a.count p, b.count p, i.uses p, some-uses xs n p, l.counted p);
    }
  where
    unused : uses_in xs s ≡ 0
    unused = omega (arith, l.counted s, a.vacant)

    alone : count_at R s ≡ 1
    alone = omega (arith, a.count s, b.count s, a.vacant, one-same s, some-uses xs n s, unused)

    once : (p : ℕ) → uses_in ys p ≤ 1
    once p = elim (one-cases s p) [
      | inl q ↦ omega (arith, i.uses p, q.1, ap (uses_in xs) (sym q.0) ∙ unused)
      | inr q ↦ omega (arith, i.uses p, q.1, l.once p)
    ]

    live : (p : ℕ) → 0 < count_at P p → 0 < count_at R p
    live p k = elim (some-cases (slot_of xs n) p) [
      | inl q ↦ let m : count_at P p ≢ 1 = h p q.0 in omega (arith, a.count p, b.count p, q.1)
      | inr q ↦ omega (arith, a.count p, b.count p, q)
    ]

    bytes : (p : ℕ) → 0 < count_at P p → bytes_at R p ≡ bytes_at P p
    bytes p k = b.bytes p (live p k) ∙ a.others p (λ q. omega (arith, k, ap (count_at P) q ∙ a.vacant))

-- a byte within the bytes that were stored, and one outside
pub stored-in : (a i : ℕ) (v : List ℕ) → i < length v → byte_stored (Some (a, v)) (a + i) ≡ Some (get_or v i 0)
stored-in a i v l = let q : a + i - a ≡ i = omega arith in rw (le-leb a (a + i) (omega arith), q) (slice_get-get_or v i 0 l)

pub stored-below : (a b : ℕ) (v : List ℕ) → b < a → byte_stored (Some (a, v)) b ≡ None
stored-below a b v l = rw (lt-leb a b l)

pub stored-above : (a b : ℕ) (v : List ℕ) → a + length v ≤ b → byte_stored (Some (a, v)) b ≡ None
stored-above a b v l = rw (le-leb a b (omega arith)) (slice_get_past v (b - a) (omega arith))

-- a byte is one of those that were stored, or was left as it was
pub stored-cases : (a b : ℕ) (v : List ℕ) → ((i : ℕ) × (i < length v) × (b ≡ a + i)) ⊎ ((byte_stored (Some (a, v)) b ≡ None) × ((b < a) ⊎ (a + length v ≤ b)))
stored-cases a b v =
    elim (cases_lt b a) [
      | inl l ↦ inr (stored-below a b v l, inl l)
      | inr l ↦ elim (cases_lt (b - a) (length v)) [
        | inl m ↦ inl (b - a, m, omega arith)
        | inr m ↦ let n : a + length v ≤ b = omega arith in inr (stored-above a b v n, inr n)
      ]
    ]

-- the same bytes elsewhere
pub stored-shift : (m o r : ℕ) (v : List ℕ) → byte_stored (Some (m + o, v)) (m + r) ≡ byte_stored (Some (o, v)) r
stored-shift m o r v =
    elim (stored-cases o r v) [
      | inl q ↦ let e : m + r ≡ m + o + q.0 = omega (arith, q.2) in
          ap (byte_stored (Some (m + o, v))) e ∙ stored-in (m + o) q.0 v q.1 ∙ sym (ap (byte_stored (Some (o, v))) q.2 ∙ stored-in o q.0 v q.1)
      | inr q ↦ elim q.1 [
        | inl l ↦ stored-below (m + o) (m + r) v (omega arith) ∙ sym q.0
        | inr l ↦ stored-above (m + o) (m + r) v (omega arith) ∙ sym q.0
      ]
    ]

-- bytes that are stored after others are one store with them
pub stored-both : (a b c : ℕ) (v w : List ℕ) → byte_or (byte_stored (Some (a + length v, w)) b) (byte_or (byte_stored (Some (a, v)) b) c) ≡ byte_or (byte_stored (Some (a, v ++ w)) b) c
stored-both a b c v w =
    elim (stored-cases a b v) [
      | inl q ↦
          let below = ap (byte_stored (Some (a + length v, w))) q.2 ∙ stored-below (a + length v) (a + q.0) w (omega (arith, q.1)) in
          let first = ap (byte_stored (Some (a, v))) q.2 ∙ stored-in a q.0 v q.1 in
          let both = ap (byte_stored (Some (a, v ++ w))) q.2 ∙ stored-in a q.0 (v ++ w) (omega (arith, q.1, length-append v w)) in
          rw (below, first, both) (sym (get_or_append_left v w 0 q.0 q.1))
      | inr q ↦ rw q.0 (elim (stored-cases (a + length v) b w) [
        | inl r ↦
            let e : b ≡ a + (length v + r.0) = omega (arith, r.2) in
            let second = ap (byte_stored (Some (a + length v, w))) r.2 ∙ stored-in (a + length v) r.0 w r.1 in
            let both = ap (byte_stored (Some (a, v ++ w))) e ∙ stored-in a (length v + r.0) (v ++ w) (omega (arith, r.1, length-append v w)) in
            let n : length v + r.0 - length v ≡ r.0 = omega arith in
            rw (second, both) (sym (get_or-append_right v w (length v) (length v + r.0) 0 refl (omega arith) ∙ ap (λ i. get_or w i 0) n))
        | inr r ↦ elim q.1 [
          | inl l ↦ rw (r.0, stored-below a b (v ++ w) l)
          | inr l ↦ elim r.1 [
            | inl m ↦ absurd (omega arith)
            | inr m ↦ rw (r.0, stored-above a b (v ++ w) (omega (arith, length-append v w)))
          ]
        ]
      ])
    ]

-- a piece that was put into a page of its own was stored in its space alone
pub stored-piece : (P Q R : Pages) (xs ys : List PageEntry) (n s o : ℕ) (v : List ℕ) → IsList P xs → IsStore R → o + length v ≤ 4096 → IsOwned P xs n s Q ys → IsPut Q s o v R → IsStored P xs (4096 * n + o) v R ys
stored-piece P Q R xs ys n s o v i r l w u =
    record {
      store = r;
      rises = w.rises;
      once = w.once;
      moved = λ p. omega (arith, w.moved p, u.count p);
      here = here;
      others = others;
    }
  where
    own : 0 < count_at Q s
    own = omega (arith, w.alone)

    inside : (b : ℕ) → b / 4096 ≡ n → byte_in R ys b ≡ byte_or (byte_stored (Some (4096 * n + o, v)) b) (byte_in P xs b)
    inside b q =
        let e : b ≡ 4096 * n + b % 4096 = omega (arith, q) in
        let there = ap (byte_stored (Some (4096 * n + o, v))) e ∙ stored-shift (4096 * n) o (b % 4096) v in
        let mine = ap (slot_of ys) q ∙ w.here in
        let its = ap (slot_of xs) q in
        rw (mine, its, there, ← w.same (b % 4096)) (u.here own (b % 4096))

    kept : (p : ℕ) → 0 < count_at P p → p ≢ s → bytes_at R p ≡ bytes_at P p
    kept p c d = u.others p d ∙ w.bytes p c

    outside : (b : ℕ) → b / 4096 ≢ n → byte_in R ys b ≡ byte_in P xs b
    outside b d = rw (w.others (b / 4096) d) (at (slot_of xs (b / 4096)) refl)
      where
        at : (t : Option ℕ) → slot_of xs (b / 4096) ≡ t → slice_index (bytes_at_some R t) (b % 4096) ≡ slice_index (bytes_at_some P t) (b % 4096)
        at None q = refl
        at (Some p) q =
            let there = w.others (b / 4096) d ∙ q in
            let c : 0 < count_at P p = omega (arith, i.counted p, slot-uses xs (b / 4096) p q) in
            ap (λ (zs : List ℕ). slice_index zs (b % 4096)) (kept p c (λ e. omega (arith, w.once s, two-numbers ys (b / 4096) n s (there ∙ ap Some e) w.here d)))

    here : (b : ℕ) → byte_in R ys b ≡ byte_or (byte_stored (Some (4096 * n + o, v)) b) (byte_in P xs b)
    here b = elim (cases_eq (b / 4096) n) [
      | inl q ↦ inside b q
      | inr d ↦ elim (stored-cases (4096 * n + o) b v) [
        | inl q ↦ absurd (d (ap (λ c. c / 4096) q.2 ∙ page-at q.0 q.1))
        | inr q ↦ rw q.0 (outside b d)
      ]
    ]
      where
        page-at : (i : ℕ) → i < length v → (4096 * n + o + i) / 4096 ≡ n
        page-at i m = omega arith

    others : (zs : List PageEntry) → IsApart P xs zs → (b : ℕ) → byte_in R zs b ≡ byte_in P zs b
    others zs a b = same-bytes P R zs (λ p k. kept p (omega (arith, a p)) (not-own p k)) b
      where
        not-own : (p : ℕ) → 0 < uses_in zs p → p ≢ s
        not-own p k e = omega (arith, k, ap (uses_in zs) e, apart-on P Q xs ys zs w.moved a s, w.alone, slot-uses ys n s w.here)

-- what was stored to is a list
pub stored-list : (P Q : Pages) (xs ys : List PageEntry) (a : ℕ) (v : List ℕ) → IsList P xs → IsStored P xs a v Q ys → IsList Q ys
stored-list P Q xs ys a v l s = record { rises = s.rises; once = s.once; counted = λ p. omega (arith, s.moved p, l.counted p) }

-- bytes that were stored after others
pub stored-more : (P Q R : Pages) (xs ys zs : List PageEntry) (a c : ℕ) (v w : List ℕ) → c ≡ a + length v → IsStored P xs a v Q ys → IsStored Q ys c w R zs → IsStored P xs a (v ++ w) R zs
stored-more P Q R xs ys zs a c v w e s t = record {
  store = t.store;
  rises = t.rises;
  once = t.once;
  moved = λ p. omega (arith, s.moved p, t.moved p);
  here = λ b. t.here b ∙ (rw (e, s.here b) (stored-both a b (byte_in P xs b) v w));
  others = λ us h b. t.others us (apart-on P Q xs ys us s.moved h) b ∙ s.others us h b;
}

-- a byte of a page
pub byte-of-page : (P : Pages) (xs : List PageEntry) (n o i : ℕ) → o + i < 4096 → byte_in P xs (4096 * n + o + i) ≡ slice_index (bytes_at_some P (slot_of xs n)) (o + i)
byte-of-page P xs n o i l =
    let q : (4096 * n + o + i) / 4096 ≡ n = omega arith in
    let r : (4096 * n + o + i) % 4096 ≡ o + i = omega arith in
    rw (q, r)

-- bytes in two parts
pub from-append : (f : ℕ → ℕ) (a m k : ℕ) → bytes_from f a (m + k) ≡ bytes_from f a m ++ bytes_from f (a + m) k
unfolding bytes_from
from-append f a zero k = rw (zero-add, add-zero)
from-append f a (suc m) k =
    let n : suc m + k ≡ suc (m + k) = omega arith in
    let e : a + 1 + m ≡ a + suc m = omega arith in
    rw (n, ← e) (ap (λ xs. f a ∷ xs) (from-append f (a + 1) m k))

-- bytes that are those of a list
pub from-list : (f : ℕ → ℕ) (xs : List ℕ) (a : ℕ) → ((i : ℕ) → i < length xs → f (a + i) ≡ get_or xs i 0) → bytes_from f a (length xs) ≡ xs
unfolding bytes_from
from-list f [] a h = refl
from-list f (x ∷ xs) a h =
    let first : f a ≡ x = rw add-zero at (h 0 (omega arith)) in
    rw first (ap (λ ys. x ∷ ys) (from-list f xs (a + 1) (rest h)))
  where
    rest : ((i : ℕ) → i < length (x ∷ xs) → f (a + i) ≡ get_or (x ∷ xs) i 0) → (i : ℕ) → i < length xs → f (a + 1 + i) ≡ get_or xs i 0
    rest h i l = let e : a + 1 + i ≡ a + suc i = omega arith in rw e (h (suc i) (omega arith))

-- bytes that were appended to others
pub from-more : (f : ℕ → ℕ) (old out new : List ℕ) (a b m k n : ℕ) → out ≡ old ++ bytes_from f a m → new ≡ out ++ bytes_from f b k → b ≡ a + m → n ≡ m + k → new ≡ old ++ bytes_from f a n
from-more f old out new a b m k n p q e g = rw (g, from-append f a m k, ← e, ← append_assoc, ← p) q

-- room for fewer pages
pub fewer-pages : (P : Pages) (j k : ℕ) → k ≤ j → HasPages P j → HasPages P k
fewer-pages P j k l h = record { slots = omega (arith, h.slots); stock = omega (arith, h.stock) }

-- one page less is touched after its end
pub touched-less : (o n k : ℕ) → o < 4096 → 0 < n → k ≡ min n (4096 - o) → pages_touched 0 (n - k) + 1 ≤ pages_touched o n
touched-less o n k l p e = omega (arith, e)

-- the rest of bytes after a part of them
pub rest-next : (v rest back : List ℕ) (k : ℕ) → length rest ≤ length v → rest ≡ drop (length v - length rest) v → back ≡ drop k rest → length back + k ≡ length rest → back ≡ drop (length v - length back) v
rest-next v rest back k l q r e =
    let n : length v - length back ≡ length v - length rest + k = omega (arith, e) in
    rw (n, ← drop-drop k (length v - length rest) v, ← q) r

-- that part was stored too
pub store-next : (P Q R : Pages) (xs ys zs : List PageEntry) (a c k : ℕ) (v rest front back : List ℕ) → length rest ≤ length v → rest ≡ drop (length v - length rest) v → front ≡ take k rest → length back + k ≡ length rest
    → c ≡ a + (length v - length rest) → IsStored P xs a (take (length v - length rest) v) Q ys → IsStored Q ys c front R zs → IsStored P xs a (take (length v - length back) v) R zs
store-next P Q R xs ys zs a c k v rest front back l q f e g s t =
    let m = length v - length rest in
    let n : length v - length back ≡ m + k = omega (arith, e) in
    let front_is : front ≡ take k (drop m v) = f ∙ ap (take k) q in
    rw (n, take-add m k v, ← front_is) (stored-more P Q R xs ys zs a c (take m v) front (g ∙ ap (λ j. a + j) (sym (length-take-le m v (omega arith)))) s t)

pub from-none : (f : ℕ → ℕ) (old : List ℕ) (a n : ℕ) → old ≡ old ++ bytes_from f a (n - n)
unfolding bytes_from
from-none f old a n = let e : n - n ≡ 0 = omega arith in rw (e, append-nil)
