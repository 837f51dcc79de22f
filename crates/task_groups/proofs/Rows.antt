-- Rows after one was read, written or added, and what they use of the pages.
-- By the library's lemmas on a list of which one item is set, and by induction on the rows for the sums.
use Rattle.std.proofs.Common.{◌≡◌, ◌≢◌, ◌⊎◌, inl, inr, ℕ, zero, suc, ◌+◌, ◌<◌, ◌≤◌, List, [], ◌∷◌, ◌++◌, length, get_or, map, set, Some, refl, sym, ap, ◌∙◌, subst, arith}
use Rattle.std.specs.Prelude.{slice_get}
use Rattle.std.proofs.lemmas.Bool.{cases_eq}
use Rattle.std.proofs.lemmas.Option.{slice_get-map, slice_get_read, slice_get_within, get_or_from_slice_get}
use Rattle.std.proofs.lemmas.List.{map-set, map-append, length-map}
use Rattle.std.proofs.lemmas.List.Sums.{sum_by-cons, sum_by-set, sum_by_push}
use Rattle.std.proofs.Math.Seq.{map-set_same}
use Rattle.sorted_list.proofs.Places.{get-put, get-other, set-set}
use Rattle.task_groups.specs.Lists.{uses_in}
use Rattle.task_groups.specs.Pages.{IsList, IsApart, IsStore, IsStored, IsLeftByAll, byte_in, count_at}
use Rattle.task_groups.specs.Rows.{Row, row_of, rows_of, row_at, uses_all, IsSoundRow, IsSound, IsPut, IsMoved, HasListRoom, SameGroups}
use Rattle.task_groups.specs.declared.descriptors.Descriptor.{Descriptor}
use Rattle.task_groups.specs.declared.groups.Group.{Group}
use Rattle.task_groups.specs.declared.groups.Groups.{Groups}
use Rattle.task_groups.specs.declared.list.PageEntry.{PageEntry}
use Rattle.task_groups.specs.declared.pages.Pages.{Pages}
use Rattle.task_groups.proofs.Lists.{uses-none}
use Rattle.task_groups.proofs.Shares.{same-bytes}

-- ---- the row that was read or written

pub row-within : (gs : List Group) (i : ℕ) (r : Row) → slice_get (map row_of gs) i ≡ Some r → i < length gs
row-within gs i r q = omega (arith, slice_get_within (map row_of gs) i r q, length-map gs row_of)

pub read-row : (gs : List Group) (i : ℕ) (g : Group) (r : Row) → g ≡ get_or gs i g → slice_get (map row_of gs) i ≡ Some r → row_of g ≡ r
read-row gs i g r q at =
    let there : slice_get (map row_of gs) i ≡ Some (row_of g) = slice_get-map row_of gs i ∙ rw (slice_get_read gs (length gs) i g refl (row-within gs i r at) q) refl in
    let z : Some (row_of g) ≡ Some r = sym there ∙ at in
    cc

pub put-row : (gs : List Group) (i : ℕ) (g h : Group) (r q : Row) → g ≡ get_or gs i g → slice_get (map row_of gs) i ≡ Some r → (row_of g ≡ r → row_of h ≡ q) → map row_of (set gs i h) ≡ set (map row_of gs) i q
put-row gs i g h r q e at f = map-set row_of gs i h ∙ ap (λ (x : Row). set (map row_of gs) i x) (f (read-row gs i g r e at))

-- it has other room
pub put-same : (gs : List Group) (i : ℕ) (g h : Group) → g ≡ get_or gs i g → row_of h ≡ row_of g → map row_of (set gs i h) ≡ map row_of gs
put-same gs i g h q w = map-set_same row_of gs i h g (w ∙ ap row_of q)

pub row-put : (old new : Groups) (o : ℕ) (g h : Group) (r q : Row) → new.rows.items ≡ set old.rows.items o h → g ≡ get_or old.rows.items o g → row_at old o ≡ Some r → (row_of g ≡ r → row_of h ≡ q) → new.map ≡ old.map → new.rlimit ≡ old.rlimit → IsPut old o q new
row-put old new o g h r q w e at f m l = record { rows = ap (map row_of) w ∙ put-row old.rows.items o g h r q e at f; map = ap (λ v. v.items) m; rlimit = l }

-- the table is the same then, but for the room
pub same-but-room : (old new : Groups) (o : ℕ) (g h : Group) → new.rows.items ≡ set old.rows.items o h → g ≡ get_or old.rows.items o g → row_of h ≡ row_of g → new.pages.slots.slots ≡ old.pages.slots.slots → new.map ≡ old.map → new.rlimit ≡ old.rlimit → SameGroups old new
same-but-room old new o g h r q w p m l = record { rows = ap (map row_of) r ∙ put-same old.rows.items o g h q w; pages = p; map = ap (λ v. v.items) m; rlimit = l }

pub group-there : (gs : List Group) (i : ℕ) (g : Group) (r : Row) → g ≡ get_or gs i g → slice_get (map row_of gs) i ≡ Some r → slice_get gs i ≡ Some g
group-there gs i g r q at = slice_get_read gs (length gs) i g refl (row-within gs i r at) q

pub group-put : (gs : List Group) (i : ℕ) (g h : Group) (r : Row) → g ≡ get_or gs i g → slice_get (map row_of gs) i ≡ Some r → slice_get (set gs i h) i ≡ Some h
group-put gs i g h r q at = get-put gs i h g (group-there gs i g r q at)

-- the room for a copy of it stays
pub list-room : (gs : List Group) (i : ℕ) (g h : Group) (r : Row) (pages ds : ℕ) → g ≡ get_or gs i g → slice_get (map row_of gs) i ≡ Some r → row_of h ≡ row_of g → HasListRoom pages ds (slice_get gs i) → HasListRoom pages ds (slice_get (set gs i h) i)
list-room gs i g h r pages ds q at same room =
    let there = subst (HasListRoom pages ds) (group-there gs i g r q at) room in
    let p : h.pages.items ≡ g.pages.items = ap (λ (x : Row). x.pages) same in
    let d : h.descriptors.items ≡ g.descriptors.items = ap (λ (x : Row). x.descriptors) same in
    subst (HasListRoom pages ds) (sym (group-put gs i g h r q at)) (rw p there.0, rw d there.1)

-- a row was added
pub row-is : (g : Group) (l h : ℕ) (ps : List PageEntry) (ds : List Descriptor) → g.living ≡ l → g.handles ≡ h → g.pages.items ≡ ps → g.descriptors.items ≡ ds → row_of g ≡ record { living = l; handles = h; pages = ps; descriptors = ds }
row-is g l h ps ds a b c d = rw (a, b, c, d) refl

pub added-row : (gs hs : List Group) (g : Group) (q : Row) → hs ≡ gs ++ g ∷ [] → row_of g ≡ q → map row_of hs ≡ map row_of gs ++ q ∷ []
added-row gs hs g q e s = ap (map row_of) e ∙ (map-append row_of gs (g ∷ []) ∙ ap (λ x. map row_of gs ++ x ∷ []) s)

-- ---- sums

pub uses-set : (rows : List Row) (o : ℕ) (r q : Row) (p : ℕ) → slice_get rows o ≡ Some r → uses_all (set rows o q) p + uses_in r.pages p ≡ uses_all rows p + uses_in q.pages p
unfolding uses_all
uses-set rows o r q p at = rw (get_or_from_slice_get rows o r r at) at (sum_by-set (λ (x : Row). uses_in x.pages p) rows o q r (slice_get_within rows o r at))

pub uses-added : (rows : List Row) (q : Row) (p : ℕ) → uses_all (rows ++ q ∷ []) p ≡ uses_all rows p + uses_in q.pages p
unfolding uses_all
uses-added rows q p = sum_by_push (λ (x : Row). uses_in x.pages p) rows q

pub uses-nothing : (p : ℕ) → uses_all [] p ≡ 0
unfolding uses_all
uses-nothing p = refl

uses-cons : (x : Row) (rows : List Row) (p : ℕ) → uses_all (x ∷ rows) p ≡ uses_in x.pages p + uses_all rows p
unfolding uses_all
uses-cons x rows p = sum_by-cons (λ (x : Row). uses_in x.pages p) x rows

uses-one : (rows : List Row) (o p : ℕ) (r : Row) → slice_get rows o ≡ Some r → uses_in r.pages p ≤ uses_all rows p
uses-one [] o p r at = cc
uses-one (x ∷ rows) zero p r at = let e : x ≡ r = cc in rw (← e) (omega (arith, uses-cons x rows p))
uses-one (x ∷ rows) (suc o) p r at = omega (arith, uses-cons x rows p, uses-one rows o p r at)

pub uses-few : (rows : List Row) (p : ℕ) → ((o : ℕ) (r : Row) → slice_get rows o ≡ Some r → uses_in r.pages p ≤ 1) → uses_all rows p ≤ length rows
uses-few [] p h = omega (arith, uses-nothing p)
uses-few (x ∷ rows) p h = omega (arith, uses-cons x rows p, h 0 x refl, uses-few rows p (λ o r at. h (suc o) r at))

-- ---- sound tables

-- a row's list is one of the pages
pub row-list : (G : Groups) (o : ℕ) (r : Row) → IsSound G → row_at G o ≡ Some r → IsList G.pages r.pages
row-list G o r s at = record {
  rises = (s.rows o r at).pages_rise;
  once = (s.rows o r at).once;
  counted = λ p. omega (arith, s.counted p, uses-one (rows_of G) o p r at);
}

-- a row that nobody holds
abbrev pub bare : Row
bare = record { living = 0; handles = 0; pages = []; descriptors = [] }

-- the lists of two rows are apart
pub rows-apart : (G : Groups) (o u : ℕ) (r q : Row) → IsSound G → row_at G o ≡ Some r → row_at G u ≡ Some q → u ≢ o → IsApart G.pages r.pages q.pages
rows-apart G o u r q s a b d p =
    let rest = uses-one (set (rows_of G) o bare) u p q (get-other (rows_of G) o u bare d ∙ b) in
    omega (arith, s.counted p, uses-set (rows_of G) o r bare p a, uses-none p, rest)

-- a row was put twice
pub put-twice : (old mid new : Groups) (o : ℕ) (q x : Row) → IsPut old o q mid → IsPut mid o x new → IsPut old o x new
put-twice old mid new o q x a b = record { rows = b.rows ∙ (ap (λ rows. set rows o x) a.rows ∙ set-set (rows_of old) o q x); map = b.map ∙ a.map; rlimit = b.rlimit ∙ a.rlimit }

pub put-there : (old new : Groups) (o : ℕ) (r q : Row) → row_at old o ≡ Some r → IsPut old o q new → row_at new o ≡ Some q
put-there old new o r q at i = ap (λ rows. slice_get rows o) i.rows ∙ get-put (rows_of old) o q r at

-- a row after one was put
pub row-cases : (old new : Groups) (o p : ℕ) (r q x : Row) → row_at old o ≡ Some r → IsPut old o q new → row_at new p ≡ Some x → ((p ≡ o) × (q ≡ x)) ⊎ ((p ≢ o) × (row_at old p ≡ Some x))
row-cases old new o p r q x at i h =
    let there : slice_get (set (rows_of old) o q) p ≡ Some x = ap (λ rows. slice_get rows p) (sym i.rows) ∙ h in
    elim (cases_eq p o) [
      | inl e ↦
          let z : Some q ≡ Some x = sym (get-put (rows_of old) o q r at) ∙ (ap (λ k. slice_get (set (rows_of old) o q) k) (sym e) ∙ there) in
          inl (e, cc)
      | inr n ↦ inr (n, sym (get-other (rows_of old) o p q n) ∙ there)
    ]

pub sound-put : (old new : Groups) (o : ℕ) (r q : Row) → IsSound old → row_at old o ≡ Some r → IsPut old o q new → IsMoved old.pages r.pages new.pages q.pages → IsSoundRow q → IsSound new
sound-put old new o r q s at i m k = record {
  store = m.store;
  counted = λ p. omega (arith, s.counted p, m.moved p, uses-set (rows_of old) o r q p at, ap (λ rows. uses_all rows p) i.rows);
  rows = λ p x h. elim (row-cases old new o p r q x at i h) [ inl e ↦ subst IsSoundRow e.1 k | inr e ↦ s.rows p x e.1 ];
}

-- ---- pages that one list changed

pub moved-same : (P Q : Pages) (xs : List PageEntry) → IsStore P → Q ≡ P → IsMoved P xs Q xs
moved-same P Q xs s e = record { store = subst IsStore (sym e) s; moved = λ p. ap (λ (R : Pages). count_at R p + uses_in xs p) e; others = λ zs a b. ap (λ (R : Pages). byte_in R zs b) e }

pub moved-stored : (P Q : Pages) (xs ys : List PageEntry) (a : ℕ) (v : List ℕ) → IsStored P xs a v Q ys → IsMoved P xs Q ys
moved-stored P Q xs ys a v s = record { store = s.store; moved = s.moved; others = s.others }

pub moved-left : (P Q : Pages) (xs : List PageEntry) → IsStore Q → IsList P xs → IsLeftByAll P xs Q → IsMoved P xs Q []
moved-left P Q xs s l h = record {
  store = s;
  moved = λ p. omega (arith, h.count p, l.counted p, uses-none p);
  others = λ zs a b. same-bytes P Q zs (λ p u. h.bytes p (omega (arith, h.count p, a p, u))) b;
}
