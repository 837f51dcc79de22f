-- What the definitions answer by looking back is what the state answers.
-- By the rows, which are in the order of the places at which their tasks were made.
use Rattle.std.proofs.Common.{◌≡◌, ◌⊎◌, inl, inr, ℕ, zero, suc, ◌<◌, Bool, true, false, ◌&&◌, ◌||◌, not, List, [], ◌∷◌, length, Option, Some, None, refl, sym, ap, ◌∙◌, arith}
use Rattle.std.specs.Prelude.{if◌then◌else◌, find, slice_get}
use Rattle.std.proofs.lemmas.Bool.{cases_Bool, cases_order, both_ways, and_parts}
use Rattle.hist_model.specs.Kinds.{makes}
use Rattle.hist_model.specs.Look.{Name, event_at, oldest}
use Rattle.hist_model.specs.Signals.{held, due, next_signal}
use Rattle.hist_model.specs.Steps.{makes_in, is_child, is_ended_child, names_child, names_ended_child, wait_step}
use Rattle.hist_model.specs.Tasks.{is_made, holds as holds_at, holder, name_of, pending, disposition}
use Rattle.hist_model.specs.declared.event.Event.{Event}
use Rattle.hist_model.specs.declared.script.Script.{Script}
use Rattle.hist_model.proofs.Look.{oldest-some, oldest-found}
use Rattle.history_frames.specs.Ordinals.{place_of, name_at}
use Rattle.history_frames.proofs.Ordinals.{made-place, make-place, place-makes, place-below, place-order}
use Rattle.history_frames.proofs.Held.{holder-is, holder-holds, holds-makes, oldest-least}
use Rattle.sys_abi.specs.Signals.{sigkill, sigusr1, sigusr2, sigterm}
use Rattle.tasks.specs.Sets.{pending_of, dispositions_of, next_of, with_disposition}
use Rattle.tasks.specs.State.{Row, State, holds, is_child_of, is_ended_child_of, wait_in}
use Rattle.tasks.specs.Fold.{Looks}
use Rattle.tasks.specs.Sound.{IsSound}
use Rattle.tasks.proofs.Named.{name-made}
use Rattle.tasks.proofs.Sending.{reaped-is, place-number, holds-is}
use Rattle.tasks.proofs.Folds.{row-there, row-below}

-- ---- what is found in a list

pub find-some : {X : Type 0} → (p : X → Bool) (xs : List X) (r : X) → find p xs ≡ Some r → (o : ℕ) × (slice_get xs o ≡ Some r) × (p r ≡ true) × ((j : ℕ) (x : X) → j < o → slice_get xs j ≡ Some x → p x ≡ false)
find-some {X = X} p [] r q = cc
find-some {X = X} p (x ∷ xs) r q = elim (cases_Bool (p x)) [
  | inl b ↦ let a : Some x ≡ Some r = rw b at q in let z : x ≡ r = cc in (0, a, ap p (sym z) ∙ b, λ j y l g. absurd (omega arith))
  | inr b ↦ let i = find-some p xs r (rw b at q) in (suc i.0, i.1, i.2, later b i.0 i.3)
]
  where
    later : p x ≡ false → (o : ℕ) → ((j : ℕ) (y : X) → j < o → slice_get xs j ≡ Some y → p y ≡ false) → (j : ℕ) (y : X) → j < suc o → slice_get (x ∷ xs) j ≡ Some y → p y ≡ false
    later b o h zero y l g = let z : x ≡ y = cc in ap p (sym z) ∙ b
    later b o h (suc j) y l g = h j y (omega arith) g

pub find-none : {X : Type 0} → (p : X → Bool) (xs : List X) → find p xs ≡ None → (j : ℕ) (x : X) → slice_get xs j ≡ Some x → p x ≡ false
find-none {X = X} p [] q j x g = cc
find-none {X = X} p (y ∷ xs) q j x g = elim (cases_Bool (p y)) [
  | inl b ↦ let a : Some y ≡ None = rw b at q in cc
  | inr b ↦ go b (find-none p xs (rw b at q)) j g
]
  where
    go : p y ≡ false → ((j : ℕ) (x : X) → slice_get xs j ≡ Some x → p x ≡ false) → (j : ℕ) → slice_get (y ∷ xs) j ≡ Some x → p x ≡ false
    go b h zero g = let z : y ≡ x = cc in ap p (sym z) ∙ b
    go b h (suc j) g = h j x g

-- ---- rows and places

module _ (S : Script) (K : List Event) (s : State) (L : Looks S K s) (Y : IsSound K) where
  -- a row's place, with its name
  pub row-place : (o : ℕ) (r : Row) → slice_get s.rows o ≡ Some r → (t : ℕ) × (place_of K o ≡ Some t) × (name_of K t ≡ r.name)
  row-place o r q = let p = made-place makes K o (row-below S K s o r L q) in (p.0, p.1, sym (ap (name_at K) p.1) ∙ sym (L.rows o r q).name_is)

  -- a place where a task was made has a row
  place-row : (t : ℕ) → makes_in (event_at K t) ≡ true → (o : ℕ) × (r : Row) × (place_of K o ≡ Some t) × (slice_get s.rows o ≡ Some r)
  place-row t h = let p = make-place K t h in let r = row-there S K s p.0 L (place-below makes K p.0 t p.1).0 in (p.0, r.0, p.1, r.1)

  row-made : (o : ℕ) (r : Row) → slice_get s.rows o ≡ Some r → is_made K r.name ≡ true
  row-made o r q = ap (is_made K) (L.rows o r q).name_is ∙ name-made K o (row-below S K s o r L q)

  -- the oldest place that passes a test is that of the first row that passes it
  abbrev IsFoundAt : (Row → Bool) → (ℕ → Bool) → Type 0
  IsFoundAt P test = ((find P s.rows ≡ None) × (oldest test (length K) ≡ None)) ⊎ ((o : ℕ) × (r : Row) × (t : ℕ) × (find P s.rows ≡ Some r) × (slice_get s.rows o ≡ Some r) × (place_of K o ≡ Some t) × (oldest test (length K) ≡ Some t))

  found-at : (P : Row → Bool) (test : ℕ → Bool) → ((t : ℕ) → test t ≡ true → makes_in (event_at K t) ≡ true)
      → ((o : ℕ) (r : Row) (t : ℕ) → slice_get s.rows o ≡ Some r → place_of K o ≡ Some t → P r ≡ test t) → IsFoundAt P test
  found-at P test made same = go (find P s.rows) refl
    where
      none : find P s.rows ≡ None → (o : Option ℕ) → oldest test (length K) ≡ o → oldest test (length K) ≡ None
      none q None z = z
      none q (Some t) z =
          let y = oldest-some test (length K) t z in
          let p = place-row t (made t y.0) in
          absurd (both_ways (P p.1) (find-none P s.rows q p.0 p.1 p.3) (same p.0 p.1 t p.3 p.2 ∙ y.0))

      go : (x : Option Row) → find P s.rows ≡ x → IsFoundAt P test
      go None q = inl (q, none q (oldest test (length K)) refl)
      go (Some r) q =
          let f = find-some P s.rows r q in
          let p = row-place f.0 r f.1 in
          let h : test p.0 ≡ true = sym (same f.0 r p.0 f.1 p.1) ∙ f.2 in
          let n = oldest-found test (length K) p.0 (place-below makes K f.0 p.0 p.1).1 h in
          let y = oldest-some test (length K) n.0 n.1 in
          let b = place-row n.0 (made n.0 y.0) in
          elim (cases_order b.0 f.0) [
            | inl z ↦ let w : Some n.0 ≡ Some p.0 = sym b.2 ∙ (ap (place_of K) z ∙ p.1) in inr (f.0, r, p.0, q, f.1, p.1, n.1 ∙ w)
            | inr z ↦ elim z [
              | inl z ↦ absurd (both_ways (P b.1) (f.3 b.0 b.1 z b.3) (same b.0 b.1 n.0 b.3 b.2 ∙ y.0))
              | inr z ↦ absurd (oldest-least test (length K) n.0 p.0 n.1 h (place-order makes K f.0 b.0 p.0 n.0 p.1 b.2 z))
            ]
          ]

  -- ---- waits

  child-is : (n : Name) (o : ℕ) (r : Row) (t : ℕ) → slice_get s.rows o ≡ Some r → place_of K o ≡ Some t → is_child_of n r ≡ is_child K n t
  child-is n o r t q p =
      let a = row-place o r q in
      let z : Some a.0 ≡ Some t = sym a.1 ∙ p in
      let m : name_of K t ≡ r.name = let w : a.0 ≡ t = cc in ap (name_of K) (sym w) ∙ a.2 in
      rw (m, place-makes K o t p, reaped-is S K r (L.rows o r q).is_row)

  ended-child-is : (n : Name) (o : ℕ) (r : Row) (t : ℕ) → slice_get s.rows o ≡ Some r → place_of K o ≡ Some t → is_ended_child_of n r ≡ is_ended_child K n t
  ended-child-is n o r t q p =
      let a = row-place o r q in
      let z : Some a.0 ≡ Some t = sym a.1 ∙ p in
      let m : name_of K t ≡ r.name = let w : a.0 ≡ t = cc in ap (name_of K) (sym w) ∙ a.2 in
      let d = (L.rows o r q).is_row.ended_is in
      rw (m, place-makes K o t p, reaped-is S K r (L.rows o r q).is_row, d)

  pub wait-is : (n : Name) → wait_in n s ≡ wait_step K (oldest (is_child K n) (length K)) (oldest (is_ended_child K n) (length K))
  wait-is n = go (found-at (is_child_of n) (is_child K n) (λ t h. (and_parts (makes_in (event_at K t)) (names_child K n t) h).0) (child-is n))
      (found-at (is_ended_child_of n) (is_ended_child K n) (λ t h. (and_parts (makes_in (event_at K t)) (names_ended_child K n t) h).0) (ended-child-is n))
    where
      go : IsFoundAt (is_child_of n) (is_child K n) → IsFoundAt (is_ended_child_of n) (is_ended_child K n) → wait_in n s ≡ wait_step K (oldest (is_child K n) (length K)) (oldest (is_ended_child K n) (length K))
      go (inl a) b = rw (a.0, a.1) refl
      go (inr a) (inl b) = rw (a.3, a.6, b.0, b.1) refl
      go (inr a) (inr b) =
          let c = row-place b.0 b.1 b.4 in
          let z : Some c.0 ≡ Some b.2 = sym c.1 ∙ b.5 in
          let m : name_of K b.2 ≡ b.1.name = let w : c.0 ≡ b.2 = cc in ap (name_of K) (sym w) ∙ c.2 in
          rw (a.3, a.6, b.3, b.6, m) refl

  -- ---- who holds a number

  pub holder-at : (p o : ℕ) (r : Row) → slice_get s.rows o ≡ Some r → holds p r ≡ true → holder K p ≡ place_of K o
  holder-at p o r q h =
      let m = row-made o r q in
      let a = place-number K r.name m in
      let b = row-place o r q in
      let same = Y.names a.0 b.0 a.1 (place-makes K o b.0 b.1) (a.2 ∙ sym b.2) in
      holder-is K p a.0 Y.pids (holds-is S K Y r (L.rows o r q).is_row m p ∙ h) ∙ (ap Some same ∙ sym b.1)

  pub holder-row : (p t : ℕ) → holder K p ≡ Some t → (o : ℕ) × (r : Row) × (place_of K o ≡ Some t) × (slice_get s.rows o ≡ Some r) × (holds p r ≡ true)
  holder-row p t h =
      let g = holder-holds K p t h in
      let b = place-row t (holds-makes K p t g) in
      let m = row-made b.0 b.1 b.3 in
      let a = place-number K b.1.name m in
      let c = row-place b.0 b.1 b.3 in
      let z : Some c.0 ≡ Some t = sym c.1 ∙ b.2 in
      let w : c.0 ≡ t = cc in
      let same = Y.names a.0 t a.1 (holds-makes K p t g) (a.2 ∙ sym (ap (name_of K) (sym w) ∙ c.2)) in
      (b.0, b.1, b.2, b.3, sym (holds-is S K Y b.1 (L.rows b.0 b.1 b.3).is_row m p) ∙ (ap (holds_at K p) same ∙ g))

-- ---- the signal that comes next

pub next-signal-is : (killable : Bool) (K : List Event) (n : Name) → next_of (pending_of K n) (dispositions_of K n) (held killable K n) ≡ with_disposition K n (next_signal killable K n)
unfolding next_signal
next-signal-is killable K n =
    let k : due killable K n sigkill ≡ pending K n sigkill = always (pending K n sigkill) (not (held killable K n)) in
    rw k (first (pending K n sigkill) (due killable K n sigusr1) (due killable K n sigusr2) (due killable K n sigterm))
  where
    always : (p h : Bool) → (p && (h || true)) ≡ p
    always p h = grind arith

    first : (a b c d : Bool) → (if a then Some (sigkill, disposition K n sigkill) else (if b then Some (sigusr1, disposition K n sigusr1) else (if c then Some (sigusr2, disposition K n sigusr2) else (if d then Some (sigterm, disposition K n sigterm) else None)))) ≡ with_disposition K n (if a then Some sigkill else (if b then Some sigusr1 else (if c then Some sigusr2 else (if d then Some sigterm else None))))
    first true b c d = refl
    first false true c d = refl
    first false false true d = refl
    first false false false true = refl
    first false false false false = refl
