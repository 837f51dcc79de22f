-- The parts of a table still belong together after a step that makes no task.
-- Part by part, since names, PIDs, parents and children stay, and since a task that is reaped stays so.
use Rattle.std.proofs.Common.{◌≡◌, ◌⊎◌, inl, inr, ℕ, suc, ◌+◌, ◌<◌, ◌≤◌, Bool, true, false, ◌&&◌, ◌||◌, not, List, [], ◌∷◌, ◌++◌, length, Option, Some, None, sym, ap, ◌∙◌, subst, arith, Contains}
use Rattle.std.specs.Prelude.{if◌then◌else◌, slice_get}
use Rattle.std.specs.List.{remove}
use Rattle.std.proofs.lemmas.Bool.{cases_order, cases_eq, both_ways, false_from_ne_true}
use Rattle.hist_model.specs.Kinds.{ends}
use Rattle.hist_model.specs.Look.{is_task}
use Rattle.hist_model.specs.Tasks.{reaps, parent}
use Rattle.hist_model.specs.declared.event.Actor.{Actor}
use Rattle.hist_model.specs.declared.event.What.{What}
use Rattle.tasks.specs.declared.index.Entry.{Entry}
use Rattle.tasks.specs.Index.{under}
use Rattle.tasks.specs.State.{Row, is_reaped, after_row, touched, stepped}
use Rattle.tasks.specs.Table.{Member, IsFamily, IsChildIn, IsIndexed, AreWaiting, row_in}
use Rattle.tasks.proofs.Listed.{get-there, get-removed, still-there}

-- a task that is the same but for its room to go on, and that has the same children
pub record IsSameTask (x y : Member) : Type 0 where
  pub name : y.name ≡ x.name
  pub pid : y.pid ≡ x.pid
  pub parent : y.parent ≡ x.parent
  pub old : (k p : ℕ) → slice_get x.children k ≡ Some (Some p) → slice_get y.children k ≡ Some (Some p)
  pub new : (k p : ℕ) → slice_get y.children k ≡ Some (Some p) → slice_get x.children k ≡ Some (Some p)

module _ (old new : List Member) (l : length new ≡ length old) (each : (j : ℕ) (x y : Member) → slice_get old j ≡ Some x → slice_get new j ≡ Some y → IsSameTask x y) where
  back : (j : ℕ) (y : Member) → slice_get new j ≡ Some y → (x : Member) × (slice_get old j ≡ Some x) × IsSameTask x y
  back j y g = let x = get-there new old j y (sym l) g in (x.0, x.1, each j x.0 y x.1 g)

  on : (j : ℕ) (x : Member) → slice_get old j ≡ Some x → (y : Member) × (slice_get new j ≡ Some y) × IsSameTask x y
  on j x h = let y = get-there old new j x l h in (y.0, y.1, each j x y.0 h y.1)

  pub family-same : IsFamily old → IsFamily new
  family-same F = record {
    names = λ o p t u g h q. let a = back o t g in let b = back p u h in F.names o p a.0 b.0 a.1 b.1 (sym a.2.name ∙ (q ∙ b.2.name));
    parents = λ o t g. let a = back o t g in subst (λ n. IsChildIn new o t.parent n) (sym a.2.name) (subst (λ q. IsChildIn new o q a.0.name) (sym a.2.parent) (parent o a.0.parent a.0.name (F.parents o a.0 a.1)));
    children = λ o k p t g q.
        let a = back o t g in
        let c = F.children o k p a.0 a.1 (a.2.new k p q) in
        let b = on p c.0 c.1 in
        (b.0, b.1, b.2.parent ∙ c.2, b.2.name ∙ (c.3 ∙ ap (λ (n : List ℕ). n ++ (k + 1) ∷ []) (sym a.2.name)));
  }
    where
      parent : (o : ℕ) (q : Option ℕ) (n : List ℕ) → IsChildIn old o q n → IsChildIn new o q n
      parent o None n i = i
      parent o (Some q) n i = let b = on q i.0 i.1 in (b.0, b.1, i.2, b.2.old i.2 o i.3, i.4 ∙ ap (λ (m : List ℕ). m ++ (i.2 + 1) ∷ []) (sym b.2.name))

  -- entries stay those of tasks that hold their PIDs
  pub indexed-same : (pids : List Entry) → IsIndexed old pids → ((j : ℕ) (x y : Member) → slice_get old j ≡ Some x → slice_get new j ≡ Some y → is_reaped (row_in new y) ≡ false → is_reaped (row_in old x) ≡ false) → IsIndexed new pids
  indexed-same pids I f = record {
    ordered = I.ordered;
    listed = λ e c. let i = I.listed e c in let b = on e.task i.0 i.1 in (b.0, b.1, b.2.pid ∙ i.2);
    whole = λ o t g r. let a = back o t g in subst (λ p. Contains pids (under p o)) (sym a.2.pid) (I.whole o a.0 a.1 (f o a.0 t a.1 g r));
  }

  -- those that a task may wait for, where nobody waits for one
  pub waiting-same : (o : ℕ) (ws : List ℕ) → AreWaiting old o ws → ((j : ℕ) (x y : Member) → slice_get old j ≡ Some x → slice_get new j ≡ Some y → x.parent ≡ Some o → y.progress.waited ≡ x.progress.waited) → AreWaiting new o ws
  waiting-same o ws A f = record {
    rising = A.rising;
    listed = λ k a q. let i = A.listed k a q in let b = on a i.0 i.1 in (b.0, b.1, b.2.parent ∙ i.2, f a i.0 b.0 i.1 b.1 i.2 ∙ i.3);
    whole = λ a t g p w. let b = back a t g in let q : b.0.parent ≡ Some o = sym b.2.parent ∙ p in A.whole a b.0 b.1 q (sym (f a b.0 t b.1 g q) ∙ w);
  }

  -- and where somebody waits for the one at a place
  pub waiting-less : (o : ℕ) (ws : List ℕ) (k a : ℕ) → AreWaiting old o ws → slice_get ws k ≡ Some a
      → ((j : ℕ) (x y : Member) → slice_get old j ≡ Some x → slice_get new j ≡ Some y → (j ≡ a → ⊥) → y.progress.waited ≡ x.progress.waited)
      → ((y : Member) → slice_get new a ≡ Some y → y.progress.waited ≡ true) → AreWaiting new o (remove ws k)
  waiting-less o ws k a A at f d = record {
    rising = λ i j b c l p q. rising i j b c l (get-removed ws k i b p) (get-removed ws k j c q);
    listed = λ i b q. listed b (get-removed ws k i b q);
    whole = λ b t g p w. whole b t g p w;
  }
    where
      rising : (i j b c : ℕ) → i < j → ((i < k) × (slice_get ws i ≡ Some b)) ⊎ ((k ≤ i) × (slice_get ws (suc i) ≡ Some b)) → ((j < k) × (slice_get ws j ≡ Some c)) ⊎ ((k ≤ j) × (slice_get ws (suc j) ≡ Some c)) → b < c
      rising i j b c l (inl p) (inl q) = A.rising i j b c l p.1 q.1
      rising i j b c l (inl p) (inr q) = A.rising i (suc j) b c (omega arith) p.1 q.1
      rising i j b c l (inr p) (inl q) = absurd (omega (arith, p.0, q.0))
      rising i j b c l (inr p) (inr q) = A.rising (suc i) (suc j) b c (omega arith) p.1 q.1

      listed-at : (i b : ℕ) → slice_get ws i ≡ Some b → (b ≡ a → ⊥) → (t : Member) × (slice_get new b ≡ Some t) × (t.parent ≡ Some o) × (t.progress.waited ≡ false)
      listed-at i b q n = let x = A.listed i b q in let y = on b x.0 x.1 in (y.0, y.1, y.2.parent ∙ x.2, f b x.0 y.0 x.1 y.1 n ∙ x.3)

      -- another place has another task
      apart : (i b : ℕ) → slice_get ws i ≡ Some b → (i ≡ k → ⊥) → b ≡ a → ⊥
      apart i b q n s = elim (cases_order i k) [
        | inl h ↦ n h
        | inr h ↦ elim h [
          | inl h ↦ omega (arith, A.rising i k b a h q at, s)
          | inr h ↦ omega (arith, A.rising k i a b h at q, s)
        ]
      ]

      listed : (b : ℕ) {i : ℕ} → ((i < k) × (slice_get ws i ≡ Some b)) ⊎ ((k ≤ i) × (slice_get ws (suc i) ≡ Some b)) → (t : Member) × (slice_get new b ≡ Some t) × (t.parent ≡ Some o) × (t.progress.waited ≡ false)
      listed b {i} (inl p) = listed-at i b p.1 (apart i b p.1 (λ s. omega (arith, p.0, s)))
      listed b {i} (inr p) = listed-at (suc i) b p.1 (apart (suc i) b p.1 (λ s. omega (arith, p.0, s)))

      whole : (b : ℕ) (t : Member) → slice_get new b ≡ Some t → t.parent ≡ Some o → t.progress.waited ≡ false → (i : ℕ) × (slice_get (remove ws k) i ≡ Some b)
      whole b t g p w = elim (cases_eq b a) [
        | inl s ↦ absurd (both_ways t.progress.waited w (d t (ap (slice_get new) (sym s) ∙ g)))
        | inr n ↦
            let x = back b t g in
            let i = A.whole b x.0 x.1 (sym x.2.parent ∙ p) (sym (f b x.0 t x.1 g n) ∙ w) in
            still-there ws k i.0 b i.1 (λ s. let z : Some b ≡ Some a = sym i.1 ∙ (ap (slice_get ws) s ∙ at) in let e : b ≡ a = cc in n e)
      ]

-- a task that was reaped stays so
pub stays-reaped : (a : Actor) (w : What) (r : Row) → is_reaped (after_row a w r) ≡ false → is_reaped r ≡ false
stays-reaped a w r h = false_from_ne_true (is_reaped r) (λ q. both_ways (is_reaped (after_row a w r)) h (go (is_task a r.name) q))
  where
    more : (p b e d c f : Bool) → (b || (d && not f)) ≡ true → ((p || b) || ((e || d) && not (not c && f))) ≡ true
    more p true e d c f q = grind arith
    more p false e true c false q = grind arith
    more p false e true c true q = cc
    more p false e false c f q = cc

    go : (b : Bool) → is_reaped r ≡ true → is_reaped (touched a w (if b then stepped w r else r)) ≡ true
    go true q = more (reaps w r.name) r.waited (ends w) r.ended (ends w && is_task a (parent r.name)) r.fostered q
    go false q = more (reaps w r.name) r.waited false r.ended (ends w && is_task a (parent r.name)) r.fostered q

-- ---- children

pub same-children : (x y : Member) → y.name ≡ x.name → y.pid ≡ x.pid → y.parent ≡ x.parent → y.children ≡ x.children → IsSameTask x y
same-children x y n p q c = record {
  name = n;
  pid = p;
  parent = q;
  old = λ k j h. ap (λ (s : List (Option ℕ)). slice_get s k) c ∙ h;
  new = λ k j h. ap (λ (s : List (Option ℕ)). slice_get s k) (sym c) ∙ h;
}
