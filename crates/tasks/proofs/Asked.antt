-- What a table answers is what the definitions say of the history for which it stands.
-- By the row of each task, by its place among its parent's children, and since past the rows there is neither a name nor a PID.
use Rattle.std.proofs.Common.{◌≡◌, inl, inr, ℕ, suc, ◌+◌, ◌-◌, ◌<◌, ◌≤◌, Bool, true, false, not, List, [], ◌∷◌, ◌++◌, length, Option, Some, None, refl, sym, ap, ◌∙◌, subst, arith, Contains}
use Rattle.std.specs.Prelude.{◌==◌, is_some, slice_get, IsSome, IfSome, IfNone}
use Rattle.std.proofs.lemmas.Bool.{both_ways, and_parts, and_from, eqb-true, eq-eqb, false_from_ne_true}
use Rattle.std.proofs.lemmas.List.{append-nil, append_assoc}
use Rattle.hist_model.specs.Kinds.{makes}
use Rattle.hist_model.specs.Look.{Name, event_at, or_else}
use Rattle.hist_model.specs.Memory.{last_call}
use Rattle.hist_model.specs.Signals.{call_of}
use Rattle.hist_model.specs.Steps.{pid_named, next_child, nr_in, args_in, number_entered, entered}
use Rattle.hist_model.specs.Tasks.{free_from, holder, is_made, last_pid, next_pid, parent}
use Rattle.hist_model.specs.declared.event.Event.{Event}
use Rattle.hist_model.specs.declared.script.Script.{Script}
use Rattle.history_frames.specs.Ordinals.{tasks_made, groups_made, place_of, task_name_of}
use Rattle.history_frames.proofs.Ordinals.{place-one}
use Rattle.tasks.specs.Fold.{IsEntry}
use Rattle.sorted_list.specs.Entries.{entry_for}
use Rattle.sorted_list.proofs.Found.{entry-listed, listed-entry}
use Rattle.tasks.specs.Index.{entry_key, under}
use Rattle.tasks.specs.Sound.{IsSound}
use Rattle.tasks.specs.State.{Row, is_reaped, holds}
use Rattle.tasks.specs.Table.{Member, Table, IsChildIn, IsTableOf, row_in, rows_of, table_of, task_at, view, next_name}
use Rattle.tasks.specs.Stands.{IsEnteredAt, IsHolder, StandsFor}
use Rattle.tasks.specs.declared.index.Entry.{Entry}
use Rattle.tasks.specs.declared.row.EnteredCall.{EnteredCall}
use Rattle.tasks.specs.declared.table.Tasks.{Tasks}
use Rattle.tasks.proofs.Answers.{holder-at, holder-row, row-place}
use Rattle.tasks.proofs.Folds.{get-map}
use Rattle.tasks.proofs.Listed.{parent-snoc, snoc-nil, snoc-parts}
use Rattle.tasks.proofs.Named.{made-ordinal, name-made, name-none, pid-none}
use Rattle.tasks.proofs.Stood.{task-there, task-made, name-is, row-is, row-at, none-past}

-- ---- names that weren't made

-- the name of a task that was made begins with those of other tasks
made-front : (K : List Event) (n rest : Name) → IsSound K → (n ≡ [] → ⊥) → is_made K (n ++ rest) ≡ true → is_made K n ≡ true
made-front K n [] o d h = rw append-nil at h
made-front K n (x ∷ rest) o d h =
    let h' : is_made K ((n ++ x ∷ []) ++ rest) ≡ true = rw append_assoc h in
    elim (o.lineage n x (made-front K (n ++ x ∷ []) rest o (snoc-nil n x) h')) [
      | inl p ↦ absurd (d p.0)
      | inr p ↦ p.0
    ]

-- no name begins with another number than that of the first task
pub root-unmade : (K : List Event) (x : ℕ) (rest : Name) → IsSound K → (x ≡ 0 → ⊥) → is_made K (x ∷ rest) ≡ false
root-unmade K x rest o d = false_from_ne_true (is_made K (x ∷ rest)) (λ h. elim (o.lineage [] x (made-front K (x ∷ []) rest o (λ q. cc) h)) [
  | inl p ↦ d p.1
  | inr p ↦ both_ways (is_made K []) o.nameless p.0
])

-- without tasks no name is that of one
pub none-made : (K : List Event) (n : Name) → tasks_made K ≡ 0 → is_made K n ≡ false
none-made K n q = false_from_ne_true (is_made K n) (λ h. omega (arith, (made-ordinal K n h).1))

module _ (S : Script) (K : List Event) (T : Table) (s : IsTableOf S K T) where
  pub no-task : (o : ℕ) → o < tasks_made K → task_at T o ≡ None → ⊥
  no-task o l q = omega (arith, none-past S K T s o q)

  -- ---- names and PIDs

  pub none-named : (o : ℕ) → task_at T o ≡ None → [] ≡ task_name_of K o
  none-named o q = sym (name-none K o (none-past S K T s o q))

  pub no-pid : (n : Name) → [] ≡ n → 0 ≡ pid_named K n
  no-pid n q = sym (pid-none K [] s.sound.nameless) ∙ ap (pid_named K) q

  pub parent-named : (o q : ℕ) (t : Member) → task_at T o ≡ Some t → t.parent ≡ Some q → task_name_of K q ≡ parent (task_name_of K o)
  parent-named o q t at h =
      let i = subst (λ x. IsChildIn T.tasks o x t.name) h (s.whole.family.parents o t at) in
      sym (name-is S K T s q i.0 i.1) ∙ (sym (parent-snoc i.0.name (i.2 + 1)) ∙ ap parent (sym i.4 ∙ name-is S K T s o t at))

  pub parentless : (o : ℕ) (t : Member) → task_at T o ≡ Some t → t.parent ≡ None → [] ≡ parent (task_name_of K o)
  parentless o t at h =
      let i : t.name ≡ 0 ∷ [] = subst (λ x. IsChildIn T.tasks o x t.name) h (s.whole.family.parents o t at) in
      ap parent (sym i ∙ name-is S K T s o t at)

  pub next-is : (o : ℕ) (t : Member) → task_at T o ≡ Some t → next_name t ≡ next_child K (task_name_of K o)
  next-is o t at =
      let n = (row-is S K T s o t at).spawns_is in
      ap (λ (m : Name). m ++ (length t.children + 1) ∷ []) (name-is S K T s o t at) ∙ ap (λ k. task_name_of K o ++ (k + 1) ∷ []) n

  -- ---- children

  pub child-made : (o j p : ℕ) (t : Member) → task_at T o ≡ Some t → slice_get t.children j ≡ Some (Some p) → (p < tasks_made K) × (task_name_of K p ≡ task_name_of K o ++ (j + 1) ∷ [])
  child-made o j p t at q =
      let i = s.whole.family.children o j p t at q in
      (task-made S K T s p i.0 i.1, sym (name-is S K T s p i.0 i.1) ∙ (i.3 ∙ ap (λ (m : Name). m ++ (j + 1) ∷ []) (name-is S K T s o t at)))

  -- where no child has the number, neither it nor one of its own was made
  pub child-unmade : (o k : ℕ) (t : Member) (rest : Name) → task_at T o ≡ Some t → ((j p : ℕ) → k ≡ j + 1 → slice_get t.children j ≡ Some (Some p) → ⊥) → is_made K (task_name_of K o ++ k ∷ rest) ≡ false
  child-unmade o k t rest at without = false_from_ne_true (is_made K (task_name_of K o ++ k ∷ rest)) (λ m.
      let m' : is_made K ((task_name_of K o ++ k ∷ []) ++ rest) ≡ true = rw append_assoc m in
      let h = made-ordinal K (task_name_of K o ++ k ∷ []) (made-front K (task_name_of K o ++ k ∷ []) rest s.sound (snoc-nil (task_name_of K o) k) m') in
      let u = task-there S K T s h.0 h.1 in
      let n : u.0.name ≡ task_name_of K o ++ k ∷ [] = name-is S K T s h.0 u.0 u.1 ∙ h.2 in
      go h.0 u.0 n u.0.parent (s.whole.family.parents h.0 u.0 u.1))
    where
      go : (p : ℕ) (u : Member) → u.name ≡ task_name_of K o ++ k ∷ [] → (q : Option ℕ) → IsChildIn T.tasks p q u.name → ⊥
      go p u n None i =
          let e = snoc-parts (task_name_of K o) [] k 0 (sym n ∙ i) in
          both_ways (is_made K []) s.sound.nameless (ap (is_made K) (sym e.0) ∙ name-made K o (task-made S K T s o t at))
      go p u n (Some q) i =
          let e = snoc-parts (task_name_of K o) i.0.name k (i.2 + 1) (sym n ∙ i.4) in
          let f = s.whole.family.names o q t i.0 at i.1 (name-is S K T s o t at ∙ e.0) in
          let a : Some t ≡ Some i.0 = sym at ∙ (ap (task_at T) f ∙ i.1) in
          let b : t ≡ i.0 = cc in
          without i.2 p e.1 (ap (λ (x : Member). slice_get x.children i.2) b ∙ i.3)

  -- ---- PIDs

  row-task : (o : ℕ) (r : Row) → slice_get (rows_of T.tasks) o ≡ Some r → (t : Member) × (task_at T o ≡ Some t) × (row_in T.tasks t ≡ r)
  row-task o r q = get-map (row_in T.tasks) T.tasks o r q

  -- who holds the PID has an entry
  holder-entry : (p t : ℕ) → holder K p ≡ Some t → (o : ℕ) × (x : Member) × (place_of K o ≡ Some t) × (task_at T o ≡ Some x) × (holds p (row_in T.tasks x) ≡ true) × Contains T.pids (under p o)
  holder-entry p t h =
      let r = holder-row S K (view T (groups_made K)) s.looks s.sound p t h in
      let x = row-task r.0 r.1 r.3 in
      let q : holds p (row_in T.tasks x.0) ≡ true = ap (holds p) x.2 ∙ r.4 in
      let a = and_parts (x.0.pid == p) (not (is_reaped (row_in T.tasks x.0))) q in
      let pid : x.0.pid ≡ p = eqb-true x.0.pid p a.0 in
      (r.0, x.0, r.2, x.1, q, subst (λ k. Contains T.pids (under k r.0)) pid (s.whole.indexed.whole r.0 x.0 x.1 (turned (is_reaped (row_in T.tasks x.0)) a.1)))
    where
      turned : (b : Bool) → not b ≡ true → b ≡ false
      turned b h = grind arith

  holder-found : (p o : ℕ) → Contains T.pids (under p o) → entry_for entry_key T.pids p ≡ Some (under p o)
  holder-found p o = listed-entry entry_key T.pids (under p o) s.whole.indexed.ordered

  pub none-holds : (p : ℕ) → None ≡ entry_for entry_key T.pids p → holder K p ≡ None
  none-holds p none = go (holder K p) refl
    where
      go : (x : Option ℕ) → holder K p ≡ x → holder K p ≡ None
      go None q = q
      go (Some t) q = let r = holder-entry p t q in let f = holder-found p r.0 r.5 in cc

  -- the entry's task is reaped
  pub reaped-holds : (p : ℕ) (x : Entry) (b : Bool) → Some x ≡ entry_for entry_key T.pids p → ((t : Member) → task_at T x.task ≡ Some t → b ≡ is_reaped (row_in T.tasks t)) → b ≡ true → holder K p ≡ None
  reaped-holds p x b here is gone = go (holder K p) refl
    where
      go : (x : Option ℕ) → holder K p ≡ x → holder K p ≡ None
      go None q = q
      go (Some t) q =
          let r = holder-entry p t q in
          let f = holder-found p r.0 r.5 in
          let e : under p r.0 ≡ x = cc in
          let i : r.0 ≡ x.task = ap (λ (y : Entry). y.task) e in
          let a = and_parts (r.1.pid == p) (not (is_reaped (row_in T.tasks r.1))) r.4 in
          let d : is_reaped (row_in T.tasks r.1) ≡ true = sym (is r.1 (ap (task_at T) (sym i) ∙ r.3)) ∙ gone in
          absurd (both_ways (not (is_reaped (row_in T.tasks r.1))) (ap not d) a.1)

  -- or it isn't
  pub entry-holds : (p : ℕ) (x : Entry) (b : Bool) → Some x ≡ entry_for entry_key T.pids p → ((t : Member) → task_at T x.task ≡ Some t → b ≡ is_reaped (row_in T.tasks t)) → b ≡ false → IsHolder K p x.task
  entry-holds p x b here is kept =
      let o = x.task in
      let h = entry-listed entry_key T.pids p x (sym here) in
      let t = s.whole.indexed.listed x h.0 in
      let d : is_reaped (row_in T.tasks t.0) ≡ false = sym (is t.0 t.1) ∙ kept in
      let y : holds p (row_in T.tasks t.0) ≡ true = and_from (t.0.pid == p) (not (is_reaped (row_in T.tasks t.0))) (eq-eqb t.0.pid p (t.2 ∙ h.1)) (ap not d) in
      let r = row-at S K T s o t.0 t.1 in
      let l = row-place S K (view T (groups_made K)) s.looks s.sound o (row_in T.tasks t.0) r in
      (task-made S K T s o t.0 t.1, l.0, holder-at S K (view T (groups_made K)) s.looks s.sound p o (row_in T.tasks t.0) r y ∙ l.1, l.1)

  -- the one that holds a PID, and nobody else
  pub holders : (p o : ℕ) → IsHolder K p o → (t : Member) × (task_at T o ≡ Some t) × (holds p (row_in T.tasks t) ≡ true) × ((j : ℕ) (x : Member) → task_at T j ≡ Some x → holds p (row_in T.tasks x) ≡ true → j ≡ o)
  holders p o h =
      let r = holder-entry p h.1 h.2 in
      let e = place-one makes K r.0 o h.1 r.2 h.3 in (
        r.1,
        ap (task_at T) (sym e) ∙ r.3,
        r.4,
        λ j x at q.
            let z = holder-at S K (view T (groups_made K)) s.looks s.sound p j (row_in T.tasks x) (row-at S K T s j x at) q in
            place-one makes K j o h.1 (sym z ∙ h.2) h.3,
      )

  -- nobody holds it
  pub nobody-holds : (p : ℕ) → holder K p ≡ None → (j : ℕ) (x : Member) → task_at T j ≡ Some x → holds p (row_in T.tasks x) ≡ false
  nobody-holds p h j x at = false_from_ne_true (holds p (row_in T.tasks x)) (λ q.
      let r = row-at S K T s j x at in
      let l = row-place S K (view T (groups_made K)) s.looks s.sound j (row_in T.tasks x) r in
      let z : None ≡ Some l.0 = sym h ∙ (holder-at S K (view T (groups_made K)) s.looks s.sound p j (row_in T.tasks x) r q ∙ l.1) in
      cc)

-- ---- the next PID

pub free-next : (K : List Event) (last p : ℕ) → p < last → (t : ℕ) → holder K (p + 1) ≡ Some t → free_from K (last - p) (p + 1) ≡ free_from K (last - (p + 1)) (p + 1 + 1)
unfolding free_from
free-next K last p l t h = let q : last - p ≡ suc (last - (p + 1)) = omega arith in rw (q, h)

pub free-here : (K : List Event) (last p : ℕ) → p < last → holder K (p + 1) ≡ None → free_from K (last - p) (p + 1) ≡ Some (p + 1)
unfolding free_from
free-here K last p l h = let q : last - p ≡ suc (last - (p + 1)) = omega arith in rw (q, h)

pub free-end : (K : List Event) (last p : ℕ) → last ≤ p → free_from K (last - p) (p + 1) ≡ None
unfolding free_from
free-end K last p l = let q : last - p ≡ 0 = omega arith in rw q

-- ---- the call that was entered last

pub entered-at : (K : List Event) (n : Name) (c : ℕ) (x : Option EnteredCall) → IsSound K → call_of K n ≡ Some c → IsEntry x (last_call K n) → IsSome x → IsEnteredAt x (event_at K c)
entered-at K n c None Y q i h = cc
entered-at K n c (Some x) Y q i h =
    let z = Y.entries n c q in
    let f = z.2 ∙ i.1 in
    (sym (ap nr_in z.1 ∙ ap number_entered f), sym (ap args_in z.1 ∙ ap entered f))

-- ---- children and PIDs, as a table's own calls find them

pub child-some : (T : Tasks) (o k j : ℕ) (t : Member) (x : Option ℕ) → task_at (table_of T) o ≡ Some t → k ≡ j + 1 → slice_get t.children j ≡ Some x
    → IfSome x (λ p. (S : Script) (K : List Event) → StandsFor S K T → o < tasks_made K → (p < tasks_made K) × (task_name_of K p ≡ task_name_of K o ++ k ∷ []))
child-some T o k j t None at q h = tt
child-some T o k j t (Some p) at q h = λ S K s l. let m = child-made S K (table_of T) s.is_table o j p t at h in (m.0, m.1 ∙ ap (λ i. task_name_of K o ++ i ∷ []) (sym q))

pub child-none : (T : Tasks) (o k j : ℕ) (t : Member) (x : Option ℕ) → task_at (table_of T) o ≡ Some t → k ≡ j + 1 → slice_get t.children j ≡ Some x
    → IfNone x ((S : Script) (K : List Event) (rest : Name) → StandsFor S K T → o < tasks_made K → is_made K (task_name_of K o ++ k ∷ rest) ≡ false)
child-none T o k j t (Some p) at q h = tt
child-none T o k j t None at q h = λ S K rest s l. child-unmade S K (table_of T) s.is_table o k t rest at (λ i p e g.
    let f : i ≡ j = omega (arith, q, e) in
    let z : Some (Some p) ≡ Some None = sym g ∙ (ap (slice_get t.children) f ∙ h) in
    cc)

pub held-next : (T : Tasks) (r : Option ℕ) (last p : ℕ) → p < last → is_some r ≡ true → IfSome r (λ o. (S : Script) (K : List Event) → StandsFor S K T → IsHolder K (p + 1) o)
    → (S : Script) (K : List Event) → StandsFor S K T → free_from K (last - p) (p + 1) ≡ free_from K (last - (p + 1)) (p + 1 + 1)
held-next T None last p l h f = cc
held-next T (Some o) last p l h f = λ S K s. let i = f S K s in free-next K last p l i.1 i.2

pub free-now : (T : Tasks) (r : Option ℕ) (last p : ℕ) → p < last → is_some r ≡ false → IfNone r ((S : Script) (K : List Event) → StandsFor S K T → holder K (p + 1) ≡ None)
    → (S : Script) (K : List Event) → StandsFor S K T → free_from K (last - p) (p + 1) ≡ Some (p + 1)
free-now T (Some o) last p l h f = cc
free-now T None last p l h f = λ S K s. free-here K last p l (f S K s)

module _ (S : Script) (K : List Event) (T : Table) (s : IsTableOf S K T) where
  after-last : free_from K (T.top - T.last) (T.last + 1) ≡ free_from K (S.pidbase + S.pidmax - last_pid S.pidbase K) (last_pid S.pidbase K + 1)
  after-last = ap (λ x. free_from K (x - T.last) (T.last + 1)) s.top_is ∙ ap (λ x. free_from K (S.pidbase + S.pidmax - x) (x + 1)) s.looks.last_is

  after-base : free_from K (T.last - T.base) (T.base + 1) ≡ free_from K (last_pid S.pidbase K - S.pidbase) (S.pidbase + 1)
  after-base = ap (λ x. free_from K (T.last - x) (x + 1)) s.base_is ∙ ap (λ x. free_from K (x - S.pidbase) (S.pidbase + 1)) s.looks.last_is

  pub next-some : (pid : ℕ) → Some pid ≡ free_from K (T.top - T.last) (T.last + 1) → Some pid ≡ next_pid S.pidbase S.pidmax K
  unfolding next_pid
  next-some pid h = ap (λ (x : Option ℕ). or_else x (free_from K (last_pid S.pidbase K - S.pidbase) (S.pidbase + 1))) (h ∙ after-last)

  pub next-none : (r : Option ℕ) → None ≡ free_from K (T.top - T.last) (T.last + 1) → r ≡ free_from K (T.last - T.base) (T.base + 1) → r ≡ next_pid S.pidbase S.pidmax K
  unfolding next_pid
  next-none r h k = k ∙ (after-base ∙ ap (λ (x : Option ℕ). or_else x (free_from K (last_pid S.pidbase K - S.pidbase) (S.pidbase + 1))) (h ∙ after-last))
