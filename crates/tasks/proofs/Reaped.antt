-- The table after a task has waited for a child, and what a wait finds.
-- By the row of each task, and since those for which a task may wait stand in order.
use Rattle.std.proofs.Common.{◌≡◌, ◌⊎◌, inl, inr, ℕ, zero, suc, ◌+◌, ◌-◌, ◌<◌, ◌≤◌, ◌^◌, Bool, true, false, ◌&&◌, ◌||◌, not, List, [], ◌∷◌, ◌++◌, length, set, Option, Some, None, refl, sym, ap, ◌∙◌, subst, arith, leb}
use Rattle.std.specs.Prelude.{if◌then◌else◌, find, slice_get, count_by, Ok, Err, IfNone, IfSome, is_some}
use Rattle.std.specs.List.{remove}
use Rattle.std.proofs.lemmas.Bool.{cases_order, both_ways, and_parts, and_from, false_from_ne_true}
use Rattle.std.proofs.lemmas.List.{length-set, length-append}
use Rattle.std.proofs.lemmas.Option.{slice_get-map, slice_get_within}
use Rattle.hist_model.specs.Kinds.{makes, skips}
use Rattle.hist_model.specs.Look.{Name, name_eq, oldest}
use Rattle.hist_model.specs.Steps.{is_child, is_ended_child, wait_step}
use Rattle.hist_model.specs.Tasks.{ended, has_parent, parent}
use Rattle.hist_model.specs.declared.event.Actor.TheVariants.{Task as TaskActor}
use Rattle.hist_model.specs.declared.event.Event.{Event}
use Rattle.hist_model.specs.declared.event.What.{What}
use Rattle.hist_model.specs.declared.event.What.TheVariants.{Reap, Skip}
use Rattle.hist_model.specs.declared.script.Script.{Script}
use Rattle.hist_model.proofs.Look.{name_eq-refl, name_eq-true}
use Rattle.history_frames.specs.Ordinals.{groups_made, task_name_of}
use Rattle.sys_abi.specs.Errnos.{echild}
use Rattle.tasks.specs.Rows.{IsAfter}
use Rattle.tasks.specs.Sound.{IsStepOf}
use Rattle.tasks.specs.State.{Row, State, is_child_of, is_ended_child_of, is_reaped, stepped, wait_by, wait_in}
use Rattle.tasks.specs.Table.{Member, Table, AreWaiting, IsChildIn, IsEndedAt, IsNoted, IsStepped, IsTableOf, IsWhole, IsWritten, is_living, lives, lives_at, row_in, rows_of, task_at, view, waited_for, with_one_less, with_progress, with_task, without_waiting}
use Rattle.tasks.specs.declared.row.Progress.{Progress}
use Rattle.tasks.specs.Stands.{name_in}
use Rattle.tasks.proofs.Answers.{find-none, wait-is}
use Rattle.tasks.proofs.Changed.{IsTouched, member-with, own-touched, other-touched, waited-progress, unwaited-progress}
use Rattle.tasks.proofs.Folds.{get-map}
use Rattle.tasks.proofs.Frames.{names-apart}
use Rattle.tasks.proofs.Listed.{get-set, get-put, get-other, count-put, parent-snoc, snoc-nil}
use Rattle.tasks.proofs.Stood.{is-stepped, living-put, name-is, next-fits, row-is, stands-step, task-there}
use Rattle.tasks.proofs.Whole.{IsSameTask, same-children, waiting-same, waiting-less}

-- a name is not that of a child of its own
longer : (n : Name) (k : ℕ) → n ≡ n ++ k ∷ [] → ⊥
longer n k q = omega (arith, ap length q, length-append n (k ∷ []))

-- a child's name has one number more than its parent's
pub child-name : (T : Table) (H : IsWhole T) (o a : ℕ) (t c : Member) → task_at T o ≡ Some t → task_at T a ≡ Some c → c.parent ≡ Some o → (k : ℕ) × (c.name ≡ t.name ++ (k + 1) ∷ [])
child-name T H o a t c at ct q =
    let i = subst (λ x. IsChildIn T.tasks a x c.name) q (H.family.parents a c ct) in
    let s : Some i.0 ≡ Some t = sym i.1 ∙ at in
    let e : i.0 ≡ t = cc in
    (i.2, i.4 ∙ ap (λ (x : Member). x.name ++ (i.2 + 1) ∷ []) e)

pub child-apart : (T : Table) (H : IsWhole T) (o a : ℕ) (t c : Member) → task_at T o ≡ Some t → task_at T a ≡ Some c → c.parent ≡ Some o → a ≡ o → ⊥
child-apart T H o a t c at ct mine q =
    let s : Some c ≡ Some t = sym ct ∙ (ap (task_at T) q ∙ at) in
    let e : c ≡ t = cc in
    let l = child-name T H o a t c at ct mine in
    longer t.name (l.0 + 1) (ap (λ (x : Member). x.name) (sym e) ∙ l.1)

module _ (old took kept new : Table) (H : IsWhole old) (o : ℕ) (t : Member) (at : task_at old o ≡ Some t) (k a : ℕ) (here : slice_get t.waiting k ≡ Some a)
    (taken : took ≡ with_task old o (without_waiting t k)) (waited : IsWritten took a (λ x. with_progress x (waited_for x.progress)) kept) (c : Member) (ct : task_at old a ≡ Some c) (mine : c.parent ≡ Some o)
    (n : IsNoted kept o (Reap (Ok c.name)) new) (fits : t.progress.next + 1 < 2 ^ 64) where
  abbrev w : What
  w = Reap (Ok c.name)

  apart : a ≡ o → ⊥
  apart = child-apart old H o a t c at ct mine

  abbrev less : List Member
  less = set old.tasks o (without_waiting t k)

  took-tasks : took.tasks ≡ less
  took-tasks = ap (λ (x : Table). x.tasks) taken

  abbrev done : Member
  done = with_progress c (waited_for c.progress)

  kept-is : kept ≡ with_task took a done
  kept-is = waited.some c (ap (λ (xs : List Member). slice_get xs a) took-tasks ∙ (get-other old.tasks o a (without_waiting t k) apart ∙ ct))

  abbrev marked-tasks : List Member
  marked-tasks = set less a done

  kept-tasks : kept.tasks ≡ marked-tasks
  kept-tasks = ap (λ (x : Table). x.tasks) kept-is ∙ ap (λ (xs : List Member). set xs a done) took-tasks

  own-at : slice_get marked-tasks o ≡ Some (without_waiting t k)
  own-at = get-other less a o done (λ q. apart (sym q)) ∙ get-put old.tasks o (without_waiting t k) t at

  kept-at : task_at kept o ≡ Some (without_waiting t k)
  kept-at = ap (λ (xs : List Member). slice_get xs o) kept-tasks ∙ own-at

  abbrev p : Progress
  p = (n.task (without_waiting t k) kept-at).0

  abbrev A : IsAfter t.progress w p
  A = (n.task (without_waiting t k) kept-at).1

  abbrev own : Member
  own = member-with t t.children (remove t.waiting k) p

  new-is : new ≡ with_one_less (with_task kept o own) (p.ended && not t.progress.ended)
  new-is = (n.task (without_waiting t k) kept-at).2

  abbrev now : List Member
  now = set marked-tasks o own

  new-tasks : new.tasks ≡ now
  new-tasks = ap (λ (x : Table). x.tasks) new-is ∙ ap (λ (xs : List Member). set xs o own) kept-tasks

  long : length now ≡ length old.tasks
  long = length-set marked-tasks o own ∙ (length-set less a done ∙ length-set old.tasks o (without_waiting t k))

  -- each task is the one that waits, its child, or another
  abbrev IsOne : ℕ → Member → Member → Type 0
  IsOne j x y = ((j ≡ o) × (t ≡ x) × (own ≡ y)) ⊎ (((j ≡ a) × (c ≡ x) × (done ≡ y)) ⊎ ((j ≡ o → ⊥) × (j ≡ a → ⊥) × (x ≡ y)))

  which : (j : ℕ) (x y : Member) → slice_get old.tasks j ≡ Some x → slice_get now j ≡ Some y → IsOne j x y
  which j x y h g = elim (get-set marked-tasks o j own y g) [
    | inl z ↦ let s : Some t ≡ Some x = sym at ∙ (ap (slice_get old.tasks) (sym z.0) ∙ h) in let e : t ≡ x = cc in inl (z.0, e, z.1)
    | inr z ↦ elim (get-set less a j done y z.1) [
      | inl q ↦ let s : Some c ≡ Some x = sym ct ∙ (ap (slice_get old.tasks) (sym q.0) ∙ h) in let e : c ≡ x = cc in inr (inl (q.0, e, q.1))
      | inr q ↦ let s : Some x ≡ Some y = sym h ∙ (sym (get-other old.tasks o j (without_waiting t k) z.0) ∙ q.1) in let e : x ≡ y = cc in inr (inr (z.0, q.0, e))
    ]
  ]

  named-apart : (j : ℕ) (x : Member) (b : ℕ) (y : Member) → task_at old j ≡ Some x → task_at old b ≡ Some y → (j ≡ b → ⊥) → name_eq y.name x.name ≡ false
  named-apart j x b y h g q = names-apart y.name x.name (λ e. q (H.family.names j b x y h g (sym e)))

  touched-each : (j : ℕ) (x y : Member) → slice_get old.tasks j ≡ Some x → slice_get now j ≡ Some y → IsTouched old.tasks (TaskActor t.name) w x y
  touched-each j x y h g = go (which j x y h g)
    where
      go : IsOne j x y → IsTouched old.tasks (TaskActor t.name) w x y
      go (inl z) = subst (λ u. IsTouched old.tasks (TaskActor t.name) w u y) z.1 (subst (λ u. IsTouched old.tasks (TaskActor t.name) w t u) z.2
          (own-touched old.tasks t p p w t.children (remove t.waiting k) A fits (omega arith) (unwaited-progress c.name t.name (stepped w (row_in old.tasks t)) p (named-apart o t a c at ct (λ q. apart (sym q))) (sym A.pending))))
      go (inr (inl z)) = subst (λ u. IsTouched old.tasks (TaskActor t.name) w u y) z.1 (subst (λ u. IsTouched old.tasks (TaskActor t.name) w c u) z.2
          (other-touched old.tasks (TaskActor t.name) c (waited_for c.progress) w c.waiting (named-apart a c o t ct at apart) (waited-progress c.name c.name (row_in old.tasks c) c.progress (name_eq-refl c.name) refl)))
      go (inr (inr z)) = subst (λ u. IsTouched old.tasks (TaskActor t.name) w x u) z.2
          (other-touched old.tasks (TaskActor t.name) x x.progress w x.waiting (named-apart j x o t h at z.0) (unwaited-progress c.name x.name (row_in old.tasks x) x.progress (named-apart j x a c h ct z.1) refl))

  same-each : (j : ℕ) (x y : Member) → slice_get old.tasks j ≡ Some x → slice_get now j ≡ Some y → IsSameTask x y
  same-each j x y h g = go (which j x y h g)
    where
      go : IsOne j x y → IsSameTask x y
      go (inl z) = subst (λ u. IsSameTask u y) z.1 (subst (λ u. IsSameTask t u) z.2 (same-children t own refl refl refl refl))
      go (inr (inl z)) = subst (λ u. IsSameTask u y) z.1 (subst (λ u. IsSameTask c u) z.2 (same-children c done refl refl refl refl))
      go (inr (inr z)) = subst (λ u. IsSameTask x u) z.2 (same-children x x refl refl refl refl)

  waited-each : (j : ℕ) (x y : Member) → slice_get old.tasks j ≡ Some x → slice_get now j ≡ Some y → (j ≡ a → ⊥) → y.progress.waited ≡ x.progress.waited
  waited-each j x y h g q = go (which j x y h g)
    where
      go : IsOne j x y → y.progress.waited ≡ x.progress.waited
      go (inl z) = ap (λ (u : Member). u.progress.waited) (sym z.2) ∙ (A.waited ∙ ap (λ (u : Member). u.progress.waited) z.1)
      go (inr (inl z)) = absurd (q z.0)
      go (inr (inr z)) = ap (λ (u : Member). u.progress.waited) (sym z.2)

  waited-child : (y : Member) → slice_get now a ≡ Some y → y.progress.waited ≡ true
  waited-child y g = go (which a c y ct g)
    where
      go : IsOne a c y → y.progress.waited ≡ true
      go (inl z) = absurd (apart z.0)
      go (inr (inl z)) = ap (λ (u : Member). u.progress.waited) (sym z.2)
      go (inr (inr z)) = absurd (z.1 refl)

  waiting-each : (j : ℕ) (x y : Member) → slice_get old.tasks j ≡ Some x → slice_get now j ≡ Some y → AreWaiting now j y.waiting
  waiting-each j x y h g = go (which j x y h g)
    where
      -- a child of another task isn't the one that was waited for
      others : (j ≡ o → ⊥) → (i : ℕ) (u v : Member) → slice_get old.tasks i ≡ Some u → slice_get now i ≡ Some v → u.parent ≡ Some j → v.progress.waited ≡ u.progress.waited
      others q i u v h g b = waited-each i u v h g (λ z.
          let s : Some u ≡ Some c = sym h ∙ (ap (slice_get old.tasks) z ∙ ct) in
          let e : u ≡ c = cc in
          let f : Some j ≡ Some o = sym b ∙ (ap (λ (x : Member). x.parent) e ∙ mine) in
          let r : j ≡ o = cc in
          q r)

      go : IsOne j x y → AreWaiting now j y.waiting
      go (inl z) = subst (λ i. AreWaiting now i y.waiting) (sym z.0) (subst (λ (u : Member). AreWaiting now o u.waiting) z.2 (waiting-less old.tasks now long same-each o t.waiting k a (H.waiting o t at) here waited-each waited-child))
      go (inr (inl z)) = subst (λ (u : Member). AreWaiting now j u.waiting) z.2 (waiting-same old.tasks now long same-each j c.waiting (H.waiting j c (h ∙ ap Some (sym z.1))) (others (λ q. apart (sym z.0 ∙ q))))
      go (inr (inr z)) = subst (λ (u : Member). AreWaiting now j u.waiting) z.2 (waiting-same old.tasks now long same-each j x.waiting (H.waiting j x h) (others z.0))

  living-is : new.living ≡ count_by is_living now
  living-is =
      let l : new.living ≡ (if p.ended && not t.progress.ended then old.living - 1 else old.living) = ap (λ (x : Table). x.living) new-is
      ∙ ap (λ l. if p.ended && not t.progress.ended then l - 1 else l) (ap (λ (x : Table). x.living) kept-is ∙ ap (λ (x : Table). x.living) taken) in
      let x = count-put is_living old.tasks o t (without_waiting t k) at in
      let y = count-put is_living less a c done (get-other old.tasks o a (without_waiting t k) apart ∙ ct) in
      let z = living-put marked-tasks o (without_waiting t k) own false own-at A.ended in
      let s : old.living ≡ count_by is_living marked-tasks = H.living ∙ omega (arith, x, y) in
      l ∙ (ap (λ l. if p.ended && not t.progress.ended then l - 1 else l) s ∙ z)

  pub reaped-stepped : IsStepped old o w new
  reaped-stepped = is-stepped old new o t w now H at long touched-each same-each waiting-each living-is new-tasks
      (ap (λ (x : Table). x.pids) new-is ∙ (ap (λ (x : Table). x.pids) kept-is ∙ ap (λ (x : Table). x.pids) taken)) (ap (λ (x : Table). x.last) new-is ∙ (ap (λ (x : Table). x.last) kept-is ∙ ap (λ (x : Table). x.last) taken))
      (ap (λ (x : Table). x.base) new-is ∙ (ap (λ (x : Table). x.base) kept-is ∙ ap (λ (x : Table). x.base) taken)) (ap (λ (x : Table). x.top) new-is ∙ (ap (λ (x : Table). x.top) kept-is ∙ ap (λ (x : Table). x.top) taken))

-- ---- a child at a place

-- it stands there
pub ended-below : (T : Table) (o k : ℕ) (t : Member) → task_at T o ≡ Some t → IsEndedAt T o k → k < length t.waiting
ended-below T o k t at i =
    let s : Some i.0 ≡ Some t = sym i.1 ∙ at in
    let e : i.0 ≡ t = cc in
    slice_get_within t.waiting k i.2 (ap (λ (x : Member). slice_get x.waiting k) (sym e) ∙ i.3)

-- it hasn't ended where it lives
pub lives-there : (T : Table) (o k : ℕ) (t : Member) (a : ℕ) → task_at T o ≡ Some t → slice_get t.waiting k ≡ Some a → lives_at T.tasks (Some a) ≡ true → IsEndedAt T o k → ⊥
lives-there T o k t a at q l i =
    let s : Some i.0 ≡ Some t = sym i.1 ∙ at in
    let e : i.0 ≡ t = cc in
    let z : Some i.2 ≡ Some a = sym i.3 ∙ (ap (λ (x : Member). slice_get x.waiting k) e ∙ q) in
    let f : i.2 ≡ a = cc in
    both_ways (lives_at T.tasks (Some a)) (ap (λ b. lives_at T.tasks (Some b)) (sym f) ∙ i.4) l

-- ---- what a wait finds

-- the first item that passes a test
pub find-first : {X : Type 0} → (p : X → Bool) (xs : List X) (o : ℕ) (r : X) → slice_get xs o ≡ Some r → p r ≡ true → ((j : ℕ) (x : X) → j < o → slice_get xs j ≡ Some x → p x ≡ false) → find p xs ≡ Some r
find-first p [] o r q h u = cc
find-first p (x ∷ xs) zero r q h u = let z : x ≡ r = cc in let y : p x ≡ true = ap p z ∙ h in rw y q
find-first p (x ∷ xs) (suc o) r q h u =
    let n : p x ≡ false = u 0 x (omega arith) refl in
    rw n (find-first p xs o r q h (λ j y l g. u (suc j) y (omega arith) g))

pub find-no : {X : Type 0} → (p : X → Bool) (xs : List X) → ((j : ℕ) (x : X) → slice_get xs j ≡ Some x → p x ≡ false) → find p xs ≡ None
find-no p [] u = refl
find-no p (x ∷ xs) u = let n : p x ≡ false = u 0 x refl in rw n (find-no p xs (λ j y g. u (suc j) y g))

module _ (T : Table) (H : IsWhole T) (o : ℕ) (t : Member) (at : task_at T o ≡ Some t) (lives-on : t.progress.ended ≡ false) where
  -- a child of a task that lives isn't reaped until it was waited for
  child-row : (a : ℕ) (c : Member) → task_at T a ≡ Some c → c.parent ≡ Some o → is_reaped (row_in T.tasks c) ≡ c.progress.waited
  child-row a c ct q =
      let f : lives_at T.tasks c.parent ≡ true = ap (lives_at T.tasks) q ∙ (ap lives at ∙ ap not lives-on) in
      ap (λ b. c.progress.waited || (c.progress.ended && not b)) f ∙ turned c.progress.waited c.progress.ended
    where
      turned : (x y : Bool) → (x || (y && false)) ≡ x
      turned x y = grind arith

  named : t.name ≡ [] → ⊥
  named q = go t.parent (H.family.parents o t at)
    where
      go : (p : Option ℕ) → IsChildIn T.tasks o p t.name → ⊥
      go None i = let z : ◌≡◌ {A = Name} (0 ∷ []) [] = sym i ∙ q in cc
      go (Some b) i = snoc-nil i.0.name (i.2 + 1) (sym i.4 ∙ q)

  is-child : (a : ℕ) (c : Member) → task_at T a ≡ Some c → c.parent ≡ Some o → (has_parent c.name ≡ true) × (name_eq (parent c.name) t.name ≡ true)
  is-child a c ct q =
      let l = child-name T H o a t c at ct q in
      (ap has_parent l.1 ∙ two t.name (l.0 + 1) named, ap (λ n. name_eq n t.name) (ap parent l.1 ∙ parent-snoc t.name (l.0 + 1)) ∙ name_eq-refl t.name)
    where
      true-leb : (a b : ℕ) → a ≤ b → leb a b ≡ true
      true-leb a b l = grind arith

      two : (n : Name) (k : ℕ) → (n ≡ [] → ⊥) → has_parent (n ++ k ∷ []) ≡ true
      two [] k h = absurd (h refl)
      two (x ∷ n) k h = let l : 2 ≤ length (x ∷ (n ++ k ∷ [])) = omega (arith, length-append n (k ∷ [])) in true-leb 2 (length (x ∷ (n ++ k ∷ []))) l

  -- a row that is named as a child of the task is one
  child-is : (a : ℕ) (r : Row) → slice_get (rows_of T.tasks) a ≡ Some r → has_parent r.name ≡ true → name_eq (parent r.name) t.name ≡ true → (c : Member) × (task_at T a ≡ Some c) × (row_in T.tasks c ≡ r) × (c.parent ≡ Some o)
  child-is a r g h q =
      let c = get-map (row_in T.tasks) T.tasks a r g in
      let n : c.0.name ≡ r.name = ap (λ (x : Row). x.name) c.2 in
      (c.0, c.1, c.2, go c.0.parent c.0.name (H.family.parents a c.0 c.1) (ap has_parent n ∙ h) (ap (λ x. name_eq (parent x) t.name) n ∙ q))
    where
      go : (p : Option ℕ) (n : Name) → IsChildIn T.tasks a p n → has_parent n ≡ true → name_eq (parent n) t.name ≡ true → p ≡ Some o
      go None n i h q = let z : has_parent (0 ∷ []) ≡ true = ap has_parent (sym i) ∙ h in cc
      go (Some b) n i h q =
          let m : i.0.name ≡ t.name = sym (parent-snoc i.0.name (i.2 + 1)) ∙ (ap parent (sym i.4) ∙ name_eq-true (parent n) t.name q) in
          ap Some (H.family.names b o i.0 t i.1 at m)

  -- no child to wait for
  pub none-waiting : t.waiting ≡ [] → (s : State) → s.rows ≡ rows_of T.tasks → wait_in t.name s ≡ Reap (Err echild)
  none-waiting e s q = ap (λ (x : Option Row). wait_by x (find (is_ended_child_of t.name) s.rows)) (ap (find (is_child_of t.name)) q ∙ find-no (is_child_of t.name) (rows_of T.tasks) (λ a r g.
      false_from_ne_true (is_child_of t.name r) (λ y.
      let p = and_parts (has_parent r.name) (name_eq (parent r.name) t.name && not (is_reaped r)) y in
      let z = and_parts (name_eq (parent r.name) t.name) (not (is_reaped r)) p.1 in
      let c = child-is a r g p.0 z.0 in
      let w : c.0.progress.waited ≡ false = sym (child-row a c.0 c.1 c.3) ∙ (ap is_reaped c.2 ∙ turned (is_reaped r) z.1) in
      let k = (H.waiting o t at).whole a c.0 c.1 c.3 w in
      let n : slice_get {X = ℕ} [] k.0 ≡ Some a = ap (λ (ws : List ℕ). slice_get ws k.0) (sym e) ∙ k.1 in
      no-item k.0 a n)))
    where
      turned : (b : Bool) → not b ≡ true → b ≡ false
      turned b h = grind arith

      no-item : (k a : ℕ) → slice_get {X = ℕ} [] k ≡ Some a → ⊥
      no-item k a q = cc

  row-there : (a : ℕ) (c : Member) → task_at T a ≡ Some c → slice_get (rows_of T.tasks) a ≡ Some (row_in T.tasks c)
  row-there a c q = slice_get-map (row_in T.tasks) T.tasks a ∙ rw q refl

  some-child : (k a : ℕ) → slice_get t.waiting k ≡ Some a → find (is_child_of t.name) (rows_of T.tasks) ≡ None → ⊥
  some-child k a q n =
      let c = (H.waiting o t at).listed k a q in
      let i = is-child a c.0 c.1 c.2 in
      let w : not (is_reaped (row_in T.tasks c.0)) ≡ true = ap not (child-row a c.0 c.1 c.2 ∙ c.3) in
      both_ways (is_child_of t.name (row_in T.tasks c.0)) (find-none (is_child_of t.name) (rows_of T.tasks) n a (row_in T.tasks c.0) (row-there a c.0 c.1))
      (and_from (has_parent c.0.name) (name_eq (parent c.0.name) t.name && not (is_reaped (row_in T.tasks c.0))) i.0 (and_from (name_eq (parent c.0.name) t.name) (not (is_reaped (row_in T.tasks c.0))) i.1 w))

  -- a row that passes for an ended child stands among those for which the task may wait
  ended-at : (a : ℕ) (r : Row) → slice_get (rows_of T.tasks) a ≡ Some r → is_ended_child_of t.name r ≡ true → (k : ℕ) × (slice_get t.waiting k ≡ Some a) × IsEndedAt T o k
  ended-at a r g y =
      let p = and_parts (has_parent r.name) (name_eq (parent r.name) t.name && (r.ended && not (is_reaped r))) y in
      let z = and_parts (name_eq (parent r.name) t.name) (r.ended && not (is_reaped r)) p.1 in
      let v = and_parts r.ended (not (is_reaped r)) z.1 in
      let c = child-is a r g p.0 z.0 in
      let w : c.0.progress.waited ≡ false = sym (child-row a c.0 c.1 c.3) ∙ (ap is_reaped c.2 ∙ turned (is_reaped r) v.1) in
      let k = (H.waiting o t at).whole a c.0 c.1 c.3 w in
      let d : c.0.progress.ended ≡ true = ap (λ (x : Row). x.ended) c.2 ∙ v.0 in
      (k.0, k.1, (t, at, a, k.1, ap lives c.1 ∙ ap not d))
    where
      turned : (b : Bool) → not b ≡ true → b ≡ false
      turned b h = grind arith

  -- none of them has ended
  pub none-ended : (k a : ℕ) → slice_get t.waiting k ≡ Some a → ((j : ℕ) → IsEndedAt T o j → ⊥) → (s : State) → s.rows ≡ rows_of T.tasks → wait_in t.name s ≡ Skip
  none-ended k a q never s e = ap (λ (rs : List Row). wait_by (find (is_child_of t.name) rs) (find (is_ended_child_of t.name) rs)) e ∙ go (find (is_child_of t.name) (rows_of T.tasks)) refl
    where
      none : find (is_ended_child_of t.name) (rows_of T.tasks) ≡ None
      none = find-no (is_ended_child_of t.name) (rows_of T.tasks) (λ b r g. false_from_ne_true (is_ended_child_of t.name r) (λ y. let z = ended-at b r g y in never z.0 z.2))

      go : (x : Option Row) → find (is_child_of t.name) (rows_of T.tasks) ≡ x → wait_by (find (is_child_of t.name) (rows_of T.tasks)) (find (is_ended_child_of t.name) (rows_of T.tasks)) ≡ Skip
      go None z = absurd (some-child k a q z)
      go (Some r) z = rw (z, none) refl

  -- the first one that has
  pub first-found : (k a : ℕ) (c : Member) → slice_get t.waiting k ≡ Some a → task_at T a ≡ Some c → lives_at T.tasks (Some a) ≡ false → ((j : ℕ) → j < k → IsEndedAt T o j → ⊥) → (s : State) → s.rows ≡ rows_of T.tasks → wait_in t.name s ≡ Reap (Ok c.name)
  first-found k a c q ct d sooner s e = ap (λ (rs : List Row). wait_by (find (is_child_of t.name) rs) (find (is_ended_child_of t.name) rs)) e ∙ go (find (is_child_of t.name) (rows_of T.tasks)) refl
    where
      turned : (b : Bool) → not b ≡ false → b ≡ true
      turned b h = grind arith

      own : (x : Member) × (task_at T a ≡ Some x) × (x.parent ≡ Some o) × (x.progress.waited ≡ false)
      own = (H.waiting o t at).listed k a q

      same : own.0 ≡ c
      same = let z : Some own.0 ≡ Some c = sym own.1 ∙ ct in cc

      mine : c.parent ≡ Some o
      mine = ap (λ (x : Member). x.parent) (sym same) ∙ own.2

      passes : is_ended_child_of t.name (row_in T.tasks c) ≡ true
      passes =
          let i = is-child a c ct mine in
          let w : not (is_reaped (row_in T.tasks c)) ≡ true = ap not (child-row a c ct mine ∙ (ap (λ (x : Member). x.progress.waited) (sym same) ∙ own.3)) in
          let z : c.progress.ended ≡ true = turned c.progress.ended (sym (ap lives ct) ∙ d) in
          and_from (has_parent c.name) (name_eq (parent c.name) t.name && (c.progress.ended && not (is_reaped (row_in T.tasks c)))) i.0
          (and_from (name_eq (parent c.name) t.name) (c.progress.ended && not (is_reaped (row_in T.tasks c))) i.1 (and_from c.progress.ended (not (is_reaped (row_in T.tasks c))) z w))

      before : (b : ℕ) (r : Row) → b < a → slice_get (rows_of T.tasks) b ≡ Some r → is_ended_child_of t.name r ≡ false
      before b r l g = false_from_ne_true (is_ended_child_of t.name r) (λ y.
          let z = ended-at b r g y in
          elim (cases_order z.0 k) [
            | inl h ↦ let f : Some b ≡ Some a = sym z.1 ∙ (ap (slice_get t.waiting) h ∙ q) in let v : b ≡ a = cc in omega (arith, l, v)
            | inr h ↦ elim h [
              | inl h ↦ sooner z.0 h z.2
              | inr h ↦ omega (arith, l, (H.waiting o t at).rising k z.0 a b h q z.1)
            ]
          ])

      found : find (is_ended_child_of t.name) (rows_of T.tasks) ≡ Some (row_in T.tasks c)
      found = find-first (is_ended_child_of t.name) (rows_of T.tasks) a (row_in T.tasks c) (row-there a c ct) passes before

      go : (x : Option Row) → find (is_child_of t.name) (rows_of T.tasks) ≡ x → wait_by (find (is_child_of t.name) (rows_of T.tasks)) (find (is_ended_child_of t.name) (rows_of T.tasks)) ≡ Reap (Ok c.name)
      go None z = absurd (some-child k a q z)
      go (Some r) z = rw (z, found) refl

-- ---- the step of a wait

module _ (S : Script) (K : List Event) (T : Table) (s : IsTableOf S K T) (o : ℕ) (t : Member) (at : task_at T o ≡ Some t) (lives-on : ended K (task_name_of K o) ≡ false) where
  abbrev st : State
  st = view T (groups_made K)

  goes-on : t.progress.ended ≡ false
  goes-on = (row-is S K T s o t at).ended_is ∙ lives-on

  abbrev waits : What
  waits = wait_step K (oldest (is_child K (task_name_of K o)) (length K)) (oldest (is_ended_child K (task_name_of K o)) (length K))

  answers : (w : What) → wait_in t.name st ≡ w → w ≡ waits
  answers w q = sym q ∙ (ap (λ n. wait_in n st) (name-is S K T s o t at) ∙ wait-is S K st s.looks s.sound (task_name_of K o))

  pub childless-wait : t.waiting ≡ [] → Reap (Err echild) ≡ waits
  childless-wait e = answers (Reap (Err echild)) (none-waiting T s.whole o t at goes-on e st refl)

  pub idle-wait : (k a : ℕ) → slice_get t.waiting k ≡ Some a → ((j : ℕ) → IsEndedAt T o j → ⊥) → Skip ≡ waits
  idle-wait k a q never = answers Skip (none-ended T s.whole o t at goes-on k a q never st refl)

  pub found-wait : (k a : ℕ) (c : Member) → slice_get t.waiting k ≡ Some a → task_at T a ≡ Some c → lives_at T.tasks (Some a) ≡ false → ((j : ℕ) → j < k → IsEndedAt T o j → ⊥) → Reap (Ok c.name) ≡ waits
  found-wait k a c q ct d sooner = answers (Reap (Ok c.name)) (first-found T s.whole o t at goes-on k a c q ct d sooner st refl)

  -- so a wait answers where a child for which the task may wait has ended, and doesn't where there are some and none has
  pub childless-answers : t.waiting ≡ [] → true ≡ not (skips waits)
  childless-answers e = ap (λ w. not (skips w)) (childless-wait e)

  ended-answers : (k : ℕ) → IsEndedAt T o k → ((j : ℕ) → j < k → IsEndedAt T o j → ⊥) → true ≡ not (skips waits)
  ended-answers k (u, here, a, q, d) sooner =
      let same : u ≡ t = let z : Some u ≡ Some t = sym here ∙ at in cc in
      let q' : slice_get t.waiting k ≡ Some a = ap (λ (x : Member). slice_get x.waiting k) (sym same) ∙ q in
      let own = (s.whole.waiting o t at).listed k a q' in
      let found = found-wait k a own.0 q' own.1 d sooner in
      ap (λ (w : What). not (skips w)) found

  pub found-answers : (found : Option ℕ) (k a : ℕ) → slice_get t.waiting k ≡ Some a → IfSome found (IsEndedAt T o) → IfSome found (λ p. (j : ℕ) → j < p → IsEndedAt T o j → ⊥)
      → IfNone found ((j : ℕ) → IsEndedAt T o j → ⊥) → is_some found ≡ not (skips waits)
  found-answers (Some p) k a q ended sooner never = ended-answers p ended sooner
  found-answers None k a q ended sooner never = ap (λ w. not (skips w)) (idle-wait k a q never)

-- the child that was found, and its name in a vector with room for it
pub found-child : (old took : Table) (H : IsWhole old) (o k a : ℕ) (t : Member) (name : Name) (room : ℕ) → task_at old o ≡ Some t → slice_get t.waiting k ≡ Some a → took ≡ with_task old o (without_waiting t k)
    → ((c : Member) → task_at took a ≡ Some c → length c.name ≤ room → name ≡ c.name) → length (name_in (task_at old o)) < room → (c : Member) × (task_at old a ≡ Some c) × (c.parent ≡ Some o) × (name ≡ c.name)
found-child old took H o k a t name room at here taken named l =
    let c = (H.waiting o t at).listed k a here in
    let n = child-name old H o a t c.0 at c.1 c.2 in
    let there : task_at took a ≡ Some c.0 = ap (λ (x : Table). slice_get x.tasks a) taken ∙ (get-other old.tasks o a (without_waiting t k) (child-apart old H o a t c.0 at c.1 c.2) ∙ c.1) in
    (c.0, c.1, c.2, named c.0 there (omega (arith, l, ap (λ (x : Option Member). length (name_in x)) at, ap length n.1, length-append t.name ((n.0 + 1) ∷ []))))

pub stands-reaped : (S : Script) (K : List Event) (e : Event) (o : ℕ) (old took kept new : Table) (k a room : ℕ) (name : Name) → IsTableOf S K old → IsStepOf S K e o
    → ((t : Member) → task_at old o ≡ Some t → (slice_get t.waiting k ≡ Some a) × (took ≡ with_task old o (without_waiting t k))) → IsWritten took a (λ x. with_progress x (waited_for x.progress)) kept
    → ((c : Member) → task_at took a ≡ Some c → length c.name ≤ room → name ≡ c.name) → length (name_in (task_at old o)) < room → e.what ≡ Reap (Ok name) → IsNoted kept o (Reap (Ok name)) new → IsTableOf S (e ∷ K) new
stands-reaped S K e o old took kept new k a room name s p taken waited named l is n =
    let t = task-there S K old s o p.there in
    let x = taken t.0 t.1 in
    let c = found-child old took s.whole o k a t.0 name room t.1 x.0 x.1 named l in
    let w : What = Reap (Ok c.0.name) in
    let same : Reap (Ok name) ≡ w = ap (λ m. Reap (Ok m)) c.3 in
    stands-step S K e o old new s p (ap makes is) (subst (λ v. IsStepped old o v new) (sym (is ∙ same))
    (reaped-stepped old took kept new s.whole o t.0 t.1 k a x.0 x.1 waited c.0 c.1 c.2 (subst (λ v. IsNoted kept o v new) same n) (next-fits S K old s o t.0 w t.1 p.few)))
