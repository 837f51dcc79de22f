-- The table after a task has sent a signal to the one that holds a PID.
-- By the row of each task: its own step, and the signal where the task holds the PID.
use Rattle.std.proofs.Common.{◌≡◌, inl, inr, ℕ, ◌+◌, ◌-◌, ◌<◌, ◌^◌, true, false, ◌&&◌, not, List, ◌∷◌, length, set, Some, refl, sym, ap, ◌∙◌, subst, arith}
use Rattle.std.specs.Prelude.{if◌then◌else◌, slice_get, count_by, Ok}
use Rattle.std.proofs.lemmas.Bool.{cases_eq, false_from_ne_true}
use Rattle.std.proofs.lemmas.List.{length-set}
use Rattle.hist_model.specs.Kinds.{makes}
use Rattle.hist_model.specs.Look.{is_task}
use Rattle.hist_model.specs.declared.event.Actor.TheVariants.{Task as TaskActor}
use Rattle.hist_model.specs.declared.event.Event.{Event}
use Rattle.hist_model.specs.declared.event.What.{What}
use Rattle.hist_model.specs.declared.event.What.TheVariants.{Signal}
use Rattle.hist_model.specs.declared.script.Script.{Script}
use Rattle.tasks.specs.Rows.{IsAfter}
use Rattle.tasks.specs.Sound.{IsStepOf}
use Rattle.tasks.specs.State.{holds, stepped}
use Rattle.tasks.specs.Table.{Member, Table, AreWaiting, IsNoted, IsStepped, IsTableOf, IsWhole, IsWritten, is_living, marked, row_in, task_at, with_one_less, with_progress, with_task}
use Rattle.tasks.specs.Stands.{IsHolder}
use Rattle.tasks.specs.declared.row.Progress.{Progress}
use Rattle.tasks.proofs.Asked.{holders}
use Rattle.tasks.proofs.Changed.{IsTouched, own-touched, other-touched, marked-progress, unmarked-progress}
use Rattle.tasks.proofs.Frames.{names-apart}
use Rattle.tasks.proofs.Listed.{get-set, get-put, get-other, count-put}
use Rattle.tasks.proofs.Stood.{is-stepped, living-put, next-fits, stands-step, task-there}
use Rattle.tasks.proofs.Whole.{IsSameTask, same-children, waiting-same}

module _ (old mid new : Table) (H : IsWhole old) (o : ℕ) (t : Member) (at : task_at old o ≡ Some t) (pid sig target : ℕ) (n : IsNoted old o (Signal pid sig (Ok tt)) mid) (m : IsWritten mid target (λ x. with_progress x (marked x.progress sig)) new)
    (fits : t.progress.next + 1 < 2 ^ 64) (u : Member) (there : task_at old target ≡ Some u) (holding : holds pid (row_in old.tasks u) ≡ true) (alone : (j : ℕ) (x : Member) → task_at old j ≡ Some x → holds pid (row_in old.tasks x) ≡ true → j ≡ target) where
  abbrev w : What
  w = Signal pid sig (Ok tt)

  abbrev p : Progress
  p = (n.task t at).0

  abbrev A : IsAfter t.progress w p
  A = (n.task t at).1

  abbrev noted : List Member
  noted = set old.tasks o (with_progress t p)

  mid-is : mid ≡ with_one_less (with_task old o (with_progress t p)) (p.ended && not t.progress.ended)
  mid-is = (n.task t at).2

  mid-tasks : mid.tasks ≡ noted
  mid-tasks = ap (λ (x : Table). x.tasks) mid-is

  -- the one that gets the signal, after the step was noted
  got : (v : Member) × (slice_get noted target ≡ Some v)
  got = elim (cases_eq target o) [
    | inl q ↦ (with_progress t p, ap (slice_get noted) q ∙ get-put old.tasks o (with_progress t p) t at)
    | inr q ↦ (u, get-other old.tasks o target (with_progress t p) q ∙ there)
  ]

  abbrev v : Member
  v = got.0

  abbrev now : List Member
  now = set noted target (with_progress v (marked v.progress sig))

  new-is : new ≡ with_task mid target (with_progress v (marked v.progress sig))
  new-is = m.some v (ap (λ (xs : List Member). slice_get xs target) mid-tasks ∙ got.1)

  new-tasks : new.tasks ≡ now
  new-tasks = ap (λ (x : Table). x.tasks) new-is ∙ ap (λ (xs : List Member). set xs target (with_progress v (marked v.progress sig))) mid-tasks

  -- each task, before and after
  abbrev IsSent : ℕ → Member → Member → Type 0
  IsSent j x y = IsTouched old.tasks (TaskActor t.name) w x y × IsSameTask x y × (y.waiting ≡ x.waiting) × (y.progress.waited ≡ x.progress.waited)

  own-holds : holds pid (stepped w (row_in old.tasks t)) ≡ holds pid (row_in old.tasks t)
  own-holds = refl

  own-marked : o ≡ target → IsSent o t (with_progress t (marked p sig))
  own-marked q =
      let s : Some t ≡ Some u = sym at ∙ (ap (task_at old) q ∙ there) in
      let e : t ≡ u = cc in
      let h : holds pid (row_in old.tasks t) ≡ true = ap (λ (x : Member). holds pid (row_in old.tasks x)) e ∙ holding in (
        own-touched old.tasks t p (marked p sig) w t.children t.waiting A fits (omega arith) (marked-progress pid sig t.name (stepped w (row_in old.tasks t)) p (own-holds ∙ h) (sym A.pending)),
        same-children t (with_progress t (marked p sig)) refl refl refl refl,
        refl,
        A.waited,
      )

  own-left : (o ≡ target → ⊥) → IsSent o t (with_progress t p)
  own-left q =
      let h : holds pid (row_in old.tasks t) ≡ false = false_from_ne_true (holds pid (row_in old.tasks t)) (λ z. q (alone o t at z)) in (
        own-touched old.tasks t p p w t.children t.waiting A fits (omega arith) (unmarked-progress pid sig t.name (stepped w (row_in old.tasks t)) p (own-holds ∙ h) (sym A.pending)),
        same-children t (with_progress t p) refl refl refl refl,
        refl,
        A.waited,
      )

  apart : (j : ℕ) (x : Member) → task_at old j ≡ Some x → (j ≡ o → ⊥) → is_task (TaskActor t.name) x.name ≡ false
  apart j x h q = names-apart t.name x.name (λ k. q (H.family.names j o x t h at (sym k)))

  other-marked : (j : ℕ) (x : Member) → task_at old j ≡ Some x → (j ≡ o → ⊥) → j ≡ target → IsSent j x (with_progress x (marked x.progress sig))
  other-marked j x h q z =
      let s : Some x ≡ Some u = sym h ∙ (ap (task_at old) z ∙ there) in
      let e : x ≡ u = cc in
      let k : holds pid (row_in old.tasks x) ≡ true = ap (λ (y : Member). holds pid (row_in old.tasks y)) e ∙ holding in (
        other-touched old.tasks (TaskActor t.name) x (marked x.progress sig) w x.waiting (apart j x h q) (marked-progress pid sig x.name (row_in old.tasks x) x.progress k refl),
        same-children x (with_progress x (marked x.progress sig)) refl refl refl refl,
        refl,
        refl,
      )

  other-left : (j : ℕ) (x : Member) → task_at old j ≡ Some x → (j ≡ o → ⊥) → (j ≡ target → ⊥) → IsSent j x x
  other-left j x h q z =
      let k : holds pid (row_in old.tasks x) ≡ false = false_from_ne_true (holds pid (row_in old.tasks x)) (λ y. z (alone j x h y)) in (
        other-touched old.tasks (TaskActor t.name) x x.progress w x.waiting (apart j x h q) (unmarked-progress pid sig x.name (row_in old.tasks x) x.progress k refl),
        same-children x x refl refl refl refl,
        refl,
        refl,
      )

  each : (j : ℕ) (x y : Member) → slice_get old.tasks j ≡ Some x → slice_get now j ≡ Some y → IsSent j x y
  each j x y h g = elim (get-set noted target j (with_progress v (marked v.progress sig)) y g) [
    | inl z ↦ elim (cases_eq j o) [
      | inl q ↦
          let a : Some v ≡ Some (with_progress t p) = sym got.1 ∙ (ap (slice_get noted) (sym z.0 ∙ q) ∙ get-put old.tasks o (with_progress t p) t at) in
          let b : v ≡ with_progress t p = cc in
          let s : Some t ≡ Some x = sym at ∙ (ap (slice_get old.tasks) (sym q) ∙ h) in
          let e : t ≡ x = cc in
          subst (λ k. IsSent j x k) z.1 (subst (λ k. IsSent j x (with_progress k (marked k.progress sig))) (sym b) (subst (λ k. IsSent j k (with_progress t (marked p sig))) e (own-marked (sym q ∙ z.0))))
      | inr q ↦
          let a : Some v ≡ Some x = sym got.1 ∙ (ap (slice_get noted) (sym z.0) ∙ (get-other old.tasks o j (with_progress t p) q ∙ h)) in
          let b : v ≡ x = cc in
          subst (λ k. IsSent j x k) z.1 (subst (λ k. IsSent j x (with_progress k (marked k.progress sig))) (sym b) (other-marked j x h q z.0))
    ]
    | inr z ↦ elim (get-set old.tasks o j (with_progress t p) y z.1) [
      | inl q ↦
          let s : Some t ≡ Some x = sym at ∙ (ap (slice_get old.tasks) (sym q.0) ∙ h) in
          let e : t ≡ x = cc in
          subst (λ k. IsSent j x k) q.1 (subst (λ k. IsSent j k (with_progress t p)) e (own-left (λ i. z.0 (q.0 ∙ i))))
      | inr q ↦
          let s : Some x ≡ Some y = sym h ∙ q.1 in
          let e : x ≡ y = cc in
          subst (λ k. IsSent j x k) e (other-left j x h q.0 z.0)
    ]
  ]

  long : length now ≡ length old.tasks
  long = length-set noted target (with_progress v (marked v.progress sig)) ∙ length-set old.tasks o (with_progress t p)

  living-is : new.living ≡ count_by is_living now
  living-is =
      let a = living-put old.tasks o t (with_progress t p) false at A.ended in
      let b = count-put is_living noted target v (with_progress v (marked v.progress sig)) got.1 in
      ap (λ (x : Table). x.living) new-is ∙ (ap (λ (x : Table). x.living) mid-is ∙ (ap (λ l. if p.ended && not t.progress.ended then l - 1 else l) H.living ∙ (a ∙ omega (arith, b))))

  pub sent-stepped : IsStepped old o w new
  sent-stepped = is-stepped old new o t w now H at long (λ j x y h g. (each j x y h g).0) (λ j x y h g. (each j x y h g).1)
      (λ j x y h g. let i = each j x y h g in subst (λ ws. AreWaiting now j ws) (sym i.2) (waiting-same old.tasks now long (λ k a b h g. (each k a b h g).1) j x.waiting (H.waiting j x h) (λ k a b h g q. (each k a b h g).3)))
      living-is new-tasks
      (ap (λ (x : Table). x.pids) new-is ∙ ap (λ (x : Table). x.pids) mid-is) (ap (λ (x : Table). x.last) new-is ∙ ap (λ (x : Table). x.last) mid-is)
      (ap (λ (x : Table). x.base) new-is ∙ ap (λ (x : Table). x.base) mid-is) (ap (λ (x : Table). x.top) new-is ∙ ap (λ (x : Table). x.top) mid-is)

pub stands-sent : (S : Script) (K : List Event) (e : Event) (o : ℕ) (old mid new : Table) (pid sig target : ℕ) → IsTableOf S K old → IsStepOf S K e o → e.what ≡ Signal pid sig (Ok tt) → IsHolder K pid target
    → IsNoted old o (Signal pid sig (Ok tt)) mid → IsWritten mid target (λ x. with_progress x (marked x.progress sig)) new → IsTableOf S (e ∷ K) new
stands-sent S K e o old mid new pid sig target s p is i n m =
    let t = task-there S K old s o p.there in
    let h = holders S K old s pid target i in
    stands-step S K e o old new s p (ap makes is) (subst (λ w. IsStepped old o w new) (sym is)
    (sent-stepped old mid new s.whole o t.0 t.1 pid sig target n m (next-fits S K old s o t.0 (Signal pid sig (Ok tt)) t.1 p.few) h.0 h.1 h.2 h.3))
