-- Who the newest event of a kernel is by, and what the kernel knows of it: tasks and PIDs are those from before the event.
-- By the kinds of steps that the kernel lets an actor take.
use Rattle.std.proofs.Common.{◌≡◌, ℕ, ◌+◌, ◌<◌, true, false, not, List, [], ◌∷◌, Option, Some, None, refl, sym, ap, ◌∙◌, subst, arith, inl, inr}
use Rattle.std.specs.Prelude.{IfNone, IfSome}
use Rattle.std.proofs.lemmas.Bool.{and_parts, cases_Bool}
use Rattle.hist_model.specs.Kinds.{closes, makes}
use Rattle.hist_model.specs.Legal.{system_of}
use Rattle.hist_model.specs.Look.{ev, Name}
use Rattle.hist_model.specs.Systems.{System}
use Rattle.hist_model.specs.Tasks.{alive, ended, is_made}
use Rattle.hist_model.specs.declared.event.Actor.{Actor}
use Rattle.hist_model.specs.declared.event.Actor.TheVariants.{Listener, Start, Task, Worker}
use Rattle.hist_model.specs.declared.event.Event.{Event}
use Rattle.hist_model.specs.declared.event.SpawnKind.TheVariants.{New}
use Rattle.hist_model.specs.declared.event.What.{What}
use Rattle.hist_model.specs.declared.event.What.TheVariants.{OpenBase, OpenMem, Skip, Spawn}
use Rattle.hist_model.specs.declared.policy.Policy.{Policy}
use Rattle.hist_model.specs.declared.script.Script.{Script}
use Rattle.broker_verdict.specs.Trusted.{leaves_unanswered}
use Rattle.broker_verdict.specs.declared.clause.Clause.TheVariants.{Unanswered}
use Rattle.history_frames.specs.Ordinals.{task_name_of, tasks_made}
use Rattle.history_frames.proofs.Held.{older-made}
use Rattle.history_frames.proofs.Ordinals.{made-same, place-same}
use Rattle.mediation.specs.Facts.{changes_tasks}
use Rattle.mediation.proofs.Framed.{frame}
use Rattle.mediation.proofs.KernelRows.{kernel-row-of, KernelRow, KernelWorkerRow, TaskRow}
use Rattle.tasks.proofs.Named.{made-least, made-ordinal, name-kept}
use Rattle.judge_pass.specs.Stands.{IsHistory, Judges, Stands}
use Rattle.judge_pass.specs.Takes.{HasHolder, HolderIs, IsStepBy, IsStepOf, Spawns}
use Rattle.judge_pass.specs.declared.judge.Judge.{Judge}
use Rattle.judge_pass.proofs.Judging.{first_done, judges-none}
use Rattle.judge_pass.proofs.TaskEvents.{idle-named, idles, same-ordinal}

-- the newest event, as one of its actor
pub newest-is : (H K : List Event) (e : Event) (who : Actor) → H ≡ e ∷ K → e.who ≡ who → H ≡ ev who e.what ∷ K
newest-is H K e who at by = at ∙ ap (λ (a : Actor). ev a e.what ∷ K) by

-- ---- workers

-- a worker's step changes no tasks
worker-keeps : (S : System) (K : List Event) (w : ℕ) (what : What) → KernelWorkerRow S K w what → (changes_tasks what ≡ false) × (makes what ≡ false)
worker-keeps S K w what row = (grind arith, grind arith)

module _ (S : Script) (K : List Event) (w : ℕ) (what : What) (history : IsHistory S (ev (Worker w) what ∷ K)) where
  keeps : (changes_tasks what ≡ false) × (makes what ≡ false)
  keeps = worker-keeps (system_of S) K w what (kernel-row-of (system_of S) K (ev (Worker w) what) history.of_kernel.0)

  pub tasks-before : tasks_made (ev (Worker w) what ∷ K) ≡ tasks_made K
  tasks-before = made-same makes (ev (Worker w) what) K keeps.1

  -- who holds a PID held it before
  holder-before : (pid : ℕ) (task : Option ℕ) → HasHolder (ev (Worker w) what ∷ K) pid task → HasHolder K pid task
  holder-before pid None h = sym ((frame K (ev (Worker w) what)).holder_same pid keeps.0) ∙ h
  holder-before pid (Some o) h = (
    rw tasks-before at h.0,
    h.1,
    sym ((frame K (ev (Worker w) what)).holder_same pid keeps.0) ∙ h.2,
    sym (place-same makes (ev (Worker w) what) K o keeps.1) ∙ h.3,
  )

-- so it is of the one that a step names
pub holder-named-before : (S : Script) (K : List Event) (w : ℕ) (what : What) (task : Option ℕ) → IsHistory S (ev (Worker w) what ∷ K) → HolderIs what (ev (Worker w) what ∷ K) task → HolderIs what K task
holder-named-before S K w (OpenMem pid a) task history h = holder-before S K w (OpenMem pid a) history pid task h
holder-named-before S K w (OpenBase pid d a) task history h = holder-before S K w (OpenBase pid d a) history pid task h
holder-named-before S K w what task history h = tt

pub kept-before : (S : Script) (K : List Event) (w : ℕ) (what : What) (task : Option ℕ) (many : ℕ) → IsHistory S (ev (Worker w) what ∷ K) → many ≡ tasks_made K
    → IfSome task (λ o. o < tasks_made (ev (Worker w) what ∷ K)) → IfSome task (λ o. o < many)
kept-before S K w what None many history q h = tt
kept-before S K w what (Some o) many history q h = omega (arith, q, h, tasks-before S K w what history)

no-start : (w : ℕ) → Worker w ≡ Start → ⊥
no-start w q = cc

-- workers have the numbers from 0 to 16
pub worker-low : (S : Script) (K : List Event) (w : ℕ) (what : What) → IsHistory S (ev (Worker w) what ∷ K) → w < 17
worker-low S [] w what history = absurd (no-start w (ap (λ (e : Event). e.who) history.of_kernel.0))
worker-low S (f ∷ K) w what history = let h = history.of_kernel.0.2 in grind arith

-- ---- tasks

-- a task that lives was made
living-made : (K : List Event) (n : Name) → alive K n ≡ true → is_made K n ≡ true
living-made K n h = (and_parts (is_made K n) (not (ended K n)) h).0

-- a task that makes one was made
maker-made : (S : System) (K : List Event) (n : Name) (what : What) → TaskRow S K n what → makes what ≡ true → is_made K n ≡ true
maker-made S K n (Spawn m a) row h = living-made K n row.0
maker-made S K n _ row h = cc

-- a name of which no task was made takes no step
unmade-skips : (S : System) (K : List Event) (n : Name) (what : What) → TaskRow S K n what → alive K n ≡ false → what ≡ Skip
unmade-skips S K n what row f = grind arith

module _ (S : Script) (K : List Event) (e : Event) (n : Name) (history : IsHistory S (e ∷ K)) (who : e.who ≡ Task n) where
  row : TaskRow (system_of S) K n e.what
  row = subst (λ (a : Actor). KernelRow (system_of S) K a e.what) who (kernel-row-of (system_of S) K e history.of_kernel.0)

  -- the task that has the name had it before
  pub task-before : (o : ℕ) → o < tasks_made (e ∷ K) → task_name_of (e ∷ K) o ≡ n → o < tasks_made K
  task-before o l q = elim (cases_Bool (makes e.what)) [
    | inr f ↦ rw (made-same makes e K f) at l
    | inl h ↦
        let m = made-ordinal K n (maker-made (system_of S) K n e.what row h) in
        let b = made-least e K in
        let same = same-ordinal S (e ∷ K) m.0 o history.of_kernel (omega (arith, m.1, b)) l (name-kept e K m.0 m.1 ∙ (m.2 ∙ sym q)) in
        omega (arith, m.1, same)
  ]

  pub step-before : (o : ℕ) → o < tasks_made (e ∷ K) → task_name_of (e ∷ K) o ≡ n → IsStepOf o e.what K e
  step-before o l q = record { who = who ∙ ap (λ (m : Name). Task m) (sym q ∙ name-kept e K o (task-before o l q)); what_is = refl }

  -- without a task there is no step
  pub no-task : is_made (e ∷ K) n ≡ false → e.what ≡ Skip
  no-task f = unmade-skips (system_of S) K n e.what row dead
    where
      dead : alive K n ≡ false
      dead = elim (cases_Bool (is_made K n)) [
        | inr g ↦ rw g refl
        | inl h ↦ let k = older-made e K n h in absurd (cc (k, f))
      ]

  -- so it is of the task that is found
  pub found-before : (task : Option ℕ) (many : ℕ) → many ≡ tasks_made K → IfSome task (λ o. (o < tasks_made (e ∷ K)) × (task_name_of (e ∷ K) o ≡ n)) → IfSome task (λ o. o < many)
  found-before None many q h = tt
  found-before (Some o) many q h = rw q (task-before o h.0 h.1)

  pub step-found : (task : Option ℕ) → IfSome task (λ o. (o < tasks_made (e ∷ K)) × (task_name_of (e ∷ K) o ≡ n)) → IfNone task (is_made (e ∷ K) n ≡ false) → IsStepBy task e.what K e
  step-found None some none = ((n, who), no-task none)
  step-found (Some o) some none = step-before o some.0 some.1

skip-leaves : (K : List Event) (a : Actor) (n : Name) (w : What) → a ≡ Task n → w ≡ Skip → leaves_unanswered Unanswered K (ev a w) ≡ false
skip-leaves K a n w who skip = rw (who, skip) refl

task-does-none : (P : Policy) (S : Script) (K : List Event) (a : Actor) (n : Name) (w : What) → a ≡ Task n → first_done P S K a w ≡ None
task-does-none P S K a n w who = rw who refl

-- which breaks nothing
pub judges-skip : (P : Policy) (S : Script) (K : List Event) (e : Event) (j : Judge) → Stands P S K j → IsHistory S (e ∷ K) → ((n : Name) × (e.who ≡ Task n)) × (e.what ≡ Skip) → Judges P S K e None j
judges-skip P S K e j s history step =
    judges-none P S K j e (task-does-none P S K e.who step.0.0 e.what step.0.1) (skip-leaves K e.who step.0.0 e.what step.0.1 step.1)
    (idle-named P S K e j s history step.0.0 step.0.1 (ap idles step.1))

-- what is found where a kernel is one
pub known-some : (A : Type 0) (Q : ℕ → Type 0) (task : Option ℕ) → A → IfSome task (λ o. A → Q o) → IfSome task Q
known-some A Q None a h = tt
known-some A Q (Some o) a h = h a

pub known-none : (A Q : Type 0) (task : Option ℕ) → A → IfNone task (A → Q) → IfNone task Q
known-none A Q None a h = h a
known-none A Q (Some o) a h = tt

-- ---- the start, and the end

pub start-new : (S : Script) (K : List Event) (e : Event) → IsHistory S (e ∷ K) → e.who ≡ Start → Spawns New e
start-new S [] e history who = rw history.of_kernel.0 (record { child = 0 ∷ []; pid = S.pidbase + 1; what_is = refl })
start-new S (f ∷ K) e history who = absurd (rw who at history.of_kernel.0.1)

pub listener-closes : (S : Script) (K : List Event) (e : Event) → IsHistory S (e ∷ K) → e.who ≡ Listener → closes e.what ≡ true
listener-closes S [] e history who = let h = history.of_kernel.0 in absurd (cc (h, who))
listener-closes S (f ∷ K) e history who = let h = rw who at history.of_kernel.0.1 in rw h refl
