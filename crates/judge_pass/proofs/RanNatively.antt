-- The judge stands for a history in which one more native call has succeeded.
-- By the number of the call, which is kept of its task.
use Rattle.std.proofs.Common.{◌≡◌, ℕ, ◌<◌, ◌&&◌, List, ◌∷◌, length, refl, sym, ap, ◌∙◌, subst, arith, Option, Some, None}
use Rattle.std.specs.Prelude.{get_or, if◌then◌else◌, Ok, ◌==◌, Vec}
use Rattle.std.specs.declared.alloc.Global.{Global}
use Rattle.hist_model.specs.Files.{files}
use Rattle.hist_model.specs.Legal.{system_of}
use Rattle.hist_model.specs.Look.{ev, Name}
use Rattle.hist_model.specs.Memory.{group_named, last_call}
use Rattle.hist_model.specs.Natives.{Closes as Closed, native_answer, native_step}
use Rattle.hist_model.specs.Steps.{place_or}
use Rattle.hist_model.specs.Trees.{ordinal_of}
use Rattle.hist_model.specs.declared.event.Actor.TheVariants.{Task}
use Rattle.hist_model.specs.declared.event.Event.{Event}
use Rattle.hist_model.specs.declared.event.What.TheVariants.{Native}
use Rattle.hist_model.specs.declared.policy.Policy.{Policy}
use Rattle.hist_model.specs.declared.request.NodeRef.{NodeRef}
use Rattle.hist_model.specs.declared.script.Script.{Script}
use Rattle.history_frames.specs.Ordinals.{group_of, makes_group, task_name_of, tasks_made}
use Rattle.history_frames.proofs.Ordinals.{made-same}
use Rattle.mediation.proofs.KernelRows.{kernel-row-of, KernelRow}
use Rattle.judge_pass.specs.Opened.{HasOpened}
use Rattle.judge_pass.specs.Stands.{IsHistory, IsTask, Stands}
use Rattle.judge_pass.specs.Tables.{AreMade, row_named}
use Rattle.judge_pass.specs.Takes.{IsStepOf}
use Rattle.judge_pass.specs.declared.directories.OpenDirectory.{OpenDirectory}
use Rattle.judge_pass.specs.declared.judge.Judge.{Judge}
use Rattle.judge_pass.specs.Entries.{IsEntry}
use Rattle.judge_pass.specs.declared.task_table.Entry.TheVariants.{Closes, Opens, Other}
use Rattle.judge_pass.specs.declared.task_table.Task.{Task as TaskRow}
use Rattle.judge_pass.proofs.CallEvents.{calls-same}
use Rattle.judge_pass.proofs.CallRows.{quiet-call}
use Rattle.judge_pass.proofs.DoneRows.{done-same, quiet-done}
use Rattle.judge_pass.proofs.MadeTasks.{ev-is}
use Rattle.judge_pass.proofs.NativeFiles.{close-closes, openat-opens, other-still, slot-still}
use Rattle.judge_pass.proofs.OpenRows.{AreOpen, open-closed, open-opened, open-other}
use Rattle.judge_pass.proofs.Parts.{calls-of, counted-same, done-of, open-of, seats-of, seats-same, stands-of, tasks-of, tasks-same, times-same}
use Rattle.judge_pass.proofs.Rows.{place-there}
use Rattle.judge_pass.proofs.SeatRows.{other-seat}
use Rattle.judge_pass.proofs.Steady.{stays-natively}
use Rattle.judge_pass.proofs.TaskEvents.{call-quiet, last-same}
use Rattle.judge_pass.proofs.TaskRows.{effects-same}

-- what the kernel answers
native-row : (S : Script) (K : List Event) (n : Name) (m : ℕ) → KernelRow (system_of S) K (Task n) (Native (Ok m)) → native_answer (native_step S K (files S K) n) ≡ Ok m
native-row S K n m r = sym r.3

module _ (P : Policy) (S : Script) (K : List Event) (o m : ℕ) (j : Judge) (s : Stands P S K j) where
  abbrev n : Name
  n = task_name_of K o

  abbrev native : Event
  native = ev (Task n) (Native (Ok m))

  module _ (history : IsHistory S (native ∷ K)) (lo : o < length j.tasks.items) (t : TaskRow) (tq : t ≡ get_or j.tasks.items o t) where
    mine : IsTask K o t
    mine = let l : o < tasks_made K = omega (arith, lo, s.tasks_are) in subst (λ (x : TaskRow). IsTask K o x) (sym tq) (s.tasks o t l)

    group-at : (i : ℕ) × (group_of K t.group ≡ Some i) × (i < length K)
    group-at = place-there makes_group K t.group mine.group_made

    own : group_named K n ≡ Some group-at.0
    own = mine.group_is ∙ group-at.1

    answer : native_answer (native_step S K (files S K) n) ≡ Ok m
    answer = native-row S K n m (kernel-row-of (system_of S) K native history.of_kernel.0)

    pub ran : (D : Vec OpenDirectory Global) → AreOpen S (native ∷ K) D.items → Stands P S (native ∷ K) (record j { directories = record j.directories { rows = D } })
    ran D dirs = stands-of P S (native ∷ K) (record j { directories = record j.directories { rows = D } }) s.script history
        (tasks-same native K j.tasks.items (tasks-of P S K j s) refl (λ i li. record {
          call_same = call-quiet S native K (task_name_of K i) history.of_kernel refl refl refl;
          last_same = last-same native K (task_name_of K i) refl;
          effects_same = effects-same native K (task_name_of K i) refl;
        }))
        (s.groups_are ∙ sym (made-same makes_group native K refl))
        (calls-same S native K j.calls.rows.items (calls-of P S K j s) refl (λ c is l. quiet-call native K c l refl))
        (done-same native K j.done.items (done-of P S K j s) refl (λ p l. quiet-done native K p refl refl))
        (seats-same S native K j.seats.items (seats-of P S K j s) history.fits (λ w b. other-seat S native K w refl))
        s.first_is s.first_fits dirs s.times_are (times-same P native K j.times.items s.times refl) (counted-same native K j.counts s.counts refl refl refl)

    pub ran-openat : t.entered ≡ Opens → (opened : Option NodeRef) → HasOpened S K native opened → (D : Vec OpenDirectory Global)
        → ((g k : ℕ) → row_named D.items g k ≡ (if (g == t.group) && (k == m) then ordinal_of opened else row_named j.directories.rows.items g k))
        → ((groups : ℕ) → t.group < groups → AreMade groups j.directories.rows.items → AreMade groups D.items) → Stands P S (native ∷ K) (record j { directories = record j.directories { rows = D } })
    ran-openat nr opened has D set made =
        let step = openat-opens S K (files S K) n (place_or (group_named K n)) (last_call K n) m (subst (IsEntry (last_call K n)) nr mine.entered_is) answer in
        ran D (open-opened S K j.directories.rows.items n m t.group group-at.0 (open-of P S K j s) group-at.1 own step.0 step.1 opened (has m step.0 refl step.1) D.items set made)

    pub ran-close : (c : ℕ) → t.entered ≡ Closes c → (D : Vec OpenDirectory Global)
        → ((g k : ℕ) → row_named D.items g k ≡ (if (g == t.group) && (k == c) then None else row_named j.directories.rows.items g k))
        → ((groups : ℕ) → t.group < groups → AreMade groups j.directories.rows.items → AreMade groups D.items) → Stands P S (native ∷ K) (record j { directories = record j.directories { rows = D } })
    ran-close c nr D set made =
        let is : IsEntry (last_call K n) (Closes c) = subst (IsEntry (last_call K n)) nr mine.entered_is in
        let step = close-closes S K (files S K) n (place_or (group_named K n)) (last_call K n) m is.0 answer in
        ran D (open-closed S K j.directories.rows.items n m t.group group-at.0 (open-of P S K j s) group-at.1 own c (step ∙ ap Closed is.1) D.items set made)

    pub ran-other : t.entered ≡ Other → Stands P S (native ∷ K) j
    ran-other nr =
        let is : IsEntry (last_call K n) Other = subst (IsEntry (last_call K n)) nr mine.entered_is in
        let still = other-still S K (files S K) n (place_or (group_named K n)) (last_call K n) is.0 is.1 in
        ran j.directories.rows (open-other S K j.directories.rows.items n m t.group group-at.0 (open-of P S K j s) group-at.1 own (native_step S K (files S K) n) refl
        (slot-still (files S K) group-at.0 (native_step S K (files S K) n) still) (stays-natively S s.script K n group-at.0))

-- the same of an event that is this one
pub ran-so : (P : Policy) (S : Script) (K : List Event) (e : Event) (j x : Judge) (o m : ℕ) → IsStepOf o (Native (Ok m)) K e → IsHistory S (e ∷ K)
    → (IsHistory S (ev (Task (task_name_of K o)) (Native (Ok m)) ∷ K) → Stands P S (ev (Task (task_name_of K o)) (Native (Ok m)) ∷ K) x) → Stands P S (e ∷ K) x
ran-so P S K e j x o m step history f =
    let q = ev-is e (Task (task_name_of K o)) (Native (Ok m)) step.who step.what_is in
    subst (λ (y : Event). Stands P S (y ∷ K) x) q (f (subst (λ (y : Event). IsHistory S (y ∷ K)) (sym q) history))
