-- The judge stands for a history in which one more task is made, or one enters a call.
-- Table by table: the new task's row, or the task's own, and a new group's directories.
use Rattle.std.proofs.Common.{◌≡◌, ℕ, ◌+◌, ◌<◌, true, false, List, [], ◌∷◌, ◌++◌, length, refl, sym, ap, ◌∙◌, subst, arith, Option, Some, None}
use Rattle.std.specs.Prelude.{get_or, if◌then◌else◌, Ok, Err, OnOk, Result, Vec, ◌==◌, ℤ}
use Rattle.std.specs.Vec.{with_item}
use Rattle.std.specs.declared.alloc.Global.{Global}
use Rattle.std.proofs.lemmas.Option.{slice_get-get_or}
use Rattle.broker_verdict.specs.Answers.{is_accepted_value}
use Rattle.broker_verdict.specs.Effects.{is_done}
use Rattle.broker_verdict.specs.Seats.{is_effect}
use Rattle.hist_model.specs.Calls.{caller}
use Rattle.hist_model.specs.Kinds.{closes, enters, is_install, leaves, makes, notifies, shares_now, starts}
use Rattle.hist_model.specs.Legal.{system_of}
use Rattle.hist_model.specs.Look.{ev, is_worker, Name, task_name}
use Rattle.hist_model.specs.Memory.{argument, last_call}
use Rattle.hist_model.specs.Signals.{call_of}
use Rattle.hist_model.specs.Steps.{IsOfKernel, number_entered}
use Rattle.hist_model.specs.Systems.{System}
use Rattle.hist_model.specs.Tasks.{child_of}
use Rattle.hist_model.specs.declared.event.Actor.{Actor}
use Rattle.hist_model.specs.declared.event.Actor.TheVariants.{Task}
use Rattle.hist_model.specs.declared.event.Entered.{Entered}
use Rattle.hist_model.specs.declared.event.Entered.TheVariants.{Notify}
use Rattle.hist_model.specs.declared.event.Event.{Event}
use Rattle.hist_model.specs.declared.event.SpawnKind.TheVariants.{Copied, New, Shared}
use Rattle.hist_model.specs.declared.event.What.{What}
use Rattle.hist_model.specs.declared.event.What.TheVariants.{Enter, Spawn}
use Rattle.hist_model.specs.declared.policy.Policy.{Policy}
use Rattle.hist_model.specs.declared.script.Script.{Script}
use Rattle.hist_model.proofs.Look.{name_eq-refl}
use Rattle.history_frames.specs.Ordinals.{count_of, groups_made, makes_group, task_name_of, tasks_made}
use Rattle.history_frames.proofs.Ordinals.{made-more, made-same, place-new}
use Rattle.mediation.proofs.KernelRows.{kernel-row-of, KernelRow}
use Rattle.tasks.proofs.Born.{group-fresh, group-parent}
use Rattle.tasks.proofs.Named.{name-kept}
use Rattle.tasks.specs.Fold.{IsGroupOf}
use Rattle.judge_pass.specs.Counted.{is_answering}
use Rattle.judge_pass.specs.Stands.{IsBelow, IsHistory, IsTask, IsTaskOf, may_give, place_of_call, Stands}
use Rattle.judge_pass.specs.Takes.{IsOf, IsStepOf, Spawns, Takes}
use Rattle.judge_pass.specs.Opened.{HasOpened}
use Rattle.hist_model.specs.declared.request.NodeRef.{NodeRef}
use Rattle.judge_pass.specs.Tables.{AreMade, row_named}
use Rattle.judge_pass.specs.declared.calls.Call.{Call}
use Rattle.judge_pass.specs.declared.calls.Calls.{Calls}
use Rattle.judge_pass.specs.declared.directories.OpenDirectory.{OpenDirectory}
use Rattle.judge_pass.specs.declared.judge.Judge.{Judge}
use Rattle.judge_pass.specs.Entries.{IsEntry}
use Rattle.judge_pass.specs.declared.task_table.Entry.{Entry}
use Rattle.judge_pass.specs.declared.task_table.Entry.TheVariants.{Other}
use Rattle.judge_pass.specs.declared.task_table.Task.{Task as TaskRow}
use Rattle.judge_pass.proofs.CallEvents.{calls-entered, calls-same}
use Rattle.judge_pass.proofs.CallRows.{moves_calls, quiet-call}
use Rattle.judge_pass.proofs.DoneRows.{done-same, quiet-done}
use Rattle.judge_pass.proofs.NewTasks.{child-new, new-task}
use Rattle.judge_pass.proofs.OpenRows.{AreOpen, open-copied, open-fresh, open-shared}
use Rattle.judge_pass.proofs.Parts.{calls-of, counted-same, done-of, open-of, seats-of, seats-same, stands-of, tasks-moved, tasks-of, tasks-pushed, times-same}
use Rattle.judge_pass.proofs.Rows.{below-more, count-least, place-there}
use Rattle.judge_pass.proofs.SeatRows.{other-seat}
use Rattle.judge_pass.proofs.TaskEvents.{call-quiet, IsQuiet, last-same, other-tasks, stands-tasks}
use Rattle.judge_pass.proofs.TaskRows.{call-entered, call-kept, effects-same, group-same}

-- the event is its two parts
pub ev-is : (e : Event) (a : Actor) (w : What) → e.who ≡ a → e.what ≡ w → ev a w ≡ e
ev-is e a w p q = rw (← p, ← q) refl

-- ---- a task is made

spawning : (w : What) → makes w ≡ true
    → (closes w ≡ false) × (leaves w ≡ false) × (notifies w ≡ false) × (enters w ≡ false) × (may_give w ≡ false) × (moves_calls w ≡ false) × (is_effect w ≡ false) × (is_install w ≡ false) × (is_accepted_value w ≡ false)
    × (is_done w ≡ false) × (starts w ≡ false) × (is_answering w ≡ false)
spawning w h = (grind arith, grind arith, grind arith, grind arith, grind arith, grind arith, grind arith, grind arith, grind arith, grind arith, grind arith, grind arith)

row-worker : (S : System) (K : List Event) (a : Actor) (v : What) (w : ℕ) → KernelRow S K a v → makes v ≡ true → is_worker a w ≡ false
row-worker S K a v w r h = grind arith

never-worker : (S : Script) (e : Event) (K : List Event) → IsOfKernel (system_of S) (e ∷ K) → makes e.what ≡ true → (w : ℕ) → is_worker e.who w ≡ false
never-worker S e K history h w = row-worker (system_of S) K e.who e.what w (kernel-row-of (system_of S) K e history.0) h

module _ (P : Policy) (S : Script) (K : List Event) (e : Event) (j : Judge) (s : Stands P S K j) (history : IsHistory S (e ∷ K)) (m : makes e.what ≡ true) where
  pub stands-made : (T : Vec TaskRow Global) (groups : ℕ) (D : Vec OpenDirectory Global) (t : TaskRow) (g : ℕ) → IsGroupOf (e ∷ K) (child_of e.what) g → t.group ≡ g → t.call ≡ None → t.entered ≡ Other → t.untold.items ≡ []
      → T.items ≡ j.tasks.items ++ t ∷ [] → groups ≡ groups_made (e ∷ K) → AreOpen S (e ∷ K) D.items → Stands P S (e ∷ K) (record j { tasks = T; groups = groups; directories = record j.directories { rows = D } })
  stands-made T groups D t g in_group p1 p2 p3 p4 tasks count dirs =
      let q = spawning e.what m in
      stands-of P S (e ∷ K) (record j { tasks = T; groups = groups; directories = record j.directories { rows = D } }) s.script history
      (tasks-pushed e K j.tasks.items (tasks-of P S K j s) m t (new-task S e K history.of_kernel m t g in_group p1 p2 p3 p4)
      (λ o l. record { call_same = call-quiet S e K (task_name_of K o) history.of_kernel q.0 q.1 q.2; last_same = last-same e K (task_name_of K o) q.3; effects_same = effects-same e K (task_name_of K o) q.4 }) T.items tasks)
      count
      (calls-same S e K j.calls.rows.items (calls-of P S K j s) q.2 (λ c is l. quiet-call e K c l q.5))
      (done-same e K j.done.items (done-of P S K j s) q.6 (λ p l. quiet-done e K p q.7 q.8))
      (seats-same S e K j.seats.items (seats-of P S K j s) history.fits (λ w l. other-seat S e K w (never-worker S e K history.of_kernel m w)))
      s.first_is s.first_fits dirs s.times_are (times-same P e K j.times.items s.times q.9) (counted-same e K j.counts s.counts q.10 q.6 q.11)

-- with a group of its own
pub made-new : (P : Policy) (S : Script) (K : List Event) (e : Event) (j : Judge) → Stands P S K j → IsHistory S (e ∷ K) → Spawns New e → (T : Vec TaskRow Global) (t : TaskRow) → t.group ≡ j.groups → t.call ≡ None → t.entered ≡ Other → t.untold.items ≡ []
    → T.items ≡ j.tasks.items ++ t ∷ [] → Stands P S (e ∷ K) (record j { tasks = T; groups = j.groups + 1 })
made-new P S K e j s history spawns T t p1 p2 p3 p4 tasks =
    let m : makes e.what ≡ true = rw spawns.what_is refl in
    let mg : makes_group e.what ≡ true = rw spawns.what_is refl in
    let fresh = child-new S e K history.of_kernel m in
    stands-made P S K e j s history m T (j.groups + 1) j.directories.rows t (groups_made K) (group-fresh e K mg fresh) (p1 ∙ s.groups_are) p2 p3 p4 tasks
    (ap (λ (n : ℕ). n + 1) s.groups_are ∙ sym (made-more makes_group e K mg))
    (subst (λ (f : Event). AreOpen S (f ∷ K) j.directories.rows.items) (ev-is e e.who (Spawn spawns.child (Ok (spawns.pid, New))) refl spawns.what_is)
    (open-fresh S K j.directories.rows.items e.who spawns.child spawns.pid (open-of P S K j s)))

-- with its parent's
pub made-shared : (P : Policy) (S : Script) (K : List Event) (e : Event) (j : Judge) → Stands P S K j → IsHistory S (e ∷ K) → (o : ℕ) → o < length j.tasks.items → IsOf o K e → Spawns Shared e → (parent : TaskRow) → parent ≡ get_or j.tasks.items o parent
    → (T : Vec TaskRow Global) (t : TaskRow) → t.group ≡ parent.group → t.call ≡ None → t.entered ≡ Other → t.untold.items ≡ [] → T.items ≡ j.tasks.items ++ t ∷ [] → Stands P S (e ∷ K) (record j { tasks = T })
made-shared P S K e j s history o lo who spawns parent pq T t p1 p2 p3 p4 tasks =
    let l : o < tasks_made K = omega (arith, lo, s.tasks_are) in
    let m : makes e.what ≡ true = rw spawns.what_is refl in
    let ms : shares_now e.what ≡ true = rw spawns.what_is refl in
    let mg : makes_group e.what ≡ false = rw spawns.what_is refl in
    let fresh = child-new S e K history.of_kernel m in
    let mine : IsTask K o parent = subst (λ (x : TaskRow). IsTask K o x) (sym pq) (s.tasks o parent l) in
    let p = place-there makes_group K parent.group mine.group_made in
    stands-made P S K e j s history m T j.groups j.directories.rows t parent.group
    (group-parent e K (task_name_of K o) parent.group m ms who fresh (p.0, p.1, mine.group_is ∙ p.1)) p1 p2 p3 p4 tasks
    (s.groups_are ∙ sym (made-same makes_group e K mg))
    (subst (λ (f : Event). AreOpen S (f ∷ K) j.directories.rows.items) (ev-is e e.who (Spawn spawns.child (Ok (spawns.pid, Shared))) refl spawns.what_is)
    (open-shared S K j.directories.rows.items e.who spawns.child spawns.pid (open-of P S K j s)))

-- with a copy of its parent's
pub made-copied : (P : Policy) (S : Script) (K : List Event) (e : Event) (j : Judge) → Stands P S K j → IsHistory S (e ∷ K) → (o : ℕ) → o < length j.tasks.items → IsOf o K e → Spawns Copied e → (parent : TaskRow) → parent ≡ get_or j.tasks.items o parent
    → (T : Vec TaskRow Global) (t : TaskRow) → t.group ≡ j.groups → t.call ≡ None → t.entered ≡ Other → t.untold.items ≡ [] → T.items ≡ j.tasks.items ++ t ∷ []
    → (D : Vec OpenDirectory Global) → ((g k : ℕ) → row_named D.items g k ≡ row_named j.directories.rows.items (if g == j.groups then parent.group else g) k) → AreMade (j.groups + 1) D.items
    → Stands P S (e ∷ K) (record j { tasks = T; groups = j.groups + 1; directories = record j.directories { rows = D } })
made-copied P S K e j s history o lo who spawns parent pq T t p1 p2 p3 p4 tasks D named made =
    let l : o < tasks_made K = omega (arith, lo, s.tasks_are) in
    let m : makes e.what ≡ true = rw spawns.what_is refl in
    let mg : makes_group e.what ≡ true = rw spawns.what_is refl in
    let fresh = child-new S e K history.of_kernel m in
    let mine : IsTask K o parent = subst (λ (x : TaskRow). IsTask K o x) (sym pq) (s.tasks o parent l) in
    let p = place-there makes_group K parent.group mine.group_made in
    let gq = s.groups_are in
    stands-made P S K e j s history m T (j.groups + 1) D t (groups_made K) (group-fresh e K mg fresh) (p1 ∙ gq) p2 p3 p4 tasks
    (ap (λ (n : ℕ). n + 1) gq ∙ sym (made-more makes_group e K mg))
    (subst (λ (f : Event). AreOpen S (f ∷ K) D.items) (ev-is e (Task (task_name_of K o)) (Spawn spawns.child (Ok (spawns.pid, Copied))) who spawns.what_is)
    (open-copied S K j.directories.rows.items D.items (task_name_of K o) spawns.child spawns.pid parent.group p.0 (open-of P S K j s) p.1 (mine.group_is ∙ p.1)
    (rw gq at named) (rw gq at made)))

-- ---- a task enters a call

entering : (w : What) → enters w ≡ true
    → IsQuiet w × (leaves w ≡ false) × (moves_calls w ≡ false)
entering w h = (
  record {
    no_make = grind arith;
    no_group = grind arith;
    no_gift = grind arith;
    no_effect = grind arith;
    no_install = grind arith;
    no_value = grind arith;
    no_file = grind arith;
    undone = grind arith;
    no_start = grind arith;
    no_answer = grind arith;
    no_close = grind arith;
  },
  grind arith,
  grind arith,
)

last-own : (e : Event) (K : List Event) (n : Name) → e.who ≡ Task n → enters e.what ≡ true → last_call (e ∷ K) n ≡ e.what
unfolding last_call
last-own e K n who h = rw (who, h, name_eq-refl n) refl

first-argument : (nr : ℤ) (args : List ℕ) (v : Entered) → 0 < length args → argument (Enter nr args v) 0 ≡ get_or args 0 0
first-argument nr args v l = rw (slice_get-get_or args 0 0 l) refl

-- the row of a task that enters
entered-row : (e : Event) (K : List Event) (o : ℕ) (t : TaskRow) (new : TaskRow) (nr : ℤ) (args : List ℕ) (v : Entered) → o < tasks_made K → IsTask K o t → IsOf o K e → e.what ≡ Enter nr args v → 0 < length args
    → call_of (e ∷ K) (task_name_of K o) ≡ place_of_call (e ∷ K) new.call → IsBelow (count_of notifies (e ∷ K)) new.call → new.group ≡ t.group → new.untold ≡ t.untold → IsEntry (Enter nr args v) new.entered → IsTask (e ∷ K) o new
entered-row e K o t new nr args v l h who is some call made p1 p2 p3 =
    let n = task_name_of K o in
    let own : last_call (e ∷ K) n ≡ Enter nr args v = last-own e K n who (rw is refl) ∙ is in
    let b = count-least makes_group e K in
    subst (λ (m : Name). IsTaskOf (e ∷ K) m new) (sym (name-kept e K o l)) (record {
      group_is = rw p1 (group-same e K n t.group h.group_is h.group_made);
      group_made = rw p1 (omega (arith, h.group_made, b));
      call_is = call;
      call_made = made;
      entered_is = rw own p3;
      untold_are = rw p2 (h.untold_are ∙ sym (effects-same e K n (rw is refl)));
    })

-- a call that isn't listed
pub entered-other : (P : Policy) (S : Script) (K : List Event) (e : Event) (j : Judge) → Stands P S K j → IsHistory S (e ∷ K) → (o : ℕ) → o < length j.tasks.items → (nr : ℤ) (args : List ℕ) (v : Entered) → IsStepOf o (Enter nr args v) K e
    → notifies (Enter nr args v) ≡ false → 0 < length args → (t : TaskRow) → t ≡ get_or j.tasks.items o t → (entry : Entry) → IsEntry (Enter nr args v) entry → Stands P S (e ∷ K) (record j { tasks = with_item j.tasks o (record t { entered = entry }) })
entered-other P S K e j s history o lo nr args v step f some t tq entry is =
    let l : o < tasks_made K = omega (arith, lo, s.tasks_are) in
    let q = entering e.what (rw step.what_is refl) in
    let n = task_name_of K o in
    let no : notifies e.what ≡ false = rw step.what_is f in
    let mine : IsTask K o t = subst (λ (x : TaskRow). IsTask K o x) (sym tq) (s.tasks o t l) in
    let same : call_of (e ∷ K) n ≡ place_of_call (e ∷ K) t.call = call-quiet S e K n history.of_kernel q.0.no_close q.1 no ∙ (mine.call_is ∙ sym (call-kept e K t.call mine.call_made)) in
    let new : TaskRow = record t { entered = entry } in
    stands-tasks P S K e j s history n step.who q.0 (with_item j.tasks o new) j.calls.rows
    (tasks-moved e K j.tasks.items (tasks-of P S K j s) q.0.no_make o new
    (entered-row e K o t new nr args v l mine step.who step.what_is some same (below-more _ _ t.call (count-least notifies e K) mine.call_made) refl refl is)
    (other-tasks S e K o history.of_kernel.1 l step.who q.0.no_close q.0.no_gift) _ refl)
    (calls-same S e K j.calls.rows.items (calls-of P S K j s) no (λ c is b. quiet-call e K c b q.2))

-- a listed one, with this id
pub entered-listed : (P : Policy) (S : Script) (K : List Event) (e : Event) (j : Judge) → Stands P S K j → IsHistory S (e ∷ K) → (o : ℕ) → o < length j.tasks.items → (nr : ℤ) (args : List ℕ) (x : ℕ) → IsStepOf o (Enter nr args (Notify x)) K e
    → 0 < length args → (t : TaskRow) → t ≡ get_or j.tasks.items o t → (entry : Entry) → IsEntry (Enter nr args (Notify x)) entry → (R : Vec Call Global) (row : Call) → row.place ≡ length K → row.caller ≡ o → row.called.id ≡ x → row.called.nr ≡ nr → row.called.args ≡ args
    → row.is_listed ≡ true → row.is_settled ≡ false → row.fetcher ≡ None → row.queue.items ≡ [] → R.items ≡ j.calls.rows.items ++ row ∷ [] → (k : ℕ) → k ≡ length j.calls.rows.items
    → Stands P S (e ∷ K) (record j { tasks = with_item j.tasks o (record t { entered = entry; call = Some k }); calls = record j.calls { rows = R } })
entered-listed P S K e j s history o lo nr args x step some t tq entry is R row place caller number nr_is args_are on unsettled unfetched none rows k kq =
    let l : o < tasks_made K = omega (arith, lo, s.tasks_are) in
    let q = entering e.what (rw step.what_is refl) in
    let n = task_name_of K o in
    let yes : notifies e.what ≡ true = rw step.what_is refl in
    let mine : IsTask K o t = subst (λ (x : TaskRow). IsTask K o x) (sym tq) (s.tasks o t l) in
    let new : TaskRow = record t { entered = entry; call = Some k } in
    let kc : k ≡ count_of notifies K = kq ∙ s.calls_are in
    let here = place-new notifies e K yes in
    let named : task_name e.who ≡ n = rw step.who refl in
    let called : call_of (e ∷ K) n ≡ place_of_call (e ∷ K) (Some k) = rw kc (ap (call_of (e ∷ K)) (sym named) ∙ (call-entered S e K history.of_kernel yes ∙ sym here)) in
    let m = made-more notifies e K yes in
    stands-tasks P S K e j s history n step.who q.0 (with_item j.tasks o new) R
    (tasks-moved e K j.tasks.items (tasks-of P S K j s) q.0.no_make o new
    (entered-row e K o t new nr args (Notify x) l mine step.who step.what_is some called (omega (arith, kc, m)) refl refl is)
    (other-tasks S e K o history.of_kernel.1 l step.who q.0.no_close q.0.no_gift) _ refl)
    (calls-entered S e K j.calls.rows.items (calls-of P S K j s) history yes row o l (sym named) place caller (rw step.what_is number) (rw step.what_is nr_is) (rw step.what_is args_are) on unsettled unfetched none R.items rows)

pub calls-are : (C : Calls) (f : ℕ) → C.first ≡ f → record { first = f; rows = C.rows } ≡ C
calls-are C f q = rw (← q) refl

pub entered-listed-so : (P : Policy) (S : Script) (K : List Event) (e : Event) (j : Judge) → Stands P S K j → IsHistory S (e ∷ K) → (o : ℕ) → o < length j.tasks.items → (nr : ℤ) (args : List ℕ) (x : ℕ) → IsStepOf o (Enter nr args (Notify x)) K e
    → 0 < length args → (t : TaskRow) → t ≡ get_or j.tasks.items o t → (entry : Entry) → IsEntry (Enter nr args (Notify x)) entry → (C : Calls) (row : Call) → row.place ≡ length K → row.caller ≡ o → row.called.id ≡ x → row.called.nr ≡ nr → row.called.args ≡ args
    → row.is_listed ≡ true → row.is_settled ≡ false → row.fetcher ≡ None → row.queue.items ≡ [] → C.rows.items ≡ j.calls.rows.items ++ row ∷ [] → C.first ≡ j.calls.first → (k : ℕ) → k ≡ length j.calls.rows.items
    → Stands P S (e ∷ K) (record j { tasks = with_item j.tasks o (record t { entered = entry; call = Some k }); calls = C })
entered-listed-so P S K e j s history o lo nr args x step some t tq entry is C row a b c d f on unsettled unfetched none rows first k kq =
    subst (λ (D : Calls). Stands P S (e ∷ K) (record j { tasks = with_item j.tasks o (record t { entered = entry; call = Some k }); calls = D })) (calls-are C j.calls.first first)
    (entered-listed P S K e j s history o lo nr args x step some t tq entry is C.rows row a b c d f on unsettled unfetched none rows k kq)

-- what the call does that is entered
pub entry-of : (nr m : ℤ) (args : List ℕ) (v : Entered) (entry : Entry) → 0 < length args → m ≡ nr → ((call : What) → number_entered call ≡ m → argument call 0 ≡ get_or args 0 0 → IsEntry call entry) → IsEntry (Enter nr args v) entry
entry-of nr m args v entry some q f = f (Enter nr args v) (sym q) (first-argument nr args v some)

pub unlisted-entry : (nr : ℤ) (args : List ℕ) (v : Entered) → ((x : ℕ) → v ≡ Notify x → ⊥) → notifies (Enter nr args v) ≡ false
unlisted-entry nr args (Notify x) f = absurd (f x refl)
unlisted-entry nr args v f = refl

-- the entry that was noted is the step
pub entered-so : {E : Type 0} (m : ℤ) (r : Result (Unit {0}) E) (old new : Judge) (task place : ℕ) (nr : ℤ) (args : List ℕ) (v : Entered) (what : What) (opened : Option NodeRef) → m ≡ nr → what ≡ Enter nr args v
    → OnOk r (Takes old new (λ S K e. IsStepOf task (Enter m args v) K e × (length K ≡ place))) → OnOk r (Takes old new (λ S K e. IsStepOf task what K e × (length K ≡ place) × HasOpened S K e opened))
entered-so m (Ok u) old new task place nr args v what opened q w f =
    λ P S K e s history kind. (rw q at f) P S K e s history (record { who = kind.0.who; what_is = kind.0.what_is ∙ w }, kind.1)
entered-so m (Err x) old new task place nr args v what opened q w f = tt
