-- The judge stands for a history with one more event of a task, as it takes it.
-- Table by table: the task's own row, its call's, and none other.
use Rattle.std.proofs.Common.{◌≡◌, ℕ, ◌<◌, Bool, true, false, ◌&&◌, ◌||◌, List, ◌∷◌, length, refl, sym, ap, ◌∙◌, subst, arith, inl, inr, Option, Some, None, ◌⊎◌}
use Rattle.std.specs.Prelude.{get_or, if◌then◌else◌, not, Ok, Result, Vec, ℤ}
use Rattle.std.specs.Vec.{with_item}
use Rattle.std.specs.declared.alloc.Global.{Global}
use Rattle.std.proofs.lemmas.Bool.{cases_eq}
use Rattle.broker_verdict.specs.Answers.{is_accepted_value}
use Rattle.broker_verdict.specs.Effects.{is_done}
use Rattle.broker_verdict.specs.Seats.{is_effect}
use Rattle.hist_model.specs.Kinds.{closes, enters, is_install, leaves, makes, notifies, starts}
use Rattle.hist_model.specs.Legal.{system_of}
use Rattle.hist_model.specs.Look.{is_task, is_worker, Name}
use Rattle.hist_model.specs.Memory.{last_call}
use Rattle.hist_model.specs.Signals.{call_of}
use Rattle.hist_model.specs.Steps.{IsOfKernel}
use Rattle.hist_model.specs.Systems.{System}
use Rattle.hist_model.specs.declared.event.Actor.{Actor}
use Rattle.hist_model.specs.declared.event.Actor.TheVariants.{Task}
use Rattle.hist_model.specs.declared.event.Back.{Back}
use Rattle.hist_model.specs.declared.event.Delivered.{Delivered}
use Rattle.hist_model.specs.declared.event.Entered.{Entered}
use Rattle.hist_model.specs.declared.event.Event.{Event}
use Rattle.hist_model.specs.declared.event.SpawnKind.{SpawnKind}
use Rattle.hist_model.specs.declared.event.What.{What}
use Rattle.hist_model.specs.declared.event.What.TheVariants.{Deliver, Enter, Install, Native, Resume, Spawn}
use Rattle.hist_model.specs.declared.policy.Policy.{Policy}
use Rattle.hist_model.specs.declared.script.Script.{Script}
use Rattle.hist_model.proofs.Look.{name_eq-refl}
use Rattle.history_frames.specs.Ordinals.{count_of, nth_of, makes_group, task_name_of, tasks_made}
use Rattle.history_frames.proofs.Ordinals.{made-same, place-makes, place-one}
use Rattle.history_frames.proofs.Listed.{caller-older, listed-below, listed-cases, listed-stays}
use Rattle.hist_model.specs.Calls.{caller, unlists}
use Rattle.mediation.proofs.KernelRows.{kernel-row-of, KernelRow}
use Rattle.mediation.proofs.KernelTasks.{names_differ, waits-here, waits-in-call}
use Rattle.tasks.proofs.Frames.{names-apart}
use Rattle.tasks.proofs.Named.{name-kept, name-place}
use Rattle.judge_pass.specs.Counted.{is_answering}
use Rattle.judge_pass.specs.Stands.{IsBelow, IsCall, IsHistory, IsTask, IsTaskOf, may_give, place_of_call, Stands}
use Rattle.judge_pass.specs.Takes.{IsOf}
use Rattle.judge_pass.specs.declared.calls.Call.{Call}
use Rattle.judge_pass.specs.declared.judge.Judge.{Judge}
use Rattle.judge_pass.specs.declared.task_table.Task.{Task as TaskRow}
use Rattle.judge_pass.proofs.CallEvents.{calls-left, calls-outside, calls-same}
use Rattle.judge_pass.proofs.CallRows.{moves_calls, quiet-call}
use Rattle.judge_pass.proofs.DoneRows.{done-same, quiet-done}
use Rattle.judge_pass.proofs.NamedCalls.{AreCalls}
use Rattle.judge_pass.proofs.OpenRows.{moves_files, open-quiet}
use Rattle.judge_pass.proofs.Parts.{AreTasks, calls-of, counted-same, done-of, open-of, seats-of, seats-same, stands-of, tasks-moved, tasks-of, tasks-same, times-same}
use Rattle.judge_pass.proofs.Rows.{count-least, place-there}
use Rattle.judge_pass.proofs.SeatRows.{other-seat}
use Rattle.judge_pass.proofs.TaskRows.{call-gone, effects-same, group-same, LeavesTask, other-task, quiet-task}

-- ---- tasks have names of their own

pub same-ordinal : (S : Script) (K : List Event) (a b : ℕ) → IsOfKernel (system_of S) K → a < tasks_made K → b < tasks_made K → task_name_of K a ≡ task_name_of K b → a ≡ b
same-ordinal S K a b history la lb q =
    let x = name-place K a la in
    let y = name-place K b lb in
    let z : x.0 ≡ y.0 = names_differ (system_of S) K history x.0 y.0 (place-makes K a x.0 x.1) (place-makes K b y.0 y.1) (x.2 ∙ (q ∙ sym y.2)) in
    place-one makes K a b x.0 x.1 (y.1 ∙ ap (λ (t : ℕ). Some t) (sym z))

-- a step of one task leaves all others
pub other-tasks : (S : Script) (e : Event) (K : List Event) (o : ℕ) → IsOfKernel (system_of S) K → o < tasks_made K → IsOf o K e → closes e.what ≡ false → may_give e.what ≡ false
    → (i : ℕ) → i < tasks_made K → (i ≡ o → ⊥) → LeavesTask e K (task_name_of K i)
other-tasks S e K o history l who c g i li a =
    let apart : task_name_of K o ≡ task_name_of K i → ⊥ = λ q. a (sym (same-ordinal S K o i history l li q)) in
    quiet-task e K (task_name_of K i) (other-task e (task_name_of K i) (rw who (names-apart (task_name_of K o) (task_name_of K i) apart)) (λ h q. apart (rw who at q)) c) g

-- ---- steps of tasks change calls and tasks alone

pub record IsQuiet (w : What) : Type 0 where
  pub no_make : makes w ≡ false
  pub no_group : makes_group w ≡ false
  pub no_gift : may_give w ≡ false
  pub no_effect : is_effect w ≡ false
  pub no_install : is_install w ≡ false
  pub no_value : is_accepted_value w ≡ false
  pub no_file : moves_files w ≡ false
  pub undone : is_done w ≡ false
  pub no_start : starts w ≡ false
  pub no_answer : is_answering w ≡ false
  pub no_close : closes w ≡ false

module _ (P : Policy) (S : Script) (K : List Event) (e : Event) (j : Judge) (s : Stands P S K j) (history : IsHistory S (e ∷ K)) (n : Name) (who : e.who ≡ Task n) where
  no-worker : (w : ℕ) → is_worker e.who w ≡ false
  no-worker w = rw who refl

  pub stands-tasks : IsQuiet e.what → (T : Vec TaskRow Global) (R : Vec Call Global) → AreTasks (e ∷ K) T.items → AreCalls S (e ∷ K) R.items
      → Stands P S (e ∷ K) (record j { tasks = T; calls = record j.calls { rows = R } })
  stands-tasks q T R tasks calls = stands-of P S (e ∷ K) (record j { tasks = T; calls = record j.calls { rows = R } })
      s.script history tasks (s.groups_are ∙ sym (made-same makes_group e K q.no_group)) calls
      (done-same e K j.done.items (done-of P S K j s) q.no_effect (λ p l. quiet-done e K p q.no_install q.no_value))
      (seats-same S e K j.seats.items (seats-of P S K j s) history.fits (λ w l. other-seat S e K w (no-worker w)))
      s.first_is s.first_fits (open-quiet S e K j.directories.rows.items (open-of P S K j s) q.no_file) s.times_are
      (times-same P e K j.times.items s.times q.undone) (counted-same e K j.counts s.counts q.no_start q.no_effect q.no_answer)

-- ---- a task leaves its call

leaving-quiet : (w : What) → leaves w ≡ true → IsQuiet w
leaving-quiet w h = record {
  no_make = grind arith;
  no_group = grind arith;
  no_gift = grind arith;
  no_effect = grind arith;
  no_install = grind arith;
  no_value = grind arith;
  no_file = grind arith;
  undone = grind arith;
  no_start = grind arith;
  no_answer = grind arith;
  no_close = grind arith;
}

leaving-enters : (w : What) → leaves w ≡ true → (enters w ≡ false) × (notifies w ≡ false)
leaving-enters w h = (grind arith, grind arith)

pub last-same : (e : Event) (K : List Event) (n : Name) → enters e.what ≡ false → last_call (e ∷ K) n ≡ last_call K n
unfolding last_call
last-same e K n h = rw h (by (is_task e.who n))
  where
    by : (b : Bool) → (if b && false then e.what else last_call K n) ≡ last_call K n
    by true = refl
    by false = refl

-- the task's own row, with another call
pub own-row : (e : Event) (K : List Event) (o : ℕ) (t : TaskRow) (call : Option ℕ) → o < tasks_made K → IsTask K o t → call_of (e ∷ K) (task_name_of K o) ≡ place_of_call (e ∷ K) call → IsBelow (count_of notifies (e ∷ K)) call
    → enters e.what ≡ false → may_give e.what ≡ false → IsTask (e ∷ K) o (record t { call = call })
own-row e K o t call l h q made enter give =
    let n = task_name_of K o in
    let same = last-same e K n enter in
    subst (λ (m : Name). IsTaskOf (e ∷ K) m (record t { call = call })) (sym (name-kept e K o l)) (record {
      group_is = group-same e K n t.group h.group_is h.group_made;
      group_made = let b = count-least makes_group e K in omega (arith, h.group_made, b);
      call_is = q;
      call_made = made;
      entered_is = rw same h.entered_is;
      untold_are = h.untold_are ∙ sym (effects-same e K n give);
    })

pub left-call : (P : Policy) (S : Script) (K : List Event) (e : Event) (j : Judge) → Stands P S K j → IsHistory S (e ∷ K) → (o : ℕ) → o < length j.tasks.items → IsOf o K e → leaves e.what ≡ true
    → (t : TaskRow) → t ≡ get_or j.tasks.items o t → (k : ℕ) → t.call ≡ Some k → (row : Call) → row ≡ get_or j.calls.rows.items k row
    → Stands P S (e ∷ K) (record j { tasks = with_item j.tasks o (record t { call = None }); calls = record j.calls { rows = with_item j.calls.rows k (record row { is_listed = false }) } })
left-call P S K e j s history o lo who h t tq k kq row rq =
    let l : o < tasks_made K = omega (arith, lo, s.tasks_are) in
    let q = leaving-quiet e.what h in
    let n = task_name_of K o in
    let f = leaving-enters e.what h in
    let mine : IsTask K o t = subst (λ (x : TaskRow). IsTask K o x) (sym tq) (s.tasks o t l) in
    let kb : k < count_of notifies K = rw kq at mine.call_made in
    let call : IsCall S K k row = subst (λ (x : Call). IsCall S K k x) (sym rq) (s.calls k row kb) in
    let at : call_of K n ≡ nth_of notifies K k = rw kq at mine.call_is in
    let place = place-there notifies K k kb in
    let gone : call_of (e ∷ K) n ≡ None = call-gone S e K history.of_kernel n h (rw who (name_eq-refl n)) f.1 in
    stands-tasks P S K e j s history n who q (with_item j.tasks o (record t { call = None })) (with_item j.calls.rows k (record row { is_listed = false }))
    (tasks-moved e K j.tasks.items (tasks-of P S K j s) q.no_make o (record t { call = None }) (own-row e K o t None l mine gone tt f.0 q.no_gift)
    (other-tasks S e K o history.of_kernel.1 l who q.no_close q.no_gift) _ refl)
    (calls-left S e K j.calls.rows.items n k place.0 row (calls-of P S K j s) history.of_kernel.1 who h (at ∙ place.1) place.1 call _ refl)

pub left-none : (P : Policy) (S : Script) (K : List Event) (e : Event) (j : Judge) → Stands P S K j → IsHistory S (e ∷ K) → (o : ℕ) → o < length j.tasks.items → IsOf o K e → leaves e.what ≡ true
    → (t : TaskRow) → t ≡ get_or j.tasks.items o t → t.call ≡ None → Stands P S (e ∷ K) j
left-none P S K e j s history o lo who h t tq none =
    let l : o < tasks_made K = omega (arith, lo, s.tasks_are) in
    let q = leaving-quiet e.what h in
    let n = task_name_of K o in
    let f = leaving-enters e.what h in
    let mine : IsTask K o t = subst (λ (x : TaskRow). IsTask K o x) (sym tq) (s.tasks o t l) in
    let at : call_of K n ≡ None = rw none at mine.call_is in
    let gone : call_of (e ∷ K) n ≡ None = call-gone S e K history.of_kernel n h (rw who (name_eq-refl n)) f.1 in
    stands-tasks P S K e j s history n who q j.tasks j.calls.rows
    (tasks-same e K j.tasks.items (tasks-of P S K j s) q.no_make (λ i li. by i li (cases_eq i o) gone at))
    (calls-outside S e K j.calls.rows.items n (calls-of P S K j s) history.of_kernel.1 who h at)
  where
    by : (i : ℕ) → i < tasks_made K → (i ≡ o) ⊎ (i ≡ o → ⊥) → call_of (e ∷ K) (task_name_of K o) ≡ None → call_of K (task_name_of K o) ≡ None → LeavesTask e K (task_name_of K i)
    by i li (inl x) g a =
        let f = leaving-enters e.what h in
        rw x (record { call_same = g ∙ sym a; last_same = last-same e K (task_name_of K o) f.0; effects_same = effects-same e K (task_name_of K o) (leaving-quiet e.what h).no_gift })
    by i li (inr x) g a = let q = leaving-quiet e.what h in other-tasks S e K o history.of_kernel.1 (omega (arith, lo, s.tasks_are)) who q.no_close q.no_gift i li x

-- ---- a step that enters and leaves no call

pub call-quiet : (S : Script) (e : Event) (K : List Event) (n : Name) → IsOfKernel (system_of S) (e ∷ K) → closes e.what ≡ false → leaves e.what ≡ false → notifies e.what ≡ false → call_of (e ∷ K) n ≡ call_of K n
call-quiet S e K n history c l f = by (call_of K n) refl
  where
    none : call_of K n ≡ None → (o : Option ℕ) → call_of (e ∷ K) n ≡ o → call_of (e ∷ K) n ≡ None
    none z None q = q
    none z (Some d) q =
        let w = waits-in-call (e ∷ K) n d q in
        elim (listed-cases e K d w.0) [
          | inl x ↦ absurd (cc (x.1, f))
          | inr x ↦
              let r : caller K d ≡ n = sym (caller-older e K d x.0) ∙ w.1 in
              let y : call_of K n ≡ Some d = ap (call_of K) (sym r) ∙ waits-here (system_of S) K d history.1 x.1 in
              absurd (cc (y, z))
        ]

    unlisted : (m : Name) → unlists e m ≡ false
    unlisted m = rw (c, l) refl

    by : (o : Option ℕ) → call_of K n ≡ o → call_of (e ∷ K) n ≡ call_of K n
    by None q = none q (call_of (e ∷ K) n) refl ∙ sym q
    by (Some d) q =
        let w = waits-in-call K n d q in
        let s = listed-stays e K d w.0 (unlisted (caller K d)) in
        let r : caller (e ∷ K) d ≡ n = caller-older e K d (listed-below K d w.0) ∙ w.1 in
        ap (call_of (e ∷ K)) (sym r) ∙ (waits-here (system_of S) (e ∷ K) d history s ∙ sym q)

-- ---- a step that is kept of nothing

-- a task's step that makes no task, enters and leaves no call, and opens, closes and installs nothing
abbrev pub idles : What → Bool
idles (Spawn child (Ok made)) = false
idles (Native (Ok number)) = false
idles (Install answer) = false
idles w = not (enters w || leaves w)

idle-quiet : (S : System) (K : List Event) (m : Name) (w : What) → KernelRow S K (Task m) w → idles w ≡ true → IsQuiet w × (leaves w ≡ false) × (enters w ≡ false) × (notifies w ≡ false) × (moves_calls w ≡ false)
idle-quiet S K m w r h = (
  record {
    no_make = grind arith;
    no_group = grind arith;
    no_gift = grind arith;
    no_effect = grind arith;
    no_install = grind arith;
    no_value = grind arith;
    no_file = grind arith;
    undone = grind arith;
    no_start = grind arith;
    no_answer = grind arith;
    no_close = grind arith;
  },
  grind arith,
  grind arith,
  grind arith,
  grind arith,
)

pub idle-named : (P : Policy) (S : Script) (K : List Event) (e : Event) (j : Judge) → Stands P S K j → IsHistory S (e ∷ K) → (n : Name) → e.who ≡ Task n → idles e.what ≡ true → Stands P S (e ∷ K) j
idle-named P S K e j s history n who h =
    let q = idle-quiet (system_of S) K n e.what (subst (λ (a : Actor). KernelRow (system_of S) K a e.what) who (kernel-row-of (system_of S) K e history.of_kernel.0)) h in
    stands-tasks P S K e j s history n who q.0 j.tasks j.calls.rows
    (tasks-same e K j.tasks.items (tasks-of P S K j s) q.0.no_make (λ i l. record {
      call_same = call-quiet S e K (task_name_of K i) history.of_kernel q.0.no_close q.1 q.3;
      last_same = last-same e K (task_name_of K i) q.2;
      effects_same = effects-same e K (task_name_of K i) q.0.no_gift;
    }))
    (calls-same S e K j.calls.rows.items (calls-of P S K j s) q.3 (λ c is l. quiet-call e K c l q.4))

pub idle-step : (P : Policy) (S : Script) (K : List Event) (e : Event) (j : Judge) → Stands P S K j → IsHistory S (e ∷ K) → (o : ℕ) → IsOf o K e → idles e.what ≡ true → Stands P S (e ∷ K) j
idle-step P S K e j s history o who h = idle-named P S K e j s history (task_name_of K o) who h

pub idles-rest : (w : What) → ((a : Name) (b : Result (ℕ × SpawnKind) ℕ) → w ≡ Spawn a b → ⊥) → ((a : ℤ) (b : List ℕ) (c : Entered) → w ≡ Enter a b c → ⊥) → ((a : Result ℕ ℕ) → w ≡ Native a → ⊥) → ((b : Back) → w ≡ Resume b → ⊥)
    → ((a : ℕ) (b : Delivered) → w ≡ Deliver a b → ⊥) → is_install w ≡ false → idles w ≡ true
idles-rest (Spawn a b) s n t r d i = absurd (s a b refl)
idles-rest (Enter a b c) s n t r d i = absurd (n a b c refl)
idles-rest (Native a) s n t r d i = absurd (t a refl)
idles-rest (Resume b) s n t r d i = absurd (r b refl)
idles-rest (Deliver a b) s n t r d i = absurd (d a b refl)
idles-rest (Install a) s n t r d i = cc
idles-rest w s n t r d i = refl
