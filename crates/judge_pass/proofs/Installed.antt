-- The judge stands for a history in which one more request is installed.
-- The request is the oldest of its task's call, which the task waits in.
use Rattle.std.proofs.Common.{◌≡◌, ℕ, ◌<◌, Bool, true, false, ◌&&◌, ◌||◌, List, [], ◌∷◌, length, refl, sym, ap, ◌∙◌, subst, arith, Option, Some, None}
use Rattle.std.specs.Prelude.{get_or, is_ok, Ok, Err, Result, All, ℤ, pos, negsuc}
use Rattle.std.proofs.Math.ListN.{set}
use Rattle.hist_model.specs.Calls.{installs_for, queue}
use Rattle.hist_model.specs.Kinds.{gave, notifies}
use Rattle.hist_model.specs.Legal.{system_of}
use Rattle.hist_model.specs.Look.{ev, Name}
use Rattle.hist_model.specs.Memory.{group_named}
use Rattle.hist_model.specs.Signals.{call_of}
use Rattle.hist_model.specs.Systems.{System}
use Rattle.hist_model.specs.declared.event.Actor.TheVariants.{Task}
use Rattle.hist_model.specs.declared.event.Event.{Event}
use Rattle.hist_model.specs.declared.event.What.TheVariants.{Install}
use Rattle.hist_model.specs.declared.policy.Policy.{Policy}
use Rattle.hist_model.specs.declared.script.Script.{Script}
use Rattle.hist_model.proofs.Look.{name_eq-refl}
use Rattle.history_frames.specs.Ordinals.{count_of, group_of, groups_made, makes_group, nth_of, task_name_of, tasks_made}
use Rattle.history_frames.proofs.Ordinals.{made-same, place-below}
use Rattle.mediation.proofs.KernelRows.{kernel-row-of, KernelRow}
use Rattle.mediation.proofs.KernelTasks.{waits-in-call}
use Rattle.broker_verdict.specs.Seats.{is_effect, of_call}
use Rattle.broker_verdict.specs.Trusted.{is_left, leaves_unanswered}
use Rattle.broker_verdict.specs.declared.clause.Clause.TheVariants.{Unanswered}
use Rattle.judge_pass.specs.Stands.{AreQueued, IsCall, IsDone, IsHistory, IsTask, place_of_call, Stands}
use Rattle.judge_pass.specs.Tables.{AreMade, dirfd_named, first_effect, first_sends, row_named}
use Rattle.judge_pass.specs.Takes.{Installs, IsNoted, IsStepOf, with_file}
use Rattle.judge_pass.specs.Within.{IsTaskWithin, IsWithin}
use Rattle.judge_pass.specs.declared.calls.Call.{Call}
use Rattle.judge_pass.specs.declared.calls.Queued.{Queued}
use Rattle.judge_pass.specs.declared.directories.OpenDirectory.{OpenDirectory}
use Rattle.judge_pass.specs.declared.done.Done.{Done}
use Rattle.judge_pass.specs.declared.judge.Judge.{Judge}
use Rattle.judge_pass.specs.declared.task_table.Task.{Task as TaskRow}
use Rattle.judge_pass.proofs.CallAnswers.{not-installed, one-installed}
use Rattle.judge_pass.proofs.DoneRows.{AreDone, done-installed, done-uninstalled}
use Rattle.judge_pass.proofs.MadeTasks.{ev-is}
use Rattle.judge_pass.proofs.NamedCalls.{AreCalls}
use Rattle.judge_pass.proofs.OpenRows.{AreOpen, open-installed, open-quiet}
use Rattle.judge_pass.proofs.Parts.{AreTasks, calls-of, counted-same, done-of, open-of, seats-of, seats-same, stands-of, tasks-of, tasks-same, times-same}
use Rattle.judge_pass.proofs.Rows.{place-there}
use Rattle.judge_pass.proofs.SeatRows.{other-seat}
use Rattle.judge_pass.proofs.TaskEvents.{call-quiet, last-same}
use Rattle.judge_pass.proofs.TaskRows.{call-kept, effects-same}

-- ---- numbers in range

pub all-first : (n k : ℕ) (qs : List Queued) → All (λ q. q.effect < n) qs → first_effect qs ≡ Some k → k < n
all-first n k [] h q = cc
all-first n k (x ∷ qs) h q = let a = h 0 x (omega arith) in let b : x.effect ≡ k = cc in omega (arith, a, b)

pub first-within : (j : Judge) (call : ℕ) (row : Call) (k : ℕ) → IsWithin j → call < length j.calls.rows.items → row ≡ get_or j.calls.rows.items call row → first_effect row.queue.items ≡ Some k → k < length j.done.items
first-within j call row k w l q e = all-first (length j.done.items) k row.queue.items (subst (λ (x : Call). All (λ p. p.effect < length j.done.items) x.queue.items) (sym q) (w.calls call row l).queue) e

-- ---- the parts

-- the kernel installs for a call in which the task waits
install-row : (S : System) (K : List Event) (n : Name) (answer : Result ℕ ℕ) → KernelRow S K (Task n) (Install answer) → (c : ℕ) × (call_of K n ≡ Some c)
install-row S K n answer r = (r.1.0, r.1.1)

gave-ok : (a : Result ℕ ℕ) → gave (Install a) ≡ is_ok a
gave-ok (Ok m) = refl
gave-ok (Err e) = refl

open-alike : (S : Script) (K : List Event) (rows rows' : List OpenDirectory) → AreOpen S K rows → ((g k : ℕ) → row_named rows' g k ≡ row_named rows g k) → AreMade (groups_made K) rows' → AreOpen S K rows'
open-alike S K rows rows' h same made = record { named = λ g p d there. h.named g p d there ∙ by g d; made = made }
  where
    by : (g : ℕ) (d : ℤ) → dirfd_named S rows g d ≡ dirfd_named S rows' g d
    by g (pos m) = sym (same g m)
    by g (negsuc m) = refl

done-noted : (S : Script) (K : List Event) (n : Name) (answer : Result ℕ ℕ) (rows rows' : List Done) → AreDone K rows → ((d : ℕ) → (call_of K n ≡ Some d → ⊥) → installs_for K (ev (Task n) (Install answer)) d ≡ false)
    → (c : ℕ) → call_of K n ≡ Some c → installs_for K (ev (Task n) (Install answer)) c ≡ true → (rs : List ℕ) (qs : List Queued) → queue K c ≡ rs → AreQueued K rs qs → IsNoted (first_effect qs) answer rows rows'
    → AreDone (ev (Task n) (Install answer) ∷ K) rows'
unfolding AreQueued
done-noted S K n answer rows rows' all others c at mine [] [] q h noted =
    rw noted (done-uninstalled K n answer rows all others (λ d y. let e : c ≡ d = cc in ap (queue K) (sym e) ∙ q))
done-noted S K n answer rows rows' all others c at mine [] (x ∷ qs) q h noted = absurd h
done-noted S K n answer rows rows' all others c at mine (r ∷ rs) [] q h noted = absurd h
done-noted S K n answer rows rows' all others c at mine (r ∷ rs) (x ∷ qs) q h noted =
    let b = place-below is_effect K x.effect r h.0.place_is in
    let old : IsDone K x.effect noted.before = subst (λ (d : Done). IsDone K x.effect d) (sym noted.before_is) (all.each x.effect noted.before b.0) in
    done-installed S K n answer rows all others c at mine r x.effect rs q h.0.place_is noted.before noted.after old noted.rest_is noted.put_is rows' noted.rows_are

module _ (P : Policy) (S : Script) (K : List Event) (o : ℕ) (answer : Result ℕ ℕ) where
  abbrev n : Name
  n = task_name_of K o

  abbrev installing : Event
  installing = ev (Task n) (Install answer)

  module _ (j : Judge) (s : Stands P S K j) (history : IsHistory S (installing ∷ K)) (lo : o < length j.tasks.items) (t : TaskRow) (tq : t ≡ get_or j.tasks.items o t) where
    l : o < tasks_made K
    l = omega (arith, lo, s.tasks_are)

    mine : IsTask K o t
    mine = subst (λ (x : TaskRow). IsTask K o x) (sym tq) (s.tasks o t l)

    tasks : AreTasks (installing ∷ K) j.tasks.items
    tasks = tasks-same installing K j.tasks.items (tasks-of P S K j s) refl (λ i li. record {
      call_same = call-quiet S installing K (task_name_of K i) history.of_kernel refl refl refl;
      last_same = last-same installing K (task_name_of K i) refl;
      effects_same = effects-same installing K (task_name_of K i) refl;
    })

    group-at : (i : ℕ) × (group_of K t.group ≡ Some i) × (i < length K)
    group-at = place-there makes_group K t.group mine.group_made

    own : group_named K n ≡ Some group-at.0
    own = mine.group_is ∙ group-at.1

    opened-now : (a : Result ℕ ℕ) → answer ≡ a → (rows : List OpenDirectory) → ((g k : ℕ) → row_named rows g k ≡ with_file a t.group j.directories.rows.items g k)
        → ((groups : ℕ) → t.group < groups → AreMade groups j.directories.rows.items → AreMade groups rows) → AreOpen S (installing ∷ K) rows
    opened-now (Ok m) q rows named made =
        rw q (open-installed S K j.directories.rows.items rows n m t.group group-at.0 (open-of P S K j s) group-at.1 own named made)
    opened-now (Err x) q rows named made =
        open-alike S (installing ∷ K) j.directories.rows.items rows
        (open-quiet S installing K j.directories.rows.items (open-of P S K j s) (rw q refl)) named
        (let h = made (groups_made K) mine.group_made s.directories_made in rw (made-same makes_group installing K refl) h)

    pub installed-call : (k : ℕ) → t.call ≡ Some k → (j' j'' : Judge) → j' ≡ record j { directories = j'.directories } → ((g i : ℕ) → row_named j'.directories.rows.items g i ≡ with_file answer t.group j.directories.rows.items g i)
        → ((groups : ℕ) → t.group < groups → AreMade groups j.directories.rows.items → AreMade groups j'.directories.rows.items) → Installs k answer j' j'' → Stands P S (installing ∷ K) j''
    installed-call k kq j' j'' same named made i =
        subst (λ (x : Judge). Stands P S (installing ∷ K) x) (sym whole)
        (stands-of P S (installing ∷ K) (record j { directories = j'.directories; calls = record j.calls { rows = j''.calls.rows }; done = j''.done }) s.script history
        tasks (s.groups_are ∙ sym (made-same makes_group installing K refl)) calls done
        (seats-same S installing K j.seats.items (seats-of P S K j s) history.fits (λ w b. other-seat S installing K w refl))
        s.first_is s.first_fits (opened-now answer refl j'.directories.rows.items named made) s.times_are
        (times-same P installing K j.times.items s.times refl) (counted-same installing K j.counts s.counts refl refl refl))
      where
        whole : j'' ≡ record j { directories = j'.directories; calls = record j.calls { rows = j''.calls.rows }; done = j''.done }
        whole = i.same ∙ ap (λ (x : Judge). record x { calls = record x.calls { rows = j''.calls.rows }; done = j''.done }) same

        before-is : i.before ≡ get_or j.calls.rows.items k i.before
        before-is = i.before_is ∙ ap (λ (x : Judge). get_or x.calls.rows.items k i.before) same

        kb : k < count_of notifies K
        kb = rw kq at mine.call_made

        row : IsCall S K k i.before
        row = subst (λ (x : Call). IsCall S K k x) (sym before-is) (s.calls k i.before kb)

        place : (c : ℕ) × (nth_of notifies K k ≡ Some c) × (c < length K)
        place = place-there notifies K k kb

        waits : call_of K n ≡ Some place.0
        waits = (rw kq at mine.call_is) ∙ place.1

        calls : AreCalls S (installing ∷ K) j''.calls.rows.items
        calls = one-installed S K j.calls.rows.items (calls-of P S K j s) n answer history.of_kernel.1 k place.0 i.before i.after waits place.1 row i.queue_is
            (i.settled_is ∙ ap (λ (b : Bool). (b && first_sends i.before.queue.items) || i.before.is_settled) (sym (gave-ok answer))) i.rest_is
            j''.calls.rows.items (i.rows_are ∙ ap (λ (x : Judge). set x.calls.rows.items k i.after) same)

        others : (d : ℕ) → (call_of K n ≡ Some d → ⊥) → installs_for K installing d ≡ false
        others = not-installed S K j.calls.rows.items (calls-of P S K j s) n answer history.of_kernel.1

        installs : installs_for K installing place.0 ≡ true
        installs = let w = waits-in-call K n place.0 waits in rw (w.0, w.1, name_eq-refl n) refl

        done-by : (rs : List ℕ) (qs : List Queued) → queue K place.0 ≡ rs → AreQueued K rs qs → IsNoted (first_effect qs) answer j.done.items j''.done.items → AreDone (installing ∷ K) j''.done.items
        done-by rs qs q h noted = done-noted S K n answer j.done.items j''.done.items (done-of P S K j s) others place.0 waits installs rs qs q h noted

        done : AreDone (installing ∷ K) j''.done.items
        done = done-by (queue K place.0) i.before.queue.items refl (subst (λ (p : ℕ). AreQueued K (queue K p) i.before.queue.items) (cc (row.place_is, place.1)) row.queue_is)
            (subst (λ (x : Judge). IsNoted (first_effect i.before.queue.items) answer x.done.items j''.done.items) same i.done_are)

    -- the task waits in none: then the kernel installs nothing
    pub installed-none : t.call ≡ None → (x : Judge) → Stands P S (installing ∷ K) x
    installed-none none x =
        let r = install-row (system_of S) K n answer (kernel-row-of (system_of S) K installing history.of_kernel.0) in
        let z : call_of K n ≡ None = rw none at mine.call_is in
        absurd (cc (z, r.1))

pub installed-call-so : (P : Policy) (S : Script) (K : List Event) (e : Event) (j : Judge) → Stands P S K j → IsHistory S (e ∷ K) → (o : ℕ) → o < length j.tasks.items → (answer : Result ℕ ℕ) → IsStepOf o (Install answer) K e
    → (t : TaskRow) → t ≡ get_or j.tasks.items o t → (k : ℕ) → t.call ≡ Some k → (j' j'' : Judge) → j' ≡ record j { directories = j'.directories }
    → ((g i : ℕ) → row_named j'.directories.rows.items g i ≡ with_file answer (get_or j.tasks.items o t).group j.directories.rows.items g i)
    → ((groups : ℕ) → (get_or j.tasks.items o t).group < groups → AreMade groups j.directories.rows.items → AreMade groups j'.directories.rows.items) → Installs k answer j' j'' → Stands P S (e ∷ K) j''
installed-call-so P S K e j s history o lo answer step t tq k kq j' j'' same named made i =
    let q = ev-is e (Task (task_name_of K o)) (Install answer) step.who step.what_is in
    subst (λ (f : Event). Stands P S (f ∷ K) j'') q
    (installed-call P S K o answer j s (subst (λ (f : Event). IsHistory S (f ∷ K)) (sym q) history) lo t tq k kq j' j'' same (rw (← tq) at named) (rw (← tq) at made) i)

pub installed-none-so : (P : Policy) (S : Script) (K : List Event) (e : Event) (j : Judge) → Stands P S K j → IsHistory S (e ∷ K) → (o : ℕ) → o < length j.tasks.items → (answer : Result ℕ ℕ) → IsStepOf o (Install answer) K e
    → (t : TaskRow) → t ≡ get_or j.tasks.items o t → t.call ≡ None → (x : Judge) → Stands P S (e ∷ K) x
installed-none-so P S K e j s history o lo answer step t tq none x =
    let q = ev-is e (Task (task_name_of K o)) (Install answer) step.who step.what_is in
    subst (λ (f : Event). Stands P S (f ∷ K) x) q (installed-none P S K o answer j s (subst (λ (f : Event). IsHistory S (f ∷ K)) (sym q) history) lo t tq none x)

-- the call that an installation may leave is its task's
pub install-leaves : (P : Policy) (S : Script) (K : List Event) (e : Event) (j : Judge) → Stands P S K j → (o : ℕ) → o < length j.tasks.items → (answer : Result ℕ ℕ) → IsStepOf o (Install answer) K e
    → (t : TaskRow) → t ≡ get_or j.tasks.items o t → (b : Bool) → b ≡ of_call (place_of_call (e ∷ K) t.call) (is_left (e ∷ K)) → b ≡ leaves_unanswered Unanswered K e
install-leaves P S K e j s o lo answer step t tq b h =
    let l : o < tasks_made K = omega (arith, lo, s.tasks_are) in
    let mine : IsTask K o t = subst (λ (x : TaskRow). IsTask K o x) (sym tq) (s.tasks o t l) in
    let q : place_of_call (e ∷ K) t.call ≡ call_of K (task_name_of K o) = call-kept e K t.call mine.call_made ∙ sym mine.call_is in
    h ∙ (ap (λ (c : Option ℕ). of_call c (is_left (e ∷ K))) q ∙ rw (step.who, step.what_is) refl)

pub task-call : (j : Judge) (o k : ℕ) (t : TaskRow) → IsWithin j → o < length j.tasks.items → t ≡ get_or j.tasks.items o t → t.call ≡ Some k → k < length j.calls.rows.items
task-call j o k t w l tq q =
    let x = subst (λ (y : TaskRow). IsTaskWithin j y) (sym tq) (w.tasks o t l) in
    rw q at x.call
