-- What the kernel keeps, whoever its workers are: the clauses of mediation that don't ask what a worker does.
-- By the row of each step, which tells how the kernel answers.
use Rattle.hist_model.specs.Signals.{due}
use Rattle.sys_abi.specs.Signals.{sigkill, sigusr1, sigusr2, sigterm}
use Rattle.mediation.proofs.Common.{◌⊎◌, inl, inr, and_parts, ActsAlone}
use Rattle.mediation.proofs.Common.{Act, Actor, ActsOnTree, arith, Arrives, base_answer, base_of, Bool, both_ways, call_of, caller, calls, closes, Deliver, Each}
use Rattle.mediation.proofs.Common.{Enter, EntersAsFiltered, Err, ev, Event, FailsAlone, false, false_from_ne_true, fetched, fetches, FetchesOldest, files, FindsNone}
use Rattle.mediation.proofs.Common.{id, if◌then◌else◌, Install, install_step, InstallsAlone, InstallsThere, is_spent, is_task, IsOldestUnfetched, leaves, length, List}
use Rattle.mediation.proofs.Common.{listed, lives, Name, Native, next_signal, Notif, Ok, oldest_unfetched, OneSession, OpenBase, opened, OpensBase, OpensMemory, Option}
use Rattle.mediation.proofs.Common.{outcome, pending, place_or, Plant, PlantsWhereMapped, queue, ReadsMemory, Recv, refl, Result, returns, RunsNatively, Script, settled, slot_answer, slot_next}
use Rattle.mediation.proofs.Common.{Some, SpentExactly, System, system_of, TakenByItsActor, takes, Task, true, verdict, What, with_id, Worker, ℕ, ℤ, ◌&&◌, ◌+◌, ◌<◌, ◌%◌, ◌^◌, ◌||◌, ◌∙◌, ◌≡◌, ◌≤◌, DeliversSent, Entered}
use Rattle.history_frames.proofs.Listed.{listed-below, listed-older}
use Rattle.hist_model.specs.Legal.{is_there, OfKernel}
use Rattle.hist_model.specs.Mediated.{fetches_of, IsEmptyReceive}
use Rattle.hist_model.specs.Steps.{IsOfKernel}
use Rattle.mediation.specs.Kernels.{KernelKeeps}
use Rattle.mediation.proofs.KernelRows.{KernelRow, TaskRow, by-few-kernel-steps, each-kernel, each-any}
use Rattle.mediation.proofs.KernelAnswered.{checks-waiting, puts-for-waiting, returns-as-answered, sends-to-waiting, stays-in-call, takes-its-request}
use Rattle.mediation.proofs.KernelTasks.{pids_differ, same-name, waits-here, waits-in-call}
use Rattle.mediation.proofs.KernelCalls.{answered_once, call_ids, fetching, named-fetched, once-more, receives-are-for, refetch}
use Rattle.mediation.proofs.Spent.{act-spent, answered-so, outcome-other, plant-spent, written-other}
use Rattle.mediation.proofs.Unprivileged.{acts-alone}
use Rattle.sys_abi.specs.Errnos.{esrch, ebadf}

-- a number that is chosen where it passes a test passes it; else the choice is among the others
chosen : (b : Bool) (test : ℕ → Bool) (a s : ℕ) (rest : Option ℕ) → test a ≡ b → (if b then Some a else rest) ≡ Some s → (test s ≡ true) ⊎ (rest ≡ Some s)
chosen true test a s rest q h = let m : a ≡ s = cc in inl (rw (← m) q)
chosen false test a s rest q h = inr h

module _ (S : System) where
  -- ---- each step is one of its actor's

  pub takes-own : (K : List Event) (a : Actor) (what : What) → KernelRow S K a what → takes a what ≡ true
  takes-own K a what row = grind arith

  pub taken_by_its_actor : (K : List Event) → IsOfKernel S K → length K < 2 ^ 64 → Each TakenByItsActor K
  taken_by_its_actor = each-kernel S TakenByItsActor (λ K e history room. takes-own K e.who e.what)

  -- ---- a call has one session, and what was accepted for it arrives

  pub one_session : (K : List Event) → IsOfKernel S K → length K < 2 ^ 64 → OneSession K
  unfolding fetches_of fetched
  one_session K history room c =
      let Once = λ (L : List Event). (fetches_of L c ≤ 1) × (fetched L c ≡ false → fetches_of L c ≡ 0) in
      (by-few-kernel-steps S Once (omega arith, λ _. refl) (λ L e l r row. once-more (fetches_of L c) (fetches e.what (id L c) && listed L c) (fetched L c)
      (λ q. false_from_ne_true (fetched L c) (λ h. both_ways (fetches e.what (id L c) && listed L c) (refetch S L e.who e.what c l r row h) q))) K history room).0

  -- a settled call is left by its return alone
  leaves-settled : (K : List Event) (c : ℕ) (a : Actor) (what : What) → IsOfKernel S K → settled K c ≡ true → listed K c ≡ true → KernelRow S K a what
      → (closes what || (leaves what && is_task a (caller K c))) ≡ true → (closes what || (returns what && is_task a (caller K c))) ≡ true
  leaves-settled K c a what history s l r u = let w = waits-here S K c history l in grind (arith, same-name)

  pub arrives : (K : List Event) → IsOfKernel S K → length K < 2 ^ 64 → Each Arrives K
  arrives = each-kernel S Arrives (λ K e history room row c s l g. leaves-settled K c e.who e.what history s l row (grind (arith, listed-below, listed-older)))

  -- ---- a receive gives the notification of the oldest call that nobody has fetched

  pub fetches_oldest : (K : List Event) → IsOfKernel S K → length K < 2 ^ 64 → Each FetchesOldest K
  fetches_oldest = each-kernel S FetchesOldest (λ K e history room row n what. oldest K e.who n history room (rw what at row))
    where
      oldest : (K : List Event) (a : Actor) (n : Notif) → IsOfKernel S K → length K < 2 ^ 64 → KernelRow S K a (Recv (Ok n)) → IsOldestUnfetched K n
      oldest K (Worker w) n history room r =
          let f = fetching K n (oldest_unfetched K) refl r.1 in
          record { call = f.0; oldest = f.4; whole = f.1; named_by = named-fetched S K n history room r.1 ∙ f.4 }
      oldest K a n history room r = absurd (grind arith)

  pub finds_none : (K : List Event) → IsOfKernel S K → length K < 2 ^ 64 → Each FindsNone K
  finds_none = each-kernel S FindsNone (λ K e history room row x what. none K e.who x (oldest_unfetched K) refl (rw what at row))
    where
      none : (K : List Event) (a : Actor) (x : ℕ) (o : Option ℕ) → oldest_unfetched K ≡ o → KernelRow S K a (Recv (Err x)) → IsEmptyReceive K x
      none K a x o q r = record { none = grind arith; answer = grind arith }

-- ---- what is opened, read, installed and done is answered as it is

module _ (S : Script) where
  pub opens_memory : (K : List Event) → IsOfKernel (system_of S) K → length K < 2 ^ 64 → Each OpensMemory K
  opens_memory = each-kernel (system_of S) OpensMemory (λ K e history room row w p a who what. rw (who, what) at row)

  base-told : (K : List Event) (o : Option ℕ) (d : ℤ)
      → base_answer (system_of S) K o d ≡ (if lives K o then (if is_there (base_of S (files S K) (place_or (opened K o)) d) then Ok tt else Err ebadf) else Err esrch)
  base-told K o d = grind arith

  pub opens_base : (K : List Event) → IsOfKernel (system_of S) K → length K < 2 ^ 64 → Each (OpensBase S) K
  opens_base = each-kernel (system_of S) (OpensBase S) (λ K e history room row w p d a who what.
      let r : KernelRow (system_of S) K (Worker w) (OpenBase p d a) = rw (who, what) at row in r ∙ base-told K _ d)

  pub reads_memory : (K : List Event) → IsOfKernel (system_of S) K → length K < 2 ^ 64 → Each (ReadsMemory S) K
  reads_memory = each-kernel (system_of S) (ReadsMemory S) (λ K e history room row w x l g a who what m. rw m at (rw (who, what) at row))

  pub acts_on_tree : (K : List Event) → IsOfKernel (system_of S) K → length K < 2 ^ 64 → Each (ActsOnTree S) K
  acts_on_tree = each-kernel (system_of S) (ActsOnTree S) (λ K e history room row w q cap a who what. rw (who, what) at row)

  pub plants_where_mapped : (K : List Event) → IsOfKernel (system_of S) K → length K < 2 ^ 64 → Each (PlantsWhereMapped S) K
  plants_where_mapped = each-kernel (system_of S) (PlantsWhereMapped S) (λ K e history room row w x b cap a who what. rw (who, what) at row)

  pub spent-exactly : (K : List Event) → IsOfKernel (system_of S) K → length K < 2 ^ 64 → Each SpentExactly K
  spent-exactly = each-kernel (system_of S) SpentExactly (λ K e history room. exactly K e.who e.what)
    where
      exactly : (K : List Event) (a : Actor) (what : What) → KernelRow (system_of S) K a what → SpentExactly K (ev a what)
      exactly K (Worker w) (Act q cap a) row = act-spent q cap a ∙ answered-so (is_spent K cap) (outcome S (files S K) w q) a (outcome-other S (files S K) w q) row
      exactly K (Worker w) (Plant x b cap a) row = plant-spent x b cap a ∙ answered-so (is_spent K cap) _ a (written-other ((system_of S).writable x)) row
      exactly K a (Act q cap x) row = absurd (grind arith)
      exactly K a (Plant y b cap x) row = absurd (grind arith)
      exactly K a what row = refl

  -- an installation goes where its request goes in the table before, and changes that slot alone
  pub installs-there : (K : List Event) → IsOfKernel (system_of S) K → length K < 2 ^ 64 → Each (InstallsThere S) K
  installs-there = each-kernel (system_of S) (InstallsThere S) (λ K e history room row x what. there K e.who x (rw what at row))
    where
      first-slot : (K : List Event) (n : Name) (c : ℕ) (x : Result ℕ ℕ) (rs : List ℕ) → caller K c ≡ n → call_of K n ≡ Some c → queue K c ≡ rs
          → Install x ≡ install_step (system_of S) K c rs → x ≡ slot_answer (slot_next S K (Task n))
      first-slot K n c x rs m q z h = grind arith

      there : (K : List Event) (a : Actor) (x : Result ℕ ℕ) → KernelRow (system_of S) K a (Install x) → x ≡ slot_answer (slot_next S K a)
      there K (Task n) x row = let c = row.1.0 in first-slot K n c x (queue K c) (waits-in-call K n c row.1.1).1 row.1.1 refl row.1.3
      there K a x row = absurd (grind arith)

  installs_alone : (K : List Event) (e : Event) → InstallsAlone S K e
  unfolding files
  installs_alone K e m what f j = rw what

  fails_alone : (K : List Event) (e : Event) → FailsAlone S K e
  unfolding files
  fails_alone K e x what f j = rw what

  -- ---- nothing goes past the broker

  pub enters-as_filtered : (K : List Event) → IsOfKernel (system_of S) K → length K < 2 ^ 64 → Each (EntersAsFiltered S) K
  enters-as_filtered = each-kernel (system_of S) (EntersAsFiltered S) (λ K e history room row nr args v what. entry K e.who nr args v (rw what at row))
    where
      entry : (K : List Event) (a : Actor) (nr : ℤ) (args : List ℕ) (v : Entered) → KernelRow (system_of S) K a (Enter nr args v)
          → v ≡ with_id (verdict S.filters nr args) ((S.firstid + calls K) % 2 ^ 64)
      entry K (Task n) nr args v row = row.2
      entry K a nr args v row = absurd (grind arith)

  -- the signal that is next is due
  next-due : (K : List Event) (n : Name) (sig : ℕ) → next_signal S.killable K n ≡ Some sig → due S.killable K n sig ≡ true
  unfolding next_signal
  next-due K n sig h =
      let d = due S.killable K n in
      elim (chosen (d sigkill) d sigkill sig _ refl h) [
        | inl q ↦ q
        | inr h ↦ elim (chosen (d sigusr1) d sigusr1 sig _ refl h) [
          | inl q ↦ q
          | inr h ↦ elim (chosen (d sigusr2) d sigusr2 sig _ refl h) [
            | inl q ↦ q
            | inr h ↦ elim (chosen (d sigterm) d sigterm sig _ refl h) [ inl q ↦ q | inr h ↦ cc ]
          ]
        ]
      ]

  pub delivers-sent : (K : List Event) → IsOfKernel (system_of S) K → length K < 2 ^ 64 → Each (DeliversSent S) K
  delivers-sent = each-kernel (system_of S) (DeliversSent S) (λ K e history room row n sig effect who what.
      let r : TaskRow (system_of S) K n (Deliver sig effect) = rw (who, what) at row in
      let d = and_parts (pending K n sig) _ (next-due K n sig r.1) in
      record { sent = d.0; may_end_wait = d.1; does = r.3 })

  pub runs-natively : (K : List Event) → IsOfKernel (system_of S) K → length K < 2 ^ 64 → Each (RunsNatively S) K
  runs-natively = each-kernel (system_of S) (RunsNatively S) (λ K e history room row n a who what.
      let r : TaskRow (system_of S) K n (Native a) = rw (who, what) at row in record { owed = r.2; answer = r.3 })

  pub kernel-keeps : (K : List Event) → IsOfKernel (system_of S) K → length K < 2 ^ 64 → KernelKeeps S K
  kernel-keeps K history room =
      let T = system_of S in
      record {
        ids = call_ids T K history room;
        pids = pids_differ T K history;
        once = record { received = one_session T K history room; answered = answered_once T K history };
        installs_there = installs-there K history room;
        installs_alone = each-any (InstallsAlone S) installs_alone K;
        fails_alone = each-any (FailsAlone S) fails_alone K;
        arrives = arrives T K history room;
        checks_waiting = checks-waiting S K history room;
        sends_to_waiting = sends-to-waiting S K history room;
        puts_for_waiting = puts-for-waiting S K history room;
        takes_its_request = takes-its-request S K history room;
        returns_as_answered = returns-as-answered S K history room;
        stays = stays-in-call S K history room;
        fetches_oldest = fetches_oldest T K history room;
        finds_none = finds_none T K history room;
        receives = receives-are-for T K history room;
        opens_memory = opens_memory K history room;
        opens_base = opens_base K history room;
        reads_memory = reads_memory K history room;
        acts_on_tree = acts_on_tree K history room;
        plants_where_mapped = plants_where_mapped K history room;
        spent = spent-exactly K history room;
        past = record { actors = taken_by_its_actor T K history room; enters = enters-as_filtered K history room; delivers = delivers-sent K history room };
        passed = record { runs_natively = runs-natively K history room; acts_alone = each-any (ActsAlone S) (acts-alone S) K };
      }

  pub keeps : (K : List Event) → OfKernel S K → KernelKeeps S K
  keeps K history = kernel-keeps K history.0 history.1
