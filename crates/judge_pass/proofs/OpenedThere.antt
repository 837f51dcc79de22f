-- What a task has that has opened a number by a native call.
-- By what the kernel's step tells: the task lives, has a group, and its number is below the script's limit.
use Rattle.std.proofs.Common.{◌≡◌, ℕ, ◌%◌, ◌^◌, ◌<◌, ◌≤◌, Bool, true, false, not, ◌&&◌, List, ◌∷◌, Option, Some, None, Ok, Err, Result, refl, sym, ap, subst, ◌∙◌, arith}
use Rattle.std.specs.Prelude.{if◌then◌else◌, pos, ℤ}
use Rattle.std.specs.Result.{OkIff, result_ok}
use Rattle.std.proofs.lemmas.Result.{OkIff-at_ok}
use Rattle.hist_model.specs.Copies.{copy_of, plan}
use Rattle.hist_model.specs.Files.{files}
use Rattle.hist_model.specs.Look.{Name, task_name}
use Rattle.hist_model.specs.Memory.{all_mapped, argument, group_named, is_number, last_call, mapped_byte, own_group, sysinfo_size}
use Rattle.hist_model.specs.Natives.{base_for, base_of, call_natively, close_natively, copied_natively, Fails, Files, Gives, has_base, is_open, lowest_free, native_step, NativeStep, opened_place, Opens, request_natively, Writes}
use Rattle.hist_model.specs.Paths.{Place}
use Rattle.hist_model.specs.Requests.{base_dirfd}
use Rattle.hist_model.specs.Requests as asked
use Rattle.sys_abi.specs.Calls.{nr_close, nr_getpid, nr_sysinfo}
use Rattle.sys_abi.specs.Errnos.{efault, enosys}
use Rattle.hist_model.specs.Steps.{entered, group, number_entered, pid_named, place_or}
use Rattle.hist_model.specs.Legal.{system_of}
use Rattle.hist_model.specs.Tasks.{ended, is_made}
use Rattle.hist_model.specs.Trees.{ordinal_of}
use Rattle.hist_model.specs.declared.event.Actor.{Actor}
use Rattle.hist_model.specs.declared.event.Actor.TheVariants.{Task}
use Rattle.hist_model.specs.declared.event.Event.{Event}
use Rattle.hist_model.specs.declared.event.What.{What}
use Rattle.hist_model.specs.declared.event.What.TheVariants.{Native}
use Rattle.hist_model.specs.declared.request.NodeRef.{NodeRef}
use Rattle.hist_model.specs.declared.request.Obj.{Obj}
use Rattle.hist_model.specs.declared.request.Request.{Request}
use Rattle.hist_model.specs.declared.script.Script.{Script}
use Rattle.hist_model.proofs.Look.{oldest-some}
use Rattle.history_frames.proofs.Groups.{group-named-kept}
use Rattle.mediation.proofs.KernelRows.{kernel-row-of, TaskRow}
use Rattle.tasks.proofs.Named.{found-place, made-same-name}
use Rattle.judge_pass.specs.Opened.{HasOpened}
use Rattle.judge_pass.specs.Stands.{IsHistory}

-- ---- the number is below the limit

below-place : (free : Option ℕ) (p : Place) (n x : ℕ) → opened_place free p ≡ Opens n x → free ≡ Some n
below-place free p n x h = grind arith

below-request : (S : Script) (F : Files) (g : ℕ) (base : Option ℕ) (q : Request) (n x : ℕ) → request_natively S F g base q ≡ Opens n x → lowest_free F g S.rlimit ≡ Some n
below-request S F g base q n x h = grind (arith, below-place)

below-copied : (S : Script) (F : Files) (g : ℕ) (call : What) (texts : Result (List (List ℕ)) ℕ) (n x : ℕ) → copied_natively S F g call texts ≡ Opens n x → lowest_free F g S.rlimit ≡ Some n
below-copied S F g call (Err e) n x h = cc
below-copied S F g call (Ok texts) n x h =
    below-request S F g (base_for S F g (base_dirfd (number_entered call) (entered call))) (asked.request (number_entered call) (entered call) texts) n x h

below-close : (number : ℕ) (obj : Option Obj) (n x : ℕ) → close_natively number obj ≡ Opens n x → ⊥
below-close number None n x h = cc
below-close number (Some o) n x h = cc

-- of the calls that run natively only one whose texts are copied opens something
below-cases : {A : Type 0} (is_close is_getpid is_sysinfo is_mapped has_texts : Bool) (closed copied : NativeStep) (pid fault none n x : ℕ) → (closed ≡ Opens n x → ⊥) → (copied ≡ Opens n x → A)
    → (if is_close then closed else (if is_getpid then Gives pid else (if is_sysinfo then (if is_mapped then Writes else Fails fault) else (if has_texts then copied else Fails none)))) ≡ Opens n x → A
below-cases true b c d e closed copied pid fault none n x f g h = absurd (f h)
below-cases false true c d e closed copied pid fault none n x f g h = cc
below-cases false false true true e closed copied pid fault none n x f g h = cc
below-cases false false true false e closed copied pid fault none n x f g h = cc
below-cases false false false d true closed copied pid fault none n x f g h = g h
below-cases false false false d false closed copied pid fault none n x f g h = cc

below-call : (S : Script) (K : List Event) (F : Files) (name : Name) (g : ℕ) (call : What) (n x : ℕ) → call_natively S K F name g call ≡ Opens n x → lowest_free F g S.rlimit ≡ Some n
below-call S K F name g call n x h =
    let nr : ℤ = number_entered call in
    let low : ℕ = argument call 0 % 2 ^ 32 in
    let texts : Result (List (List ℕ)) ℕ = copy_of (mapped_byte S K g) (plan nr (entered call)) in
    below-cases (is_number nr nr_close) (is_number nr nr_getpid) (is_number nr nr_sysinfo) (all_mapped S.map (argument call 0) sysinfo_size) (has_base (base_dirfd nr (entered call)))
    (close_natively low (F.slot g low)) (copied_natively S F g call texts) (pid_named K name) efault enosys n x
    (below-close low (F.slot g low) n x) (below-copied S F g call texts n x) h

opens-below : (S : Script) (K : List Event) (F : Files) (name : Name) (n x : ℕ) → native_step S K F name ≡ Opens n x → n < S.rlimit
opens-below S K F name n x h =
    let g : ℕ = place_or (group_named K name) in
    (oldest-some (λ m. not (is_open (F.slot g m))) S.rlimit n (below-call S K F name g (last_call K name) n x h)).1

-- ---- the task lives, and has a group

not-ended : (made over : Bool) → (made && not over) ≡ true → (made ≡ true) × (over ≡ false)
not-ended true false h = (refl, refl)
not-ended true true h = cc
not-ended false over h = cc

ended-still : (e : Event) (K : List Event) (name : Name) (n : ℕ) → e.what ≡ Native (Ok n) → ended (e ∷ K) name ≡ ended K name
unfolding ended
ended-still e K name n what = rw what refl

-- what is so behind a native call of a task
record HasRun (K : List Event) (e : Event) (name : Name) : Type 0 where
  made : is_made (e ∷ K) name ≡ true
  lives : ended (e ∷ K) name ≡ false
  group : ℕ
  group_is : group_named (e ∷ K) name ≡ Some group
  own : own_group K e.who ≡ group

has-run : (S : Script) (K : List Event) (e : Event) (name : Name) (n : ℕ) → IsHistory S (e ∷ K) → e.who ≡ Task name → e.what ≡ Native (Ok n) → HasRun K e name
has-run S K e name n h who what =
    let row : TaskRow (system_of S) K name (Native (Ok n)) = rw (who, what) at (kernel-row-of (system_of S) K e h.of_kernel.0) in
    let living = not-ended (is_made K name) (ended K name) row.0 in
    let place = found-place K name living.0 in
    let named : group_named K name ≡ Some (group K place.0) = rw place.1 refl in
    record {
      made = made-same-name e K name (rw what refl) ∙ living.0;
      lives = ended-still e K name n what ∙ living.1;
      group = group K place.0;
      group_is = group-named-kept e K name (group K place.0) named;
      own = ap (own_group K) who ∙ ap place_or named;
    }

-- a native call is a task's
native-of-task : (S : Script) (K : List Event) (e : Event) (n : ℕ) → IsHistory S (e ∷ K) → e.what ≡ Native (Ok n) → (name : Name) × (e.who ≡ Task name)
native-of-task S K e n h what = by e.who refl
  where
    by : (a : Actor) → e.who ≡ a → (name : Name) × (e.who ≡ Task name)
    by (Task name) who = (name, who)
    by a who = absurd (rw (who, what) at (kernel-row-of (system_of S) K e h.of_kernel.0))

-- ---- what it has opened

pub opened_there : (S : Script) (H K : List Event) (e : Event) (name : Name) (number : ℕ) (result : Option NodeRef) → S.rlimit ≤ 4096 → IsHistory S H → H ≡ e ∷ K → e.who ≡ Task name → e.what ≡ Native (Ok number)
    → ((g : ℕ) → is_made H name ≡ true → ended H name ≡ false → group_named H name ≡ Some g → number < 2 ^ 31 → ordinal_of result ≡ base_of S (files S H) g (pos number))
    → HasOpened S K e result
opened_there S H K e name number result few h newest who what leads n x is step =
    let run = has-run S K e name number (subst (IsHistory S) newest h) who what in
    let same : Native (Ok n) ≡ Native (Ok number) = sym is ∙ what in
    let m : n ≡ number = cc in
    let low = opens-below S K (files S K) (task_name e.who) n x step in
    let there : ordinal_of result ≡ base_of S (files S (e ∷ K)) run.group (pos number) =
    subst (λ (L : List Event). (g : ℕ) → is_made L name ≡ true → ended L name ≡ false → group_named L name ≡ Some g → number < 2 ^ 31 → ordinal_of result ≡ base_of S (files S L) g (pos number)) newest leads
    run.group run.made run.lives run.group_is (omega (arith, low, few, m))
    in
    rw (run.own, m) (sym there)

pub none_opened : (S : Script) (H K : List Event) (e : Event) (result : Option NodeRef) → IsHistory S H → H ≡ e ∷ K → ((name : Name) (n : ℕ) → e.who ≡ Task name → e.what ≡ Native (Ok n) → ⊥) → HasOpened S K e result
none_opened S H K e result h newest other n x is step = let t = native-of-task S K e n (subst (IsHistory S) newest h) is in absurd (other t.0 n t.1 is)

-- ---- a number as a descriptor

pub as_descriptor : (E P : Type 0) (r : Result ℤ E) (v n : ℤ) → OkIff r P v → Some n ≡ result_ok r → n ≡ v
as_descriptor E P (Ok x) v n h q = let e : x ≡ v = (OkIff-at_ok {T = ℤ} {E = E} (Ok x) P v x h refl).1 in cc
as_descriptor E P (Err e) v n h q = cc

-- the newest event is one
pub same_newest : (H K : List Event) (e newest : Event) (older : List Event) → H ≡ e ∷ K → H ≡ newest ∷ older → newest ≡ e
same_newest H K e newest older p q = cc
