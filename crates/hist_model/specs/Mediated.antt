-- What mediation means, a section for each sentence that the README says of it: its definitions, and a record of its clauses. A clause is
-- said of each event e with the events K before it, or of a whole history (seccomp_unotify(2)).
use Rattle.std.specs.Prelude.{◌≡◌, ℕ, ◌+◌, ◌≤◌, ◌%◌, ◌^◌, Bool, true, false, ◌&&◌, ◌||◌, not, if◌then◌else◌, ◌==◌, List}
use Rattle.std.specs.Prelude.{[], ◌∷◌, length, filter}
use Rattle.std.specs.Prelude.{Option, Some, None, Result, Ok, Err, ◌⊎◌, nat_le, nat_eq, codes, ℤ}
use Rattle.std.specs.List.{list_any, starts_with}
use Rattle.hist_model.specs.Look.{Name, ev, before, event_at, is_worker, is_task, task_name}
use Rattle.hist_model.specs.Kinds.{closes, receives as is_receive, checks, is_letgo, is_good_check}
use Rattle.hist_model.specs.Kinds.{is_spent, is_accepted, is_busy, is_known_error}
use Rattle.hist_model.specs.Kinds.{returns, is_lost, ends_work, is_effect, uses_copy}
use Rattle.hist_model.specs.Calls.{listed, caller, fetched, fetches, id, is_call, calls, answers, puts_to, named, settled, waiting}
use Rattle.hist_model.specs.Sessions.{Rules, session, notif_of, reads_of, first_some, outcome_in, put_in, Acts}
use Rattle.hist_model.specs.Sessions.{Plants, Injects, addfd_of, number_of}
use Rattle.hist_model.specs.Steps.{session_call, mem, task_place, times_spent, opened, place_or, lives}
use Rattle.hist_model.specs.Steps.{notif, oldest_unfetched, owes_native, request_of}
use Rattle.hist_model.specs.Steps.{call_at, install_of, slot_answer, with_id, is_spent as has_spent}
use Rattle.hist_model.specs.Systems.{Slot}
use Rattle.hist_model.specs.Laws.{AnsweredOnce, count_below, empty_recvs, fetcher}
use Rattle.hist_model.specs.Settlers.{InstallsOwn, ResumesOwn, ReturnsInstalled}
use Rattle.hist_model.specs.Orders.{InOrder}
use Rattle.hist_model.specs.Causes.{Cause}
use Rattle.hist_model.specs.Trees.{Tree}
use Rattle.hist_model.specs.Memory.{all_mapped, bytes_read, own_group, sysinfo_size}
use Rattle.hist_model.specs.Signals.{call_of, held, is_fatal, effect_on}
use Rattle.hist_model.specs.Tasks.{holder, pending, disposition}
use Rattle.hist_model.specs.Filters.{verdict}
use Rattle.hist_model.specs.Natives.{base_of, native_step, native_answer}
use Rattle.hist_model.specs.Files.{files, request_for, slot_in}
use Rattle.hist_model.specs.Legal.{rules_of, tree, copied, is_there, outcome, is_open_session}
use Rattle.hist_model.specs.Copies.{Progress, Wants, Complete, Faulty}
use Rattle.hist_model.specs.Decisions.{cap_of, decide}
use Rattle.hist_model.specs.Requests.{request}
use Rattle.hist_model.specs.ReportAudit.{audit_of, judging_by, judged_as, finding_of, session_at}
use Rattle.hist_model.specs.declared.event.Back.{Back}
use Rattle.hist_model.specs.declared.event.Delivered.{Delivered}
use Rattle.hist_model.specs.declared.event.Entered.{Entered}
use Rattle.hist_model.specs.declared.event.Event.{Event}
use Rattle.hist_model.specs.declared.event.Actor.{Actor}
use Rattle.hist_model.specs.declared.event.Actor.TheVariants.{Start, Worker, Task, Listener}
use Rattle.hist_model.specs.declared.event.What.{What}
use Rattle.hist_model.specs.declared.event.What.TheVariants.{Spawn, Poke, Handler, Enter, Native, Install, Resume}
use Rattle.hist_model.specs.declared.event.What.TheVariants.{Signal, Deliver, Reap, Exit}
use Rattle.hist_model.specs.declared.event.What.TheVariants.{Recv, OpenMem, OpenBase, Check, Read, Act, Plant}
use Rattle.hist_model.specs.declared.event.What.TheVariants.{AddfdPut, AddfdTake, Send, LetGo}
use Rattle.hist_model.specs.declared.event.What.TheVariants.{Skip, Close}
use Rattle.hist_model.specs.declared.policy.Policy.{Policy}
use Rattle.hist_model.specs.declared.policy.Verdict.TheVariants.{Grant}
use Rattle.hist_model.specs.declared.policy.Cap.{Cap}
use Rattle.hist_model.specs.declared.report.Finding.{Finding}
use Rattle.hist_model.specs.declared.report.Finding.TheVariants.{Fault}
use Rattle.hist_model.specs.declared.request.Node.{Node}
use Rattle.hist_model.specs.declared.request.Node.TheVariants.{Chr, Blk}
use Rattle.hist_model.specs.declared.request.Obj.{Obj}
use Rattle.hist_model.specs.declared.request.Obj.TheVariants.{Broker}
use Rattle.hist_model.specs.declared.request.Request.{Request}
use Rattle.hist_model.specs.declared.script.Script.{Script}
use Rattle.hist_model.specs.declared.tree.NodeRow.{NodeRow}
use Rattle.hist_model.specs.declared.tree.AttrRow.{AttrRow}
use Rattle.sys_abi.specs.Errnos.{enoent, esrch, ebadf, efault, edquot}
use Rattle.sys_abi.specs.declared.wire.Addfd.{Addfd}
use Rattle.sys_abi.specs.declared.wire.Notif.{Notif}

-- of each event with those before it
abbrev pub Each : (List Event → Event → Type 0) → List Event → Type 0
Each P [] = Unit {0}
Each P (e ∷ K) = P K e × Each P K

-- ---- Each notification is received and answered at most once

-- how many receives fetched a call
unfoldable pub fetches_of : List Event → ℕ → ℕ
fetches_of [] c = 0
fetches_of (e ∷ K) c = fetches_of K c + (if fetches e.what (id K c) && listed K c then 1 else 0)

-- a call has at most one session
abbrev pub OneSession : List Event → Type 0
OneSession K = (c : ℕ) → fetches_of K c ≤ 1

pub record ReceivedAndAnsweredOnce (K : List Event) : Type 0 where
  pub received : OneSession K
  pub answered : AnsweredOnce K

-- ---- Each reply or descriptor reaches the waiting call that it was meant for, or nobody

-- what was accepted is a worker's, for the call of its own session
pub record IsForOwnCall (K : List Event) (e : Event) : Type 0 where
  pub worker : ℕ
  pub call : ℕ
  pub taken_by : e.who ≡ Worker worker
  pub of_call : session_call K worker ≡ Some call
  pub names : (puts_to K e.what call || answers K e.what call) ≡ true

abbrev pub NamesOwn : List Event → Event → Type 0
NamesOwn K e = is_accepted e.what ≡ true → IsForOwnCall K e

-- nobody is answered that a call is busy or was answered before
abbrev pub NeverBusy : List Event → Event → Type 0
NeverBusy K e = is_busy e.what ≡ false

-- a worker's check, answer, put and take have no errors but those of a call that is gone, and of a descriptor that can't be installed
abbrev pub ErrorsKnown : List Event → Event → Type 0
ErrorsKnown K e = is_known_error e.what ≡ true

-- where the request that a task installs next goes in the task's table: to the number that it names, else to the lowest free one
abbrev pub slot_next : Script → List Event → Actor → Slot
slot_next S K a = slot_in S.rlimit (files S K) (own_group K a) (request_for K (call_of K (task_name a)))

-- an installation answers the number where its request goes in the table before it, or why there is none
abbrev pub InstallsThere : Script → List Event → Event → Type 0
InstallsThere S K e = (x : Result ℕ ℕ) → e.what ≡ Install x → x ≡ slot_answer (slot_next S K e.who)

-- the file of the request that a task installs next
abbrev pub file_next : List Event → Actor → Obj
file_next K a = Broker (request_for K (call_of K (task_name a))).srcfd

-- one that gave a number puts its request's file there, and leaves every other slot of every group as it was
abbrev pub InstallsAlone : Script → List Event → Event → Type 0
InstallsAlone S K e = (m : ℕ) → e.what ≡ Install (Ok m) → (f j : ℕ)
    → (files S (e ∷ K)).slot f j ≡ (if (f == own_group K e.who) && (j == m) then Some (file_next K e.who) else (files S K).slot f j)

-- one that failed leaves every slot as it was
abbrev pub FailsAlone : Script → List Event → Event → Type 0
FailsAlone S K e = (x : ℕ) → e.what ≡ Install (Err x) → (f j : ℕ) → (files S (e ∷ K)).slot f j ≡ (files S K).slot f j

-- the step returns the call to its task, or closes the listener
abbrev pub is_arrival : List Event → Event → ℕ → Bool
is_arrival K e c = closes e.what || (returns e.what && is_task e.who (caller K c))

-- a settled call leaves the list by its return, or by the close, alone: what was accepted for it arrives
abbrev pub Arrives : List Event → Event → Type 0
Arrives K e = (c : ℕ) → settled K c ≡ true → listed K c ≡ true → listed (e ∷ K) c ≡ false → is_arrival K e c ≡ true

pub record ReachesItsCall (S : Script) (K : List Event) : Type 0 where
  -- what a worker sends or puts is for the call of its own session
  pub own : Each NamesOwn K
  pub never_busy : Each NeverBusy K
  pub errors : Each ErrorsKnown K
  -- a descriptor is installed for a request of the call's session, where the request says, and there alone
  pub installs : Each InstallsOwn K
  pub installs_there : Each (InstallsThere S) K
  pub installs_alone : Each (InstallsAlone S) K
  pub fails_alone : Each (FailsAlone S) K
  -- a call returns what its session sent, or the number that was installed for it
  pub resumes : Each ResumesOwn K
  pub returns_installed : Each ReturnsInstalled K
  pub arrives : Each Arrives K

-- ---- Each effect is what the policy grants on one copy of its call's arguments, found valid afterwards

-- the prefix ends no later than with the second good check of the worker's session
abbrev pub ends_with_check : List Event → ℕ → Bool
ends_with_check [] w = false
ends_with_check (e ∷ K) w = checks e.what && is_worker e.who w

abbrev pub is_until_checked : List Event → ℕ → Bool
is_until_checked K w = nat_le (number_of is_good_check (session K w)) 1 || ends_with_check K w

-- the session's call waited in every prefix from its receive to its second good check
abbrev pub WaitedUntilChecked : List Event → ℕ → ℕ → Type 0
WaitedUntilChecked K w c = (p : ℕ) → p ≤ length K → session_call (before K p) w ≡ Some c
    → is_until_checked (before K p) w ≡ true → waiting (before K p) c ≡ true

-- the memory that the worker has opened is that of the group of the call's task
pub record HasMemory (K : List Event) (w c : ℕ) : Type 0 where
  pub group : ℕ
  pub opened_is : mem K w ≡ Some group
  pub of_caller : opened K (task_place K (caller K c)) ≡ Some group

-- a read is of the memory of the call's task, at the address and of the length of the piece that the plan of its arguments wants next
pub record ReadsNextPiece (R : Rules) (K : List Event) (w addr len : ℕ) : Type 0 where
  pub call : ℕ
  pub received : Notif
  pub of_call : session_call K w ≡ Some call
  pub notif_is : notif_of (session K w) ≡ Some received
  pub of_notif : received ≡ notif K call
  pub memory : HasMemory K w call
  pub piece : R.next_piece received (reads_of (session K w)) ≡ Some (addr, len)

abbrev pub ReadsOwn : Rules → List Event → Event → Type 0
ReadsOwn R K e = (w addr len : ℕ) (a : Result (List ℕ) ℕ) → e.who ≡ Worker w → e.what ≡ Read addr len a → ReadsNextPiece R K w addr len

-- the session's base was opened at this place: the open directory that was then in the slot that the call names of the caller's group,
-- or the container's root
pub record OpenedBase (S : Script) (K : List Event) (w c : ℕ) (n : Notif) (dirfd : ℤ) : Type 0 where
  pub place : ℕ
  pub group : ℕ
  pub opening : event_at K place ≡ Some (ev (Worker w) (OpenBase n.pid dirfd (Ok tt)))
  pub in_session : session_call (before K place) w ≡ Some c
  pub of_caller : opened K (task_place K (caller K c)) ≡ Some group
  pub is_base : (files S K).base w ≡ base_of S (files S (before K place)) group dirfd

-- the session has no base: at this place it opened the one that the call names, and was answered that there is no such open directory
pub record RefusedBase (S : Script) (K : List Event) (w c : ℕ) (n : Notif) (dirfd : ℤ) : Type 0 where
  pub place : ℕ
  pub opening : event_at K place ≡ Some (ev (Worker w) (OpenBase n.pid dirfd (Err ebadf)))
  pub in_session : session_call (before K place) w ≡ Some c
  pub no_base : (files S K).base w ≡ None

-- the base from which a session's effect goes: none where its call names none; else the one that the session opened
abbrev pub BaseIs : Script → List Event → ℕ → ℕ → Notif → Option ℤ → Type 0
BaseIs S K w c n None = (files S K).base w ≡ None
BaseIs S K w c n (Some dirfd) = RefusedBase S K w c n dirfd ⊎ OpenedBase S K w c n dirfd

-- what holds of an effect of a worker's session: of its call, its copy, its memory and the order of its steps
pub record IsMediated (R : Rules) (K : List Event) (w c : ℕ) (n : Notif) : Type 0 where
  pub of_call : session_call K w ≡ Some c
  pub fetched_by : fetcher K c ≡ Some w
  pub notif_is : notif_of (session K w) ≡ Some n
  pub of_notif : n ≡ notif K c
  pub whole : R.next_piece n (reads_of (session K w)) ≡ None
  pub no_fault : R.fault n (reads_of (session K w)) ≡ None
  pub checked : number_of is_good_check (session K w) ≡ 2
  pub waited : WaitedUntilChecked K w c
  pub memory : HasMemory K w c

-- an act is what the deciding rule grants, with its cap, from the base of the call's task, and the session's first
pub record IsGrantedAct (R : Rules) (S : Script) (K : List Event) (w : ℕ) (q : Request) (cap : Option Cap) : Type 0 where
  pub call : ℕ
  pub received : Notif
  pub mediated : IsMediated R K w call received
  pub granted : R.decide received (reads_of (session K w)) ≡ Acts q cap
  pub is_first : first_some outcome_in (session K w) ≡ None
  pub from_base : BaseIs S K w call received (R.dirfd received)

abbrev pub ActIsGranted : Policy → Script → List Event → Event → Type 0
ActIsGranted P S K e = (w : ℕ) (q : Request) (cap : Option Cap) (a : Result (Unit {0}) ℕ) → e.who ≡ Worker w → e.what ≡ Act q cap a
    → IsGrantedAct (rules_of P S.figures) S K w q cap

-- and so is what is written as the answer of sysinfo
pub record IsGrantedPlant (R : Rules) (K : List Event) (w addr : ℕ) (bytes : List ℕ) (cap : Option Cap) : Type 0 where
  pub call : ℕ
  pub received : Notif
  pub mediated : IsMediated R K w call received
  pub granted : R.decide received (reads_of (session K w)) ≡ Plants addr bytes cap
  pub is_first : first_some outcome_in (session K w) ≡ None

abbrev pub PlantIsGranted : Policy → Script → List Event → Event → Type 0
PlantIsGranted P S K e = (w addr : ℕ) (bytes : List ℕ) (cap : Option Cap) (a : Result (Unit {0}) ℕ) → e.who ≡ Worker w
    → e.what ≡ Plant addr bytes cap a → IsGrantedPlant (rules_of P S.figures) K w addr bytes cap

-- a request for a descriptor is what the deciding rule injects, and the session's first
pub record IsInjectedPut (R : Rules) (K : List Event) (w : ℕ) (q : Addfd) : Type 0 where
  pub call : ℕ
  pub received : Notif
  pub src : ℕ
  pub number : Option ℕ
  pub flags : ℕ
  pub mediated : IsMediated R K w call received
  pub injected : R.decide received (reads_of (session K w)) ≡ Injects src number flags
  pub asked : q ≡ addfd_of received.id src number flags
  pub is_first : first_some put_in (session K w) ≡ None

abbrev pub PutIsInjected : Policy → Script → List Event → Event → Type 0
PutIsInjected P S K e = (w : ℕ) (q : Addfd) (a : Result (Unit {0}) ℕ) → e.who ≡ Worker w → e.what ≡ AddfdPut q a
    → IsInjectedPut (rules_of P S.figures) K w q

-- of the effects under the cap of a rule with times n at most n were done
abbrev pub TimesKept : Policy → List Event → Type 0
TimesKept P K = (i : ℕ) (cap : Cap) → cap_of P.rules i ≡ Some cap → times_spent K i ≤ cap.times

-- the cap of an effect
abbrev pub cap_in : What → Option Cap
cap_in (Act q cap a) = cap
cap_in (Plant x b cap a) = cap
cap_in _ = None

-- an effect answers EDQUOT exactly where as many effects under its cap were done before it as may be
abbrev pub SpentExactly : List Event → Event → Type 0
SpentExactly K e = is_spent e.what ≡ has_spent K (cap_in e.what)

-- with each step of a worker the steps of its session stand in order: openings, a good check, reads, a good check, uses
abbrev pub KeepsOrder : List Event → Event → Type 0
KeepsOrder K e = (w : ℕ) → e.who ≡ Worker w → InOrder (session (e ∷ K) w)

pub record EffectsAreGranted (P : Policy) (S : Script) (K : List Event) : Type 0 where
  -- one copy of the arguments, read between two good checks
  pub reads : Each (ReadsOwn (rules_of P S.figures)) K
  pub ordered : Each KeepsOrder K
  -- what is done is what the rule grants for this copy
  pub acts : Each (ActIsGranted P S) K
  pub plants : Each (PlantIsGranted P S) K
  pub puts : Each (PutIsInjected P S) K
  -- and no more often than it may
  pub times : TimesKept P K
  pub spent : Each SpentExactly K

-- ---- Each answer has its cause, and each denial names its rule

-- what holds of an answer to a notification: it is its session's, stands after two good checks, and carries what the one whole copy
-- and the policy make of it
pub record IsCaused (R : Rules) (K : List Event) (w x : ℕ) (b : Back) : Type 0 where
  pub call : ℕ
  pub received : Notif
  pub of_call : session_call K w ≡ Some call
  pub notif_is : notif_of (session K w) ≡ Some received
  pub of_notif : received ≡ notif K call
  pub id_is : x ≡ received.id
  pub checked : number_of is_good_check (session K w) ≡ 2
  pub whole : R.next_piece received (reads_of (session K w)) ≡ None
  pub cause : Cause R (session K w) received b

abbrev pub HasCause : Rules → List Event → Event → Type 0
HasCause R K e = (w x : ℕ) (b : Back) (a : Result (Unit {0}) ℕ) → e.who ≡ Worker w → e.what ≡ Send x b a → IsCaused R K w x b

-- what an audit finds of a session with these steps by a whole copy of these texts: the rule that decided and its verdict, or, of a rule
-- that grants, that its times were spent
pub record FindsRule (P : Policy) (own : List What) (n : Notif) (found : Finding) (texts : List (List ℕ)) : Type 0 where
  pub finding : found ≡ finding_of (judged_as (decide P.rules (request n.call.nr n.call.args texts))) (list_any is_spent own)
  pub grants : list_any is_spent own ≡ true → (decide P.rules (request n.call.nr n.call.args texts)).1 ≡ Grant

-- what it finds by how far the copy is: there is no use without a whole copy, and a copy may be at fault
abbrev pub Finds : Policy → List What → Notif → Finding → Progress → Type 0
Finds P own n found (Wants a l) = ⊥
Finds P own n found (Faulty e) = found ≡ Fault
Finds P own n found (Complete texts) = FindsRule P own n found texts

-- what holds of a use of the copy: the session has its line in the audit, which stands where it received, and names by the copy
-- what decided
pub record IsAudited (P : Policy) (H : List Event) (s w : ℕ) (what : What) (n : Notif) : Type 0 where
  pub place : ℕ
  pub receive : event_at H place ≡ Some (ev (Worker w) (Recv (Ok n)))
  pub is_session : session_at w place (before H s) ≡ session (before H s) w
  pub finds : Finds P (what ∷ session (before H s) w) n (audit_of (judging_by P.rules) H (before H place) w n).finding
      (copied n (reads_of (session (before H s) w)))

-- the audit of each session that used its copy: for an act, for what is written as an answer, for a request for a descriptor, or for
-- its answer
abbrev pub AuditNames : Policy → List Event → Type 0
AuditNames P H = (s w : ℕ) (what : What) (n : Notif) → event_at H s ≡ Some (ev (Worker w) what) → uses_copy what ≡ true
    → notif_of (session (before H s) w) ≡ Some n → IsAudited P H s w what n

-- the session's last step is one that ends its work
abbrev pub has_ended : List What → Bool
has_ended [] = false
has_ended (a ∷ own) = ends_work a

-- a worker lets go only right after such a step
abbrev pub LetsGoAtEnd : List Event → Event → Type 0
LetsGoAtEnd K e = (w : ℕ) → e.who ≡ Worker w → is_letgo e.what ≡ true → has_ended (session K w) ≡ true

-- and receives only where it has let go, or has had no session
abbrev pub ReceivesIdle : List Event → Event → Type 0
ReceivesIdle K e = (w : ℕ) → e.who ≡ Worker w → is_receive e.what ≡ true → is_open_session (session K w) ≡ false

pub record AnswersHaveCauses (P : Policy) (S : Script) (K : List Event) : Type 0 where
  pub cause : Each (HasCause (rules_of P S.figures)) K
  pub audit : AuditNames P K
  -- a session ends by its answer, or because its call is gone
  pub lets_go : Each LetsGoAtEnd K
  pub receives_idle : Each ReceivesIdle K

-- ---- What a worker is told is so

-- a receive that gives a notification gives that of the oldest call that nobody has fetched, whole, and its id names this call
pub record IsOldestUnfetched (K : List Event) (n : Notif) : Type 0 where
  pub call : ℕ
  pub oldest : oldest_unfetched K ≡ Some call
  pub whole : n ≡ notif K call
  pub named_by : named K n.id ≡ Some call

abbrev pub FetchesOldest : List Event → Event → Type 0
FetchesOldest K e = (n : Notif) → e.what ≡ Recv (Ok n) → IsOldestUnfetched K n

-- one that finds nothing answers ENOENT, and there is no such call
pub record IsEmptyReceive (K : List Event) (x : ℕ) : Type 0 where
  pub none : oldest_unfetched K ≡ None
  pub answer : x ≡ enoent

abbrev pub FindsNone : List Event → Event → Type 0
FindsNone K e = (x : ℕ) → e.what ≡ Recv (Err x) → IsEmptyReceive K x

-- the receives that found nothing are at most as many as the calls that left the list unfetched
abbrev pub left_unfetched : List Event → ℕ
left_unfetched K = count_below (λ c. is_call K c && (not (listed K c) && not (fetched K c))) (length K)

abbrev pub ReceivesFor : List Event → Event → Type 0
ReceivesFor K e = empty_recvs (e ∷ K) ≤ left_unfetched (e ∷ K)

-- an opening of a memory answers ESRCH exactly where no living task holds the PID
abbrev pub OpensMemory : List Event → Event → Type 0
OpensMemory K e = (w p : ℕ) (a : Result (Unit {0}) ℕ) → e.who ≡ Worker w → e.what ≡ OpenMem p a
    → a ≡ (if lives K (holder K p) then Ok tt else Err esrch)

-- so does that of a base, which is then the container's root or an open directory of the task's group, else EBADF
abbrev pub base_there : Script → List Event → ℕ → ℤ → Bool
base_there S K p d = is_there (base_of S (files S K) (place_or (opened K (holder K p))) d)

abbrev pub OpensBase : Script → List Event → Event → Type 0
OpensBase S K e = (w p : ℕ) (d : ℤ) (a : Result (Unit {0}) ℕ) → e.who ≡ Worker w → e.what ≡ OpenBase p d a
    → a ≡ (if lives K (holder K p) then (if base_there S K p d then Ok tt else Err ebadf) else Err esrch)

-- a check names the id of its session's call, and answers ENOENT exactly where that call isn't listed; where it is, it waits
pub record IsOwnCheck (K : List Event) (w x : ℕ) (a : Result (Unit {0}) ℕ) : Type 0 where
  pub call : ℕ
  pub of_call : session_call K w ≡ Some call
  pub id_is : x ≡ id K call
  pub answer : a ≡ (if listed K call then Ok tt else Err enoent)
  pub waits : listed K call ≡ true → waiting K call ≡ true

abbrev pub ChecksOwn : List Event → Event → Type 0
ChecksOwn K e = (w x : ℕ) (a : Result (Unit {0}) ℕ) → e.who ≡ Worker w → e.what ≡ Check x a → IsOwnCheck K w x a

-- a read answers what the memory that its session has opened holds at that moment
abbrev pub ReadsMemory : Script → List Event → Event → Type 0
ReadsMemory S K e = (w addr len g : ℕ) (a : Result (List ℕ) ℕ) → e.who ≡ Worker w → e.what ≡ Read addr len a → mem K w ≡ Some g
    → a ≡ bytes_read S K g addr len

-- an act answers what its walk and the tree give, unless its rule's times are spent
abbrev pub ActsOnTree : Script → List Event → Event → Type 0
ActsOnTree S K e = (w : ℕ) (q : Request) (cap : Option Cap) (a : Result (Unit {0}) ℕ) → e.who ≡ Worker w → e.what ≡ Act q cap a
    → a ≡ (if has_spent K cap then Err edquot else outcome S (files S K) w q)

-- and the answer of sysinfo is written exactly where all of it is mapped
abbrev pub PlantsWhereMapped : Script → List Event → Event → Type 0
PlantsWhereMapped S K e = (w addr : ℕ) (bytes : List ℕ) (cap : Option Cap) (a : Result (Unit {0}) ℕ) → e.who ≡ Worker w
    → e.what ≡ Plant addr bytes cap a
    → a ≡ (if has_spent K cap then Err edquot else (if all_mapped S.map addr sysinfo_size then Ok tt else Err efault))

-- a request for a descriptor answers EBADF exactly where that isn't open in the broker, else ENOENT exactly where the session's call
-- isn't listed
pub record IsOwnPut (S : Script) (K : List Event) (w : ℕ) (q : Addfd) (a : Result (Unit {0}) ℕ) : Type 0 where
  pub call : ℕ
  pub of_call : session_call K w ≡ Some call
  pub answer : a ≡ (if list_any (λ m. m == q.srcfd) S.broker then (if listed K call then Ok tt else Err enoent) else Err ebadf)

abbrev pub PutsOpen : Script → List Event → Event → Type 0
PutsOpen S K e = (w : ℕ) (q : Addfd) (a : Result (Unit {0}) ℕ) → e.who ≡ Worker w → e.what ≡ AddfdPut q a → IsOwnPut S K w q a

-- a request that has no installation, of a call that left the list
pub record IsGoneRequest (K : List Event) (c r : ℕ) : Type 0 where
  pub not_installed : install_of K r ≡ None
  pub not_listed : listed K c ≡ false

-- a take is of a request that was put for the session's call, and answers what its installation did; ENOENT where it has none, and the
-- call isn't listed
pub record IsOwnTake (K : List Event) (w : ℕ) (a : Result ℕ ℕ) : Type 0 where
  pub call : ℕ
  pub request : ℕ
  pub of_call : session_call K w ≡ Some call
  pub put_by : request_of K w ≡ Some request
  pub for_call : call_at K request ≡ Some call
  pub answer : (install_of K request ≡ Some a) ⊎ (IsGoneRequest K call request × (a ≡ Err enoent))

abbrev pub TakesInstalled : List Event → Event → Type 0
TakesInstalled K e = (w : ℕ) (a : Result ℕ ℕ) → e.who ≡ Worker w → e.what ≡ AddfdTake a → IsOwnTake K w a

-- the worker's session has a call, which isn't listed
pub record IsGone (K : List Event) (w : ℕ) : Type 0 where
  pub call : ℕ
  pub of_call : session_call K w ≡ Some call
  pub not_listed : listed K call ≡ false

-- a worker is told that its call or its task is gone only where that is so
abbrev pub LostIfGone : List Event → Event → Type 0
LostIfGone K e = (w : ℕ) → e.who ≡ Worker w → is_lost e.what ≡ true → IsGone K w

pub record ToldTruly (S : Script) (K : List Event) : Type 0 where
  -- of what it receives
  pub fetches_oldest : Each FetchesOldest K
  pub finds_none : Each FindsNone K
  pub receives : Each ReceivesFor K
  -- of what it opens and reads, and whether the call waits
  pub opens_memory : Each OpensMemory K
  pub opens_base : Each (OpensBase S) K
  pub checks_own : Each ChecksOwn K
  pub reads_memory : Each (ReadsMemory S) K
  -- of what it does
  pub acts_on_tree : Each (ActsOnTree S) K
  pub plants_where_mapped : Each (PlantsWhereMapped S) K
  pub puts_open : Each (PutsOpen S) K
  pub takes_installed : Each TakesInstalled K
  -- and that its call is gone
  pub lost : Each LostIfGone K

-- ---- Nothing goes past the broker

-- the step is one that such an actor takes
abbrev pub takes : Actor → What → Bool
takes Start (Spawn n a) = true
takes (Task m) (Spawn n a) = true
takes (Task m) (Poke x b) = true
takes (Task m) (Handler s disposition) = true
takes (Task m) (Enter nr args v) = true
takes (Task m) (Native a) = true
takes (Task m) (Install a) = true
takes (Task m) (Resume b) = true
takes (Task m) (Signal p s a) = true
takes (Task m) (Deliver s effect) = true
takes (Task m) (Reap a) = true
takes (Task m) Exit = true
takes (Task m) Skip = true
takes (Worker w) (Recv a) = true
takes (Worker w) (OpenMem p a) = true
takes (Worker w) (OpenBase p d a) = true
takes (Worker w) (Check x a) = true
takes (Worker w) (Read x l a) = true
takes (Worker w) (Act q cap a) = true
takes (Worker w) (Plant x b cap a) = true
takes (Worker w) (AddfdPut q a) = true
takes (Worker w) (AddfdTake a) = true
takes (Worker w) (Send x b a) = true
takes (Worker w) LetGo = true
takes (Worker w) Skip = true
takes Listener Close = true
takes _ _ = false

-- so what is said here of a kind of step and its actor is said of each step of that kind
abbrev pub TakenByItsActor : List Event → Event → Type 0
TakenByItsActor K e = takes e.who e.what ≡ true

-- a call enters with the verdict that the filters give of its number and arguments, and with the next id where that notifies
abbrev pub EntersAsFiltered : Script → List Event → Event → Type 0
EntersAsFiltered S K e = (nr : ℤ) (args : List ℕ) (v : Entered) → e.what ≡ Enter nr args v
    → v ≡ with_id (verdict S.filters nr args) ((S.firstid + calls K) % 2 ^ 64)

-- a signal that is delivered to a task was sent to it and not delivered since, may end its wait, and does what its disposition says
pub record IsDueSignal (S : Script) (K : List Event) (n : Name) (sig : ℕ) (effect : Delivered) : Type 0 where
  pub sent : pending K n sig ≡ true
  pub may_end_wait : (not (held S.killable K n) || is_fatal K n sig) ≡ true
  pub does : effect ≡ effect_on (call_of K n) sig (disposition K n sig)

abbrev pub DeliversSent : Script → List Event → Event → Type 0
DeliversSent S K e = (n : Name) (sig : ℕ) (effect : Delivered) → e.who ≡ Task n → e.what ≡ Deliver sig effect → IsDueSignal S K n sig effect

pub record NothingGoesPast (S : Script) (K : List Event) : Type 0 where
  pub actors : Each TakenByItsActor K
  pub enters : Each (EntersAsFiltered S) K
  pub delivers : Each (DeliversSent S) K

-- ---- A passed call runs without the broker's rights

abbrev pub is_device_node : Node → Bool
is_device_node (Chr major minor) = true
is_device_node (Blk major minor) = true
is_device_node _ = false

abbrev pub is_device_row : NodeRow → Bool
is_device_row row = is_device_node row.node

abbrev pub is_others_row : AttrRow → Bool
is_others_row row = not (starts_with nat_eq row.name (codes "user."))

-- the devices, the mounts, and the attributes whose names don't begin with user. stay
pub record KeepsPrivileged (T U : Tree) : Type 0 where
  pub devices : filter is_device_row U.nodes ≡ filter is_device_row T.nodes
  pub mounts : U.mounts ≡ T.mounts
  pub attributes : filter is_others_row U.attrs ≡ filter is_others_row T.attrs

-- they stay at each event but an act
abbrev pub ActsAlone : Script → List Event → Event → Type 0
ActsAlone S K e = is_effect e.what ≡ false → KeepsPrivileged (tree S K) (tree S (e ∷ K))

-- a native call is one that its task owes, and is answered as a call without rights
pub record IsUnprivileged (S : Script) (K : List Event) (n : Name) (a : Result ℕ ℕ) : Type 0 where
  pub owed : owes_native K n ≡ true
  pub answer : a ≡ native_answer (native_step S K (files S K) n)

abbrev pub RunsNatively : Script → List Event → Event → Type 0
RunsNatively S K e = (n : Name) (a : Result ℕ ℕ) → e.who ≡ Task n → e.what ≡ Native a → IsUnprivileged S K n a

pub record PassedWithoutRights (S : Script) (K : List Event) : Type 0 where
  pub runs_natively : Each (RunsNatively S) K
  pub acts_alone : Each (ActsAlone S) K

-- ---- All of it

pub record Mediated (P : Policy) (S : Script) (K : List Event) : Type 0 where
  -- each notification is received and answered at most once
  pub once : ReceivedAndAnsweredOnce K
  -- each reply or descriptor reaches the waiting call that it was meant for, or nobody
  pub reaches : ReachesItsCall S K
  -- each effect is what the policy grants on one copy of its call's arguments, found valid afterwards
  pub effects : EffectsAreGranted P S K
  -- each answer has its cause, and each denial names its rule
  pub answers : AnswersHaveCauses P S K
  -- what a worker is told is so
  pub told : ToldTruly S K
  -- nothing goes past the broker
  pub past : NothingGoesPast S K
  -- a passed call runs without the broker's rights
  pub passed : PassedWithoutRights S K
