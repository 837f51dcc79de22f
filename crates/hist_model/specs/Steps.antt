-- The one step of an actor after a history, and legal histories.
use Rattle.std.specs.Prelude.{◌≡◌, ℕ, ◌+◌, ◌-◌, ◌%◌, ◌^◌, Bool, true, false, ◌&&◌, not, if◌then◌else◌, ◌==◌, List, [], ◌∷◌, ◌++◌, length}
use Rattle.std.specs.Prelude.{slice_get, replicate, nat_le, Option, Some, None, Result, Ok, Err, pos, ℤ}
use Rattle.hist_model.specs.Look.{Name, ev, name_eq, is_task, is_worker, task_name, oldest, event_at}
use Rattle.hist_model.specs.Names.{is_task_name}
use Rattle.hist_model.specs.Kinds.{makes, closes, has_send_flag, skips, owes, shares_now}
use Rattle.hist_model.specs.Tasks.{ended, reaped, holder, next_pid, alive, disposition, name_of, has_parent, parent, pid_of}
use Rattle.hist_model.specs.Signals.{call_of, next_signal, effect_in_call, effect_outside}
use Rattle.hist_model.specs.Calls.{listed, caller, id, named, fetched, settled, settles, waiting, calls, count, queue, installs_for}
use Rattle.hist_model.specs.Deeds.{Deed}
use Rattle.hist_model.specs.Sessions.{session, deed, Rules}
use Rattle.hist_model.specs.Systems.{System, Slot, Number, Full, Over}
use Rattle.hist_model.specs.declared.event.Event.{Event}
use Rattle.hist_model.specs.declared.event.Actor.{Actor}
use Rattle.hist_model.specs.declared.event.Actor.TheVariants.{Start, Task, Worker, Listener}
use Rattle.hist_model.specs.declared.event.What.{What}
use Rattle.hist_model.specs.declared.event.What.TheVariants.{Spawn, Enter, Resume, Signal, Deliver, Reap, Exit, Recv, OpenMem, Check}
use Rattle.hist_model.specs.declared.event.What.TheVariants.{Send, LetGo, Skip, Close, Handler, Poke, Native, Install, OpenBase, Read}
use Rattle.hist_model.specs.declared.event.What.TheVariants.{Act, Plant, AddfdPut, AddfdTake}
use Rattle.hist_model.specs.declared.event.SpawnKind.{SpawnKind}
use Rattle.hist_model.specs.declared.event.SpawnKind.TheVariants.{New, Copied, Shared}
use Rattle.hist_model.specs.declared.event.Entered.{Entered}
use Rattle.hist_model.specs.declared.event.Entered.TheVariants.{Notify}
use Rattle.hist_model.specs.declared.event.Back.{Back}
use Rattle.hist_model.specs.declared.event.Back.TheVariants.{Continue, Value}
use Rattle.hist_model.specs.declared.event.Delivered.{Delivered}
use Rattle.hist_model.specs.declared.event.Delivered.TheVariants.{Restart}
use Rattle.hist_model.specs.declared.script.Instr.{Instr}
use Rattle.hist_model.specs.declared.script.Instr.TheVariants.{Poke as IPoke, Fill as IFill, Call as ICall}
use Rattle.hist_model.specs.declared.script.Instr.TheVariants.{Spawn as ISpawn, Thread as IThread}
use Rattle.hist_model.specs.declared.script.Instr.TheVariants.{Kill as IKill, Handler as IHandler, Wait as IWait, Exit as IExit}
use Rattle.hist_model.specs.declared.script.Whom.{Whom}
use Rattle.hist_model.specs.declared.script.Whom.TheVariants.{Own, Parent, Child, Pid}
use Rattle.hist_model.specs.declared.policy.Cap.{Cap}
use Rattle.sys_abi.specs.Errnos.{enoent, esrch, ebadf, echild, eagain, efault, ebusy, emfile, einprogress, edquot}
use Rattle.sys_abi.specs.declared.wire.Notif.{Notif}
use Rattle.sys_abi.specs.declared.wire.Addfd.{Addfd}

-- the answer of a spawn
abbrev pub spawn_answer : Option ℕ → SpawnKind → Result (ℕ × SpawnKind) ℕ
spawn_answer None kind = Err eagain
spawn_answer (Some p) kind = Ok (p, kind)

abbrev pub found : Option ℕ → Result (Unit {0}) ℕ
found None = Err esrch
found (Some t) = Ok tt

-- the event makes a task
abbrev pub makes_in : Option Event → Bool
makes_in (Some e) = makes e.what
makes_in None = false

-- the name that the event at a place was to give is that of a child of the task, and of one that has ended; neither is reaped
abbrev pub names_child : List Event → Name → ℕ → Bool
names_child K n t = has_parent (name_of K t) && (name_eq (parent (name_of K t)) n && not (reaped K (name_of K t)))

abbrev pub names_ended_child : List Event → Name → ℕ → Bool
names_ended_child K n t =
    has_parent (name_of K t) && (name_eq (parent (name_of K t)) n && (ended K (name_of K t) && not (reaped K (name_of K t))))

-- a child of the task that is not reaped, and one that has ended too; a spawn that was refused made none
abbrev pub is_child : List Event → Name → ℕ → Bool
is_child K n t = makes_in (event_at K t) && names_child K n t

abbrev pub is_ended_child : List Event → Name → ℕ → Bool
is_ended_child K n t = makes_in (event_at K t) && names_ended_child K n t

-- the step of a wait: a child, an error, or none
abbrev pub wait_step : List Event → Option ℕ → Option ℕ → What
wait_step K None ended = Reap (Err echild)
wait_step K (Some child) None = Skip
wait_step K (Some child) (Some t) = Reap (Ok (name_of K t))

-- the number of a task's steps of its program, and of its spawns
abbrev pub counts : What → ℕ
counts (Spawn n a) = 1
counts (Poke a b) = 1
counts (Handler s m) = 1
counts (Enter nr args v) = 1
counts (Signal p s a) = 1
counts (Reap a) = 1
counts _ = 0

abbrev pub recounts : What → ℕ
recounts (Deliver s Restart) = 1
recounts _ = 0

unfoldable pub steps_of : (What → ℕ) → List Event → Name → ℕ
steps_of f [] n = 0
steps_of f (e ∷ K) n = steps_of f K n + (if is_task e.who n then f e.what else 0)

abbrev pub is_spawn : What → ℕ
is_spawn (Spawn n a) = 1
is_spawn _ = 0

abbrev pub with_id : Entered → ℕ → Entered
with_id (Notify old) id = Notify id
with_id v id = v

-- the place of the task of this name
unfoldable pub task_place : List Event → Name → Option ℕ
task_place K n = oldest (λ t. makes_in (event_at K t) && name_eq (name_of K t) n) (length K)

-- the task's next instruction: each restart leads back to the call that was interrupted
abbrev pub next_instr : System → List Event → Name → Option Instr
next_instr S K n = slice_get (S.program n) (steps_of counts K n - steps_of recounts K n)

abbrev pub pid_or : Option ℕ → ℕ
pid_or (Some p) = p
pid_or None = 0

abbrev pub pid_at : List Event → Option ℕ → ℕ
pid_at K (Some t) = pid_or (pid_of K t)
pid_at K None = 0

-- the PID that the task of this name was given; 0, which nobody holds, where there is none
abbrev pub pid_named : List Event → Name → ℕ
pid_named K n = pid_at K (task_place K n)

-- the PID for which a signal is meant
abbrev pub signalled : List Event → Name → Whom → ℕ
signalled K n Own = pid_named K n
signalled K n Parent = pid_named K (parent n)
signalled K n (Child k) = pid_named K (n ++ k ∷ [])
signalled K n (Pid p) = p

-- the name of the next child
abbrev pub next_child : List Event → Name → Name
next_child K n = n ++ (steps_of is_spawn K n + 1) ∷ []

abbrev pub instr_step : System → List Event → Name → Option Instr → What
instr_step S K n None = Exit
instr_step S K n (Some (IPoke a b)) = Poke a b
instr_step S K n (Some (IFill a len b)) = Poke a (replicate len b)
instr_step S K n (Some (ICall nr args)) = Enter nr args (with_id (S.verdict nr args) ((S.firstid + calls K) % 2 ^ 64))
instr_step S K n (Some (ISpawn p)) = Spawn (next_child K n) (spawn_answer (next_pid S.pidbase S.pidmax K) Copied)
instr_step S K n (Some (IThread p)) = Spawn (next_child K n) (spawn_answer (next_pid S.pidbase S.pidmax K) Shared)
instr_step S K n (Some (IKill whom s)) = Signal (signalled K n whom) s (found (holder K (signalled K n whom)))
instr_step S K n (Some (IHandler s m)) = Handler s m
instr_step S K n (Some IWait) = wait_step K (oldest (is_child K n) (length K)) (oldest (is_ended_child K n) (length K))
instr_step S K n (Some IExit) = Exit

-- the delivery of the signal that is due, if one is; else another step
abbrev pub deliver_or : Option ℕ → (ℕ → Delivered) → What → What
deliver_or (Some sig) effect other = Deliver sig (effect sig)
deliver_or None effect other = other

abbrev pub back_of : What → Back
back_of (Send x back answer) = back
back_of (Install (Ok n)) = Value (pos n)
back_of _ = Continue

-- what the send that settled a call returned
unfoldable pub reply : List Event → ℕ → Back
reply [] c = Continue
reply (e ∷ K) c = if settles K e c then back_of e.what else reply K c

-- a task's last own step but Skip leaves it a native call to make
unfoldable pub owes_native : List Event → Name → Bool
owes_native [] n = false
owes_native (e ∷ K) n = if is_task e.who n && not (skips e.what) then owes e.what else owes_native K n

abbrev pub slot_answer : Slot → Result ℕ ℕ
slot_answer (Number n) = Ok n
slot_answer Full = Err ebadf
slot_answer Over = Err emfile

-- the install of the oldest request of the call
abbrev pub install_step : System → List Event → ℕ → List ℕ → What
install_step S K c [] = Skip
install_step S K c (r ∷ rs) = Install (slot_answer (S.slot K c r))

-- a living task's step, in a call and outside
abbrev pub living_step : System → List Event → Name → Option ℕ → What
living_step S K n (Some c) =
    if settled K c then Resume (reply K c)
    else deliver_or (next_signal S.killable K n) (λ s. effect_in_call s (disposition K n s)) (install_step S K c (queue K c))
living_step S K n None =
    if owes_native K n then Native (S.native K n)
    else deliver_or (next_signal S.killable K n) (λ s. effect_outside s (disposition K n s)) (instr_step S K n (next_instr S K n))

unfoldable pub task_step : System → List Event → Name → What
task_step S K n = if alive K n then living_step S K n (call_of K n) else Skip

-- the oldest listed call that is not fetched
unfoldable pub oldest_unfetched : List Event → Option ℕ
oldest_unfetched K = oldest (λ c. listed K c && not (fetched K c)) (length K)

abbrev pub entered : What → List ℕ
entered (Enter nr args v) = args
entered _ = []

abbrev pub number_entered : What → ℤ
number_entered (Enter nr args v) = nr
number_entered _ = pos 0

-- the number and the arguments of the call that was entered at a place
abbrev pub nr_in : Option Event → ℤ
nr_in None = pos 0
nr_in (Some e) = number_entered e.what

abbrev pub args_in : Option Event → List ℕ
args_in None = []
args_in (Some e) = entered e.what

-- the notification of a call
abbrev pub notif : List Event → ℕ → Notif
notif K c = record {
  id = id K c;
  pid = pid_at K (task_place K (caller K c));
  flags = 0;
  call = record { nr = nr_in (event_at K c); arch = 0xc000003e; ip = 0; args = args_in (event_at K c) };
}

abbrev pub recv_answer : List Event → Option ℕ → Result Notif ℕ
recv_answer K None = Err enoent
recv_answer K (Some c) = Ok (notif K c)

abbrev pub lives : List Event → Option ℕ → Bool
lives K None = false
lives K (Some t) = not (ended K (name_of K t))

abbrev pub check_answer : List Event → Option ℕ → Result (Unit {0}) ℕ
check_answer K None = Err enoent
check_answer K (Some c) = if waiting K c then Ok tt else Err enoent

abbrev pub send_answer : List Event → Option ℕ → Result (Unit {0}) ℕ
send_answer K None = Err enoent
send_answer K (Some c) = if waiting K c then Ok tt else Err einprogress

-- where no event stands: a history has fewer than 2 ^ 64 events
abbrev pub no_place : ℕ
no_place = 2 ^ 64 - 1

abbrev pub place_or : Option ℕ → ℕ
place_or (Some t) = t
place_or None = no_place

abbrev pub is_empty : List ℕ → Bool
is_empty [] = true
is_empty (r ∷ rs) = false

abbrev pub is_first : List ℕ → ℕ → Bool
is_first [] r = false
is_first (q ∷ qs) r = q == r

abbrev pub installed : What → Option (Result ℕ ℕ)
installed (Install a) = Some a
installed _ = None

-- the group of the task at a place: one address space with one descriptor table
unfoldable pub group : List Event → ℕ → ℕ
group [] t = no_place
group (e ∷ K) t =
    if t == length K then (if shares_now e.what then group K (place_or (task_place K (task_name e.who))) else t) else group K t

-- the call of the worker's open session: the one that is named by the id that it fetched
abbrev pub call_after : List Event → What → Option ℕ → Option ℕ
call_after K (Recv (Ok n)) c = named K n.id
call_after K LetGo c = None
call_after K _ c = c

unfoldable pub session_call : List Event → ℕ → Option ℕ
session_call [] w = None
session_call (e ∷ K) w = if is_worker e.who w then call_after K e.what (session_call K w) else session_call K w

-- what the worker's session has opened: the memory's group, and the base's
abbrev pub opened : List Event → Option ℕ → Option ℕ
opened K None = None
opened K (Some t) = Some (group K t)

abbrev pub mem_after : List Event → What → Option ℕ → Option ℕ
mem_after K (OpenMem p (Ok u)) m = opened K (holder K p)
mem_after K LetGo m = None
mem_after K _ m = m

unfoldable pub mem : List Event → ℕ → Option ℕ
mem [] w = None
mem (e ∷ K) w = if is_worker e.who w then mem_after K e.what (mem K w) else mem K w

abbrev pub base_after : List Event → What → Option ℕ → Option ℕ
base_after K (OpenBase p d (Ok u)) m = opened K (holder K p)
base_after K LetGo m = None
base_after K _ m = m

-- the group whose table the base was looked up in; the container's root counts as there
unfoldable pub base : List Event → ℕ → Option ℕ
base [] w = None
base (e ∷ K) w = if is_worker e.who w then base_after K e.what (base K w) else base K w

abbrev pub base_answer : System → List Event → Option ℕ → ℤ → Result (Unit {0}) ℕ
base_answer S K None d = Err esrch
base_answer S K (Some t) d = if ended K (name_of K t) then Err esrch else (if S.directory K (group K t) d then Ok tt else Err ebadf)

abbrev pub read_answer : System → List Event → Option ℕ → ℕ → ℕ → Result (List ℕ) ℕ
read_answer S K None a n = Err efault
read_answer S K (Some m) a n = S.bytes K m a n

abbrev pub put_answer : System → List Event → Addfd → Option ℕ → Result (Unit {0}) ℕ
put_answer S K a None = Err enoent
put_answer S K a (Some c) =
    if not (waiting K c) then Err einprogress else (if has_send_flag a && not (is_empty (queue K c)) then Err ebusy else Ok tt)

-- the worker's request: its last good put, until its next take
abbrev pub request_after : ℕ → What → Option ℕ → Option ℕ
request_after place (AddfdPut a (Ok u)) r = Some place
request_after place (AddfdTake t) r = None
request_after place _ r = r

unfoldable pub request_of : List Event → ℕ → Option ℕ
request_of [] w = None
request_of (e ∷ K) w = if is_worker e.who w then request_after (length K) e.what (request_of K w) else request_of K w

abbrev pub asked_call : List Event → What → Option ℕ
asked_call K (AddfdPut a answer) = named K a.id
asked_call K _ = None

abbrev pub call_listed : List Event → Option ℕ → Bool
call_listed K None = false
call_listed K (Some c) = listed K c

-- the call for which a request was put, at the moment when it was put
unfoldable pub call_at : List Event → ℕ → Option ℕ
call_at [] r = None
call_at (e ∷ K) r = if r == length K then asked_call K e.what else call_at K r

-- after K, the event installs this request, which was put for the call
abbrev pub installs_request : List Event → Event → Option ℕ → ℕ → Bool
installs_request K e None r = false
installs_request K e (Some c) r = installs_for K e c && is_first (queue K c) r

-- the answer of the install that belongs to a request
unfoldable pub install_of : List Event → ℕ → Option (Result ℕ ℕ)
install_of [] r = None
install_of (e ∷ K) r = if installs_request K e (call_at K r) r then installed e.what else install_of K r

abbrev pub install_at : List Event → Option ℕ → Option (Result ℕ ℕ)
install_at K (Some r) = install_of K r
install_at K None = None

abbrev pub request_listed : List Event → Option ℕ → Bool
request_listed K None = false
request_listed K (Some r) = call_listed K (call_at K r)

-- the take: the install's answer; pending, which is no step, where the call is listed; else ENOENT
abbrev pub take_step : Option (Result ℕ ℕ) → Bool → What
take_step (Some a) on = AddfdTake a
take_step None true = Skip
take_step None false = AddfdTake (Err enoent)

-- the step is an effect that was done under a cap of this rule
abbrev pub is_cap_of : Option Cap → ℕ → Bool
is_cap_of (Some cap) i = cap.rule == i
is_cap_of None i = false

abbrev pub spends : What → ℕ → Bool
spends (Act q cap (Ok u)) i = is_cap_of cap i
spends (Plant a b cap (Ok u)) i = is_cap_of cap i
spends _ i = false

-- how many effects were done under the cap of a rule
unfoldable pub times_spent : List Event → ℕ → ℕ
times_spent [] i = 0
times_spent (e ∷ K) i = times_spent K i + (if spends e.what i then 1 else 0)

-- the rule has granted as often as it may
abbrev pub is_spent : List Event → Option Cap → Bool
is_spent K None = false
is_spent K (Some cap) = nat_le cap.times (times_spent K cap.rule)

-- the step of a worker's deed: receive, open, check, read and so on, each with its answer
abbrev pub deed_step : System → List Event → ℕ → Deed → What
deed_step S K w Deed.Recv = if count K == 0 then Skip else Recv (recv_answer K (oldest_unfetched K))
deed_step S K w (Deed.OpenMem p) = OpenMem p (if lives K (holder K p) then Ok tt else Err esrch)
deed_step S K w (Deed.OpenBase p d) = OpenBase p d (base_answer S K (holder K p) d)
deed_step S K w (Deed.Check x) = Check x (check_answer K (named K x))
deed_step S K w (Deed.Read a n) = Read a n (read_answer S K (mem K w) a n)
deed_step S K w (Deed.Act q cap) = Act q cap (if is_spent K cap then Err edquot else S.outcome K w q)
deed_step S K w (Deed.Plant a b cap) = Plant a b cap (if is_spent K cap then Err edquot else (if S.writable a then Ok tt else Err efault))
deed_step S K w (Deed.AddfdPut a) = AddfdPut a (if not (S.source a.srcfd) then Err ebadf else put_answer S K a (named K a.id))
deed_step S K w Deed.AddfdTake = take_step (install_at K (request_of K w)) (request_listed K (request_of K w))
deed_step S K w (Deed.Send x back) = Send x back (send_answer K (named K x))
deed_step S K w Deed.LetGo = LetGo

unfoldable pub worker_step : System → Rules → List Event → ℕ → What
worker_step S R K w = deed_step S K w (deed R (session K w))

-- what an actor does after K
unfoldable pub step : System → Rules → List Event → Actor → What
step S R K Start = Skip
step S R K (Task n) = task_step S K n
step S R K (Worker w) = worker_step S R K w
step S R K Listener = Close

abbrev pub start : System → Event
start S = ev Start (Spawn (0 ∷ []) (Ok (S.pidbase + 1, New)))

abbrev pub is_start : Actor → Bool
is_start Start = true
is_start _ = false

-- tasks have the names of the form, and workers the numbers from 0 to 16
abbrev pub is_actor : Actor → Bool
is_actor (Task n) = is_task_name n
is_actor (Worker w) = nat_le w 16
is_actor _ = true

-- the event may come after K
abbrev pub IsStep : System → Rules → List Event → Event → Type 0
IsStep S R [] e = e ≡ start S
IsStep S R (f ∷ K) e = (closes f.what ≡ false) × (is_start e.who ≡ false) × (e.what ≡ step S R (f ∷ K) e.who) × (is_actor e.who ≡ true)

-- each event is the step of its actor after those below it
abbrev pub IsLegal : System → Rules → List Event → Type 0
IsLegal S R [] = Unit {0}
IsLegal S R (e ∷ K) = IsStep S R K e × IsLegal S R K

-- ---- histories of the kernel, whoever its workers are

-- the step is its actor's: of a worker some deed, with the answer that the kernel gives
abbrev pub IsKernelAnswer : System → List Event → Actor → What → Type 0
IsKernelAnswer S K Start a = ⊥
IsKernelAnswer S K (Task n) a = a ≡ task_step S K n
IsKernelAnswer S K (Worker w) a = (d : Deed) × (a ≡ deed_step S K w d)
IsKernelAnswer S K Listener a = a ≡ Close

-- the event may come after K
abbrev pub IsKernelStep : System → List Event → Event → Type 0
IsKernelStep S [] e = e ≡ start S
IsKernelStep S (f ∷ K) e = (closes f.what ≡ false) × IsKernelAnswer S (f ∷ K) e.who e.what × (is_actor e.who ≡ true)

-- each event is such a step after those below it: a legal history is one of these, in which each worker does what this broker's does
abbrev pub IsOfKernel : System → List Event → Type 0
IsOfKernel S [] = Unit {0}
IsOfKernel S (e ∷ K) = IsKernelStep S K e × IsOfKernel S K
