-- What the step of an actor can be, whoever the workers are, kind by kind, and what it then tells.
-- By the cases of the definition of the step.
use Rattle.hist_model.specs.Steps.{IsOfKernel, IsKernelStep, IsKernelAnswer}
use Rattle.mediation.proofs.Common.{[], Act, Actor, AddfdPut, AddfdTake, alive, arith, base_answer, call_of, calls, Check, check_answer}
use Rattle.mediation.proofs.Common.{Close, count, Deed, deed_step, Deliver, Each, Enter, Err, Event, Exit, false, found}
use Rattle.mediation.proofs.Common.{Handler, holder, if◌then◌else◌, Install, install_at, install_step, instr_step, is_child, is_ended_child, is_spent}
use Rattle.mediation.proofs.Common.{length, LetGo, List, Listener, lives, mem, Name, named, Native, next_child, next_instr, next_pid, next_signal, None, not}
use Rattle.mediation.proofs.Common.{Ok, oldest, oldest_unfetched, OpenBase, OpenMem, owes_native, Plant, Poke}
use Rattle.mediation.proofs.Common.{put_answer, queue, Read, read_answer, Reap, Recv, recv_answer, refl, reply, request_listed, request_of, Resume, Send, send_answer}
use Rattle.mediation.proofs.Common.{settled, Signal, Skip, Some, Spawn, spawn_answer, Start, System, take_step, Task, task_step, true, wait_step, What, with_id, Worker}
use Rattle.mediation.proofs.Common.{disposition, effect_on, ℕ, ◌%◌, ◌+◌, ◌<◌, ◌==◌, ◌^◌, ◌∷◌, ◌≡◌}
use Rattle.hist_model.specs.declared.event.SpawnKind.{SpawnKind}
use Rattle.hist_model.specs.declared.event.SpawnKind.TheVariants.{New}
use Rattle.sys_abi.specs.Errnos.{esrch, edquot, efault, ebadf}

-- what a worker's step is answered
abbrev pub Answered : System → List Event → ℕ → What → Type 0
Answered S K w (Recv a) = (count K == 0 ≡ false) × (a ≡ recv_answer K (oldest_unfetched K))
Answered S K w (OpenMem p a) = a ≡ (if lives K (holder K p) then Ok tt else Err esrch)
Answered S K w (OpenBase p d a) = a ≡ base_answer S K (holder K p) d
Answered S K w (Check x a) = a ≡ check_answer K (named K x)
Answered S K w (Read x n a) = a ≡ read_answer S K (mem K w) x n
Answered S K w (Act q cap a) = a ≡ (if is_spent K cap then Err edquot else S.outcome K w q)
Answered S K w (Plant x bs cap a) = a ≡ (if is_spent K cap then Err edquot else (if S.writable x then Ok tt else Err efault))
Answered S K w (AddfdPut q a) = a ≡ (if not (S.source q.srcfd) then Err ebadf else put_answer S K q (named K q.id))
Answered S K w (AddfdTake a) = AddfdTake a ≡ take_step (install_at K (request_of K w)) (request_listed K (request_of K w))
Answered S K w (Send x b a) = a ≡ send_answer K (named K x)
Answered S K w LetGo = Unit {0}
Answered S K w _ = ⊥

-- a worker's step is answered so
abbrev pub KernelWorkerRow : System → List Event → ℕ → What → Type 0
KernelWorkerRow S K w Skip = Unit {0}
KernelWorkerRow S K w what = Answered S K w what

-- a task's step tells this
abbrev pub TaskRow : System → List Event → Name → What → Type 0
TaskRow S K n (Spawn m a) = (alive K n ≡ true) × (call_of K n ≡ None) × ((kind : SpawnKind) × (a ≡ spawn_answer (next_pid S.pidbase S.pidmax K) kind)) × (m ≡ next_child K n)
TaskRow S K n (Poke a b) = (alive K n ≡ true) × (call_of K n ≡ None)
TaskRow S K n (Handler s m) = (alive K n ≡ true) × (call_of K n ≡ None)
TaskRow S K n (Enter nr args v) = (alive K n ≡ true) × (call_of K n ≡ None) × (v ≡ with_id (S.verdict nr args) ((S.firstid + calls K) % 2 ^ 64))
TaskRow S K n (Native a) = (alive K n ≡ true) × (call_of K n ≡ None) × (owes_native K n ≡ true) × (a ≡ S.native K n)
TaskRow S K n (Install a) = (alive K n ≡ true) × ((c : ℕ) × (call_of K n ≡ Some c) × (settled K c ≡ false) × (Install a ≡ install_step S K c (queue K c)))
TaskRow S K n (Resume b) = (alive K n ≡ true) × ((c : ℕ) × (call_of K n ≡ Some c) × (settled K c ≡ true) × (b ≡ reply K c))
TaskRow S K n (Signal p s a) = (alive K n ≡ true) × (call_of K n ≡ None) × (a ≡ found (holder K p))
TaskRow S K n (Deliver s effect) = (alive K n ≡ true) × (next_signal S.killable K n ≡ Some s) × ((c : ℕ) → call_of K n ≡ Some c → settled K c ≡ false)
    × (effect ≡ effect_on (call_of K n) s (disposition K n s))
TaskRow S K n (Reap a) = (alive K n ≡ true) × (call_of K n ≡ None) × (Reap a ≡ wait_step K (oldest (is_child K n) (length K)) (oldest (is_ended_child K n) (length K)))
TaskRow S K n Exit = (alive K n ≡ true) × (call_of K n ≡ None)
TaskRow S K n Skip = Unit {0}
TaskRow S K n _ = ⊥

-- the start is the first event, and nothing else
abbrev pub KernelRow : System → List Event → Actor → What → Type 0
KernelRow S K Start (Spawn m a) = (K ≡ []) × (m ≡ 0 ∷ []) × (a ≡ Ok (S.pidbase + 1, New))
KernelRow S K Start _ = ⊥
KernelRow S K (Task n) a = TaskRow S K n a
KernelRow S K (Worker w) a = KernelWorkerRow S K w a
KernelRow S K Listener Close = Unit {0}
KernelRow S K Listener _ = ⊥

instr_row : (S : System) (K : List Event) (n : Name) → alive K n ≡ true → call_of K n ≡ None → TaskRow S K n (instr_step S K n (next_instr S K n))
instr_row S K n living q = grind arith

pub task_row : (S : System) (K : List Event) (n : Name) → TaskRow S K n (task_step S K n)
unfolding task_step
task_row S K n = grind (arith, instr_row)

pub deed_row : (S : System) (K : List Event) (w : ℕ) (d : Deed) → KernelWorkerRow S K w (deed_step S K w d)
deed_row S K w d = grind arith

-- each event of a history of the kernel is one of the rows
kernel-step-row : (S : System) (K : List Event) (a : Actor) (w : What) → IsKernelAnswer S K a w → KernelRow S K a w
kernel-step-row S K Start w o = absurd o
kernel-step-row S K (Task n) w o = rw o (task_row S K n)
kernel-step-row S K (Worker n) w o = rw o.1 (deed_row S K n o.0)
kernel-step-row S K Listener w o = rw o tt

pub kernel-row-of : (S : System) (K : List Event) (e : Event) → IsKernelStep S K e → KernelRow S K e.who e.what
kernel-row-of S [] e r = rw r (refl, refl, refl)
kernel-row-of S (f ∷ K) e r = kernel-step-row S (f ∷ K) e.who e.what r.1

-- what holds of no events, and with one more step still, holds of each history of the kernel
pub by-kernel-steps : (S : System) (P : List Event → Type 0) → P [] → ((K : List Event) (e : Event) → IsOfKernel S K → KernelRow S K e.who e.what → P K → P (e ∷ K)) → (K : List Event) → IsOfKernel S K → P K
by-kernel-steps S P z f [] history = z
by-kernel-steps S P z f (e ∷ K) history = f K e history.1 (kernel-row-of S K e history.0) (by-kernel-steps S P z f K history.1)

-- the same of a history in which ids don't wrap
pub by-few-kernel-steps : (S : System) (P : List Event → Type 0) → P [] → ((K : List Event) (e : Event) → IsOfKernel S K → length K < 2 ^ 64 → KernelRow S K e.who e.what → P K → P (e ∷ K))
    → (K : List Event) → IsOfKernel S K → length K < 2 ^ 64 → P K
by-few-kernel-steps S P z f [] history room = z
by-few-kernel-steps S P z f (e ∷ K) history room = f K e history.1 (omega arith) (kernel-row-of S K e history.0) (by-few-kernel-steps S P z f K history.1 (omega arith))

-- what each step tells holds of each event
pub each-kernel : (S : System) (P : List Event → Event → Type 0) → ((K : List Event) (e : Event) → IsOfKernel S K → length K < 2 ^ 64 → KernelRow S K e.who e.what → P K e)
    → (K : List Event) → IsOfKernel S K → length K < 2 ^ 64 → Each P K
each-kernel S P f = by-few-kernel-steps S (Each P) tt (λ K e history room r ih. (f K e history room r, ih))

-- and so does what holds of any list of events and one more
pub each-any : (P : List Event → Event → Type 0) → ((K : List Event) (e : Event) → P K e) → (K : List Event) → Each P K
each-any P f [] = tt
each-any P f (e ∷ K) = (f K e, each-any P f K)
