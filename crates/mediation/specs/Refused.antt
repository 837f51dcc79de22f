-- Small histories that are legal but for their last event: what a wrong kernel or a wrong broker would do.
-- And one that may seem wrong, and is legal.
use Rattle.std.specs.Prelude.{ℕ, true, false, if◌then◌else◌, List, [], ◌∷◌, Option, Some, None, Ok, Err, pos}
use Rattle.hist_model.specs.Look.{name_eq, ev}
use Rattle.hist_model.specs.Sessions.{Rules, Acts, Injects}
use Rattle.hist_model.specs.Systems.{System, Number}
use Rattle.hist_model.specs.Steps.{IsLegal, step, start}
use Rattle.hist_model.specs.declared.event.Actor.{Actor}
use Rattle.hist_model.specs.declared.event.Actor.TheVariants.{Task, Worker}
use Rattle.hist_model.specs.declared.event.Delivered.TheVariants.{End}
use Rattle.hist_model.specs.declared.event.Entered.TheVariants.{Notify}
use Rattle.hist_model.specs.declared.event.Event.{Event}
use Rattle.hist_model.specs.declared.event.Disposition.TheVariants.{Plain}
use Rattle.hist_model.specs.declared.event.What.{What}
use Rattle.hist_model.specs.declared.event.What.TheVariants.{Recv, OpenMem, Check, Read, Act, Install, AddfdPut, Send, Deliver}
use Rattle.hist_model.specs.declared.event.Back.TheVariants.{Value}
use Rattle.hist_model.specs.declared.request.Request.TheVariants.{Sysinfo}
use Rattle.hist_model.specs.declared.script.Instr.{Instr}
use Rattle.hist_model.specs.declared.script.Instr.TheVariants.{Call, Spawn, Kill, Handler, Wait}
use Rattle.hist_model.specs.declared.script.Whom.TheVariants.{Parent, Child}
use Rattle.sys_abi.specs.Calls.{nr_mknod}
use Rattle.sys_abi.specs.Errnos.{enoent, enosys}

-- with one step of each of these actors, in order
abbrev pub after : System → Rules → List Actor → List Event → List Event
after S R [] K = K
after S R (a ∷ more) K = after S R more (ev a (step S R K a) ∷ K)

-- the history that begins with the start and goes on with these actors is legal, and no longer is with this event of the actor
abbrev pub Refuses : System → Rules → List Actor → Actor → What → Type 0
Refuses S R actors a wrong =
    IsLegal S R (after S R actors (start S ∷ [])) × (IsLegal S R (ev a wrong ∷ after S R actors (start S ∷ [])) → ⊥)

-- the first task's program, and its children's; all calls are listed; two PIDs; each descriptor goes to the number 3
abbrev pub small : List Instr → List Instr → System
small own children = record {
  pidbase = 0;
  pidmax = 2;
  firstid = 1;
  killable = false;
  program = λ n. if name_eq n (0 ∷ []) then own else children;
  verdict = λ nr args. Notify 0;
  native = λ K n. Err enosys;
  slot = λ K c r. Number 3;
  source = λ n. true;
  directory = λ K g d. true;
  bytes = λ K g a n. Ok (47 ∷ 0 ∷ []);
  writable = λ a. true;
  outcome = λ K w q. Ok tt;
}

abbrev pub first_piece : List What → Option (ℕ × ℕ)
first_piece [] = Some (65536, 256)
first_piece (a ∷ reads) = None

-- one text is read, and then the rule grants
abbrev pub granting : Rules
granting = record {
  dirfd = λ n. None;
  next_piece = λ n reads. first_piece reads;
  fault = λ n reads. None;
  decide = λ n reads. Acts (Sysinfo 65536) None;
}

-- nothing is read, and the rule injects
abbrev pub injecting : Rules
injecting = record { dirfd = λ n. None; next_piece = λ n reads. None; fault = λ n reads. None; decide = λ n reads. Injects 5 None 0 }

abbrev pub calling : List Instr
calling = Call (pos nr_mknod) (65536 ∷ []) ∷ []

abbrev pub parent : Actor
parent = Task (0 ∷ [])

abbrev pub child : Actor
child = Task (0 ∷ 1 ∷ [])

abbrev pub worker : Actor
worker = Worker 0

-- a task calls; the worker fetches, opens, checks and reads, and does the effect before the second check
abbrev pub EarlyEffect : Type 0
EarlyEffect =
    Refuses (small calling []) granting (parent ∷ worker ∷ worker ∷ worker ∷ worker ∷ []) worker (Act (Sysinfo 65536) None (Ok tt))

-- it checks again, and opens the memory after the last check
abbrev pub LateOpening : Type 0
LateOpening = Refuses (small calling []) granting (parent ∷ worker ∷ worker ∷ worker ∷ worker ∷ worker ∷ []) worker (OpenMem 1 (Ok tt))

-- or reads the arguments again for the effect
abbrev pub SecondReading : Type 0
SecondReading = Refuses (small calling []) granting
    (parent ∷ worker ∷ worker ∷ worker ∷ worker ∷ worker ∷ []) worker (Read 65536 256 (Ok (47 ∷ 0 ∷ [])))

-- it acts and answers, and a second answer to the call is accepted
abbrev pub SecondAnswer : Type 0
SecondAnswer = Refuses (small calling []) granting
    (parent ∷ worker ∷ worker ∷ worker ∷ worker ∷ worker ∷ worker ∷ worker ∷ []) worker (Send 1 (Value (pos 0)) (Ok tt))

-- a child calls and is fetched, and its parent kills it, waits for it, and makes another one, which gets its number; the worker opens,
-- and the id is valid while any task holds its caller's PID
abbrev pub ValidByNumber : Type 0
ValidByNumber = Refuses (small (Spawn 0 ∷ Kill (Child 1) 9 ∷ Wait ∷ Spawn 0 ∷ []) calling) granting
    (parent ∷ child ∷ worker ∷ parent ∷ child ∷ parent ∷ parent ∷ worker ∷ []) worker (Check 1 (Ok tt))

-- a parent calls; the worker fetches, opens, checks twice and puts a request; a child interrupts the call,
-- and the descriptor is installed then
abbrev pub LateInstallation : Type 0
LateInstallation = Refuses (small (Handler 10 Plain ∷ Spawn 0 ∷ calling) (Kill Parent 10 ∷ [])) injecting
    (parent ∷ parent ∷ parent ∷ worker ∷ worker ∷ worker ∷ worker ∷ worker ∷ child ∷ parent ∷ []) parent (Install (Ok 3))

-- a descriptor is put in without answering, to be answered later
abbrev pub WithoutSend : Type 0
WithoutSend = Refuses (small calling []) injecting (parent ∷ worker ∷ worker ∷ worker ∷ worker ∷ []) worker
    (AddfdPut (record { id = 1; flags = 0; srcfd = 5; newfd = 0; newfd_flags = 0 }) (Ok tt))

-- a child calls, and then its parent, whose notification, the newest, is fetched first
abbrev pub NewestFirst : Type 0
NewestFirst = Refuses (small (Spawn 0 ∷ calling) calling) granting (parent ∷ child ∷ parent ∷ []) worker
    (Recv (Ok (record { id = 2; pid = 1; flags = 0; call = record { nr = pos nr_mknod; arch = 0xc000003e; ip = 0; args = 65536 ∷ [] } })))

-- a child calls; the worker fetches, opens, checks, reads and checks, and then the parent kills the child
abbrev pub killed_actors : List Actor
killed_actors = parent ∷ child ∷ worker ∷ worker ∷ worker ∷ worker ∷ worker ∷ parent ∷ []

abbrev pub killing : System
killing = small (Spawn 0 ∷ Kill (Child 1) 9 ∷ []) calling

-- the effect, and an answer that finds no call, after these events
abbrev pub with_lost_answer : List Event → List Event
with_lost_answer K = ev worker (Send 1 (Value (pos 0)) (Err enoent)) ∷ ev worker (Act (Sysinfo 65536) None (Ok tt)) ∷ K

-- the child ends by the signal, and the effect comes after: this is legal, and without the signal's delivery it isn't
abbrev pub EffectAfterEnd : Type 0
EffectAfterEnd = let K = after killing granting killed_actors (start killing ∷ []) in
    IsLegal killing granting (with_lost_answer (ev child (Deliver 9 End) ∷ K)) × (IsLegal killing granting (with_lost_answer K) → ⊥)
