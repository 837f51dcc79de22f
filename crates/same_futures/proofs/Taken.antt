-- The step of an actor that is able to step, after a walked history, is a turn: a step of the tasks and of the calls.
-- By cases on what a task does next and on a worker's deed; that a worker which asks has no request, and plants where a memory is open, is Held.
use Rattle.std.proofs.Common.{◌≡◌, inl, inr, ℕ, ◌+◌, ◌-◌, ◌%◌, ◌<◌, ◌≤◌, ◌^◌, Bool, true, false, ◌&&◌, not, List, [], ◌∷◌, length, Option, Some, None, refl, sym, ap, ◌∙◌, arith}
use Rattle.std.specs.Prelude.{◌==◌, if◌then◌else◌, is_none, nat_lt, Result, Ok, Err, ℤ}
use Rattle.std.proofs.lemmas.Bool.{and_parts, both_ways, ltb-true, not-true}
use Rattle.sys_abi.specs.Errnos.{ebadf, ebusy, einprogress}
use Rattle.sys_abi.specs.declared.wire.Addfd.{Addfd}
use Rattle.hist_model.specs.Calls.{answered, caller, calls, count, fetched, listed, named, queue, settled, waiting}
use Rattle.hist_model.specs.Deeds.{Deed}
use Rattle.hist_model.specs.Kinds.{closes, has_send_flag, notifies, skips}
use Rattle.hist_model.specs.Legal.{rules_of, system_of}
use Rattle.hist_model.specs.Look.{Name, ev, oldest}
use Rattle.hist_model.specs.Sessions.{Rules, deed, session}
use Rattle.hist_model.specs.Signals.{call_of, effect_in_call, effect_outside, next_signal}
use Rattle.hist_model.specs.Steps.{IsLegal, deed_step, deliver_or, install_at, install_of, install_step, instr_step, is_child, is_empty, is_ended_child, living_step, mem, next_instr, oldest_unfetched, owes_native, put_answer, recv_answer, request_listed, request_of, start, step, take_step, task_step, wait_step, with_id, worker_step}
use Rattle.hist_model.specs.Systems.{System}
use Rattle.hist_model.specs.Tasks.{alive, disposition}
use Rattle.hist_model.specs.declared.event.Actor.TheVariants.{Task, Worker}
use Rattle.hist_model.specs.declared.event.Delivered.{Delivered}
use Rattle.hist_model.specs.declared.event.Entered.{Entered}
use Rattle.hist_model.specs.declared.event.Entered.TheVariants.{Allow, Fails, Kill, Log, NoSys, Notify}
use Rattle.hist_model.specs.declared.event.Event.{Event}
use Rattle.hist_model.specs.declared.event.What.{What}
use Rattle.hist_model.specs.declared.event.What.TheVariants.{AddfdPut, Enter, Plant, Recv, Skip}
use Rattle.hist_model.specs.declared.policy.Cap.{Cap}
use Rattle.hist_model.specs.declared.policy.Policy.{Policy}
use Rattle.hist_model.specs.declared.script.Instr.{Instr}
use Rattle.hist_model.specs.declared.script.Instr.TheVariants.{Call as ICall, Exit as IExit, Fill as IFill, Handler as IHandler, Kill as IKill, Poke as IPoke, Spawn as ISpawn, Thread as IThread, Wait as IWait}
use Rattle.hist_model.specs.declared.script.Script.{Script}
use Rattle.history_frames.specs.Ordinals.{task_name_of, tasks_made}
use Rattle.delay_bounded.specs.Circle.{at_place, is_able, may_step}
use Rattle.listener.specs.Sound as call_sound
use Rattle.listener.specs.State as call_state
use Rattle.listener.proofs.Folds.{call-here, call-is}
use Rattle.tasks.specs.Sound as task_sound
use Rattle.tasks.specs.State.{State}
use Rattle.tasks.proofs.Folds.{lives-step}
use Rattle.tasks.proofs.Named.{name-made}
use Rattle.broker_machine.proofs.Held.{asks-free, plants-there}
use Rattle.same_futures.specs.States.{HasStates}
use Rattle.same_futures.specs.Places.{turn_of}
use Rattle.same_futures.specs.Turns.{IsTurn}

-- the first event of a legal history is no call
calls-below : (S : System) (R : Rules) (K : List Event) → IsLegal S R K → 0 < length K → calls K + 1 ≤ length K
unfolding calls
calls-below S R [] legal l = absurd (omega arith)
calls-below S R (e ∷ []) legal l = let q : e ≡ start S = legal.0 in rw q (omega arith)
calls-below S R (e ∷ f ∷ K) legal l = let ih = calls-below S R (f ∷ K) legal.1 (omega arith) in grind arith

module _ (P : Policy) (S : Script) (ts : State) (cs : call_state.State) (K : List Event) (h : HasStates S K ts cs)
    (legal : IsLegal (system_of S) (rules_of P S.figures) K) (few : length K < 2 ^ 64) (begun : 0 < length K) where
  abbrev R : Rules
  R = rules_of P S.figures

  -- ---- A task

  module _ (n : Name) (w : What) where
    abbrev own : Event
    own = ev (Task n) w

    delivered : (o : Option ℕ) (f : ℕ → Delivered) (other : What) → call_sound.IsStep S.firstid K own other → call_sound.IsStep S.firstid K own (deliver_or o f other)
    delivered (Some sig) f other t = (n, refl)
    delivered None f other t = t

    installs : (c : ℕ) → call_of K n ≡ Some c → settled K c ≡ false → (rs : List ℕ) → queue K c ≡ rs → call_sound.IsStep S.firstid K own (install_step (system_of S) K c rs)
    installs c q s [] r = tt
    installs c q s (x ∷ rs) r = record {
      call = c;
      who = ap Task (sym (call-is K n c q).1);
      on = (call-is K n c q).0;
      unsettled = s;
      first = x;
      rest = rs;
      queue_is = r;
    }

    inside : (c : ℕ) → call_of K n ≡ Some c → (b : Bool) → settled K c ≡ b → call_sound.IsStep S.firstid K own (living_step (system_of S) K n (Some c))
    inside c q true s = rw s (n, refl)
    inside c q false s = rw s (delivered (next_signal S.killable K n) (λ sig. effect_in_call sig (disposition K n sig)) (install_step (system_of S) K c (queue K c))
        (installs c q s (queue K c) refl))

    enters : call_of K n ≡ None → (nr : ℤ) (args : List ℕ) (v : Entered) → call_sound.IsStep S.firstid K own (Enter nr args (with_id v ((S.firstid + calls K) % 2 ^ 64)))
    enters q nr args (Notify old) = record {
      id_is = refl;
      more = omega (arith, calls-below (system_of S) R K legal begun, few);
      free = λ d on is.
          let z : call_of K (caller K d) ≡ Some d = call-here K d (λ x l same. h.calls_sound.callers x d l on same) on in
          let y : call_of K n ≡ Some d = ap (call_of K) (sym is) ∙ z in cc;
    }
    enters q nr args Allow = tt
    enters q nr args Log = tt
    enters q nr args (Fails x) = tt
    enters q nr args NoSys = tt
    enters q nr args Kill = tt

    waits : (child ended : Option ℕ) → call_sound.IsStep S.firstid K own (wait_step K child ended)
    waits None ended = tt
    waits (Some c) None = tt
    waits (Some c) (Some t) = tt

    goes-on : call_of K n ≡ None → (i : Option Instr) → call_sound.IsStep S.firstid K own (instr_step (system_of S) K n i)
    goes-on q None = tt
    goes-on q (Some (IPoke a b)) = tt
    goes-on q (Some (IFill a len b)) = tt
    goes-on q (Some (ICall nr args)) = enters q nr args ((system_of S).verdict nr args)
    goes-on q (Some (ISpawn p)) = tt
    goes-on q (Some (IThread p)) = tt
    goes-on q (Some (IKill whom s)) = tt
    goes-on q (Some (IHandler s m)) = tt
    goes-on q (Some IWait) = waits (oldest (is_child K n) (length K)) (oldest (is_ended_child K n) (length K))
    goes-on q (Some IExit) = tt

    outside : call_of K n ≡ None → (b : Bool) → owes_native K n ≡ b → call_sound.IsStep S.firstid K own (living_step (system_of S) K n None)
    outside q true o = rw o tt
    outside q false o = rw o (delivered (next_signal S.killable K n) (λ sig. effect_outside sig (disposition K n sig)) (instr_step (system_of S) K n (next_instr (system_of S) K n))
        (goes-on q (next_instr (system_of S) K n)))

    living : (o : Option ℕ) → call_of K n ≡ o → call_sound.IsStep S.firstid K own (living_step (system_of S) K n o)
    living (Some c) q = inside c q (settled K c) refl
    living None q = outside q (owes_native K n) refl

    pub task-calls : call_sound.IsStep S.firstid K own (task_step (system_of S) K n)
    unfolding task_step
    task-calls = by (alive K n) refl
      where
        by : (b : Bool) → alive K n ≡ b → call_sound.IsStep S.firstid K own (if alive K n then living_step (system_of S) K n (call_of K n) else Skip)
        by true q = rw q (living (call_of K n) refl)
        by false q = rw q tt

  pub task-turn : (o : ℕ) → o < tasks_made K → skips (step (system_of S) R K (Task (task_name_of K o))) ≡ false
      → IsTurn S K (ev (Task (task_name_of K o)) (step (system_of S) R K (Task (task_name_of K o))))
  unfolding step
  task-turn o l k =
      let n = task_name_of K o in
      let e : Event = ev (Task n) (task_step (system_of S) K n) in
      let p : task_sound.IsStepOf S K e o = record { there = l; who = refl; step = refl; few = few } in
      record {
        turn = inl (record { name = n; who = refl; made = name-made K o l; lives = lives-step S K e o p k; step = refl });
        table = record { tasks = inr (inl (o, p)); calls = task-calls n (task_step (system_of S) K n) };
      }

  -- ---- A worker

  -- what a worker does is nothing to tasks, enters no call and doesn't close the listener
  abbrev IsWork : What → Type 0
  IsWork a = (task_sound.keeps_tasks a ≡ true) × (notifies a ≡ false) × (closes a ≡ false)

  module _ (w : ℕ) where
    takes-work : (a : Option (Result ℕ ℕ)) (on : Bool) → IsWork (take_step a on)
    takes-work (Some a) on = (refl, refl, refl)
    takes-work None true = (refl, refl, refl)
    takes-work None false = (refl, refl, refl)

    receives-work : (b : Bool) → IsWork (if b then Skip else Recv (recv_answer K (oldest_unfetched K)))
    receives-work true = (refl, refl, refl)
    receives-work false = (refl, refl, refl)

    work : (d : Deed) → IsWork (deed_step (system_of S) K w d)
    work Deed.Recv = receives-work (count K == 0)
    work (Deed.OpenMem p) = (refl, refl, refl)
    work (Deed.OpenBase p d) = (refl, refl, refl)
    work (Deed.Check x) = (refl, refl, refl)
    work (Deed.Read a n) = (refl, refl, refl)
    work (Deed.Act q cap) = (refl, refl, refl)
    work (Deed.Plant a b cap) = (refl, refl, refl)
    work (Deed.AddfdPut a) = (refl, refl, refl)
    work Deed.AddfdTake = takes-work (install_at K (request_of K w)) (request_listed K (request_of K w))
    work (Deed.Send x back) = (refl, refl, refl)
    work Deed.LetGo = (refl, refl, refl)

    module _ (a : What) where
      abbrev mine : Event
      mine = ev (Worker w) a

      busy : (x : Addfd) (c : ℕ) → deed R (session K w) ≡ Deed.AddfdPut x → named K x.id ≡ Some c → answered K c ≡ false → (b : Bool)
          → call_sound.IsStep S.firstid K mine (AddfdPut x (if b then Err ebusy else Ok tt))
      busy x c d q o true = tt
      busy x c d q o false = record { worker = w; who = refl; call = c; call_is = q; open_is = o; free = asks-free (system_of S) R K w x legal few d }

      waits-for : (x : Addfd) (c : ℕ) → deed R (session K w) ≡ Deed.AddfdPut x → named K x.id ≡ Some c → (b : Bool) → waiting K c ≡ b
          → call_sound.IsStep S.firstid K mine (AddfdPut x (if not b then Err einprogress else (if has_send_flag x && not (is_empty (queue K c)) then Err ebusy else Ok tt)))
      waits-for x c d q true o =
          busy x c d q (not-true (answered K c) (and_parts (fetched K c) (not (answered K c)) (and_parts (listed K c) (fetched K c && not (answered K c)) o).1).1)
          (has_send_flag x && not (is_empty (queue K c)))
      waits-for x c d q false o = tt

      puts : (x : Addfd) → deed R (session K w) ≡ Deed.AddfdPut x → (o : Option ℕ) → named K x.id ≡ o → call_sound.IsStep S.firstid K mine (AddfdPut x (put_answer (system_of S) K x o))
      puts x d None q = tt
      puts x d (Some c) q = waits-for x c d q (waiting K c) refl

      has-source : (x : Addfd) → deed R (session K w) ≡ Deed.AddfdPut x → (b : Bool)
          → call_sound.IsStep S.firstid K mine (AddfdPut x (if not b then Err ebadf else put_answer (system_of S) K x (named K x.id)))
      has-source x d true = puts x d (named K x.id) refl
      has-source x d false = tt

      takes : (i : Option (Result ℕ ℕ)) (on : Bool) → install_at K (request_of K w) ≡ i → request_listed K (request_of K w) ≡ on
          → call_sound.IsStep S.firstid K mine (take_step i on)
      takes (Some x) on p q = record {
        worker = w;
        who = refl;
        over = λ r is none. let z : install_of K r ≡ Some x = sym (ap (install_at K) is) ∙ p in absurd (both_ways (is_none (install_of K r)) (ap is_none z) none);
      }
      takes None true p q = tt
      takes None false p q = record { worker = w; who = refl; over = λ r is none. sym (ap (request_listed K) is) ∙ q }

      receives : (b : Bool) → call_sound.IsStep S.firstid K mine (if b then Skip else Recv (recv_answer K (oldest_unfetched K)))
      receives true = tt
      receives false = tt

      worker-calls : (d : Deed) → deed R (session K w) ≡ d → call_sound.IsStep S.firstid K mine (deed_step (system_of S) K w d)
      worker-calls Deed.Recv q = receives (count K == 0)
      worker-calls (Deed.OpenMem p) q = tt
      worker-calls (Deed.OpenBase p d) q = tt
      worker-calls (Deed.Check x) q = tt
      worker-calls (Deed.Read b n) q = tt
      worker-calls (Deed.Act x cap) q = tt
      worker-calls (Deed.Plant b bytes cap) q = tt
      worker-calls (Deed.AddfdPut x) q = has-source x q ((system_of S).source x.srcfd)
      worker-calls Deed.AddfdTake q = takes (install_at K (request_of K w)) (request_listed K (request_of K w)) refl refl
      worker-calls (Deed.Send x back) q = tt
      worker-calls Deed.LetGo q = tt

    -- bytes are stored where a memory is open
    memory-of : (o : Option ℕ) → mem K w ≡ o → (mem K w ≡ None → ⊥) → (g : ℕ) × (mem K w ≡ Some g)
    memory-of (Some g) q there = (g, q)
    memory-of None q there = absurd (there q)

    takes-no : (i : Option (Result ℕ ℕ)) (on : Bool) (a : ℕ) (bytes : List ℕ) (cap : Option Cap) → take_step i on ≡ Plant a bytes cap (Ok tt) → ⊥
    takes-no (Some x) on a bytes cap q = cc
    takes-no None true a bytes cap q = cc
    takes-no None false a bytes cap q = cc

    receives-no : (b : Bool) (a : ℕ) (bytes : List ℕ) (cap : Option Cap) → (if b then Skip else Recv (recv_answer K (oldest_unfetched K))) ≡ Plant a bytes cap (Ok tt) → ⊥
    receives-no true a bytes cap q = cc
    receives-no false a bytes cap q = cc

    opened-by : (d : Deed) → deed R (session K w) ≡ d → (a : ℕ) (bytes : List ℕ) (cap : Option Cap) → deed_step (system_of S) K w d ≡ Plant a bytes cap (Ok tt) → (g : ℕ) × (mem K w ≡ Some g)
    opened-by (Deed.Plant b more limit) d a bytes cap q = memory-of (mem K w) refl (plants-there (system_of S) R K w b more limit legal few d)
    opened-by Deed.Recv d a bytes cap q = absurd (receives-no (count K == 0) a bytes cap q)
    opened-by Deed.AddfdTake d a bytes cap q = absurd (takes-no (install_at K (request_of K w)) (request_listed K (request_of K w)) a bytes cap q)
    opened-by (Deed.OpenMem p) d a bytes cap q = cc
    opened-by (Deed.OpenBase p x) d a bytes cap q = cc
    opened-by (Deed.Check x) d a bytes cap q = cc
    opened-by (Deed.Read b n) d a bytes cap q = cc
    opened-by (Deed.Act x limit) d a bytes cap q = cc
    opened-by (Deed.AddfdPut x) d a bytes cap q = cc
    opened-by (Deed.Send x back) d a bytes cap q = cc
    opened-by Deed.LetGo d a bytes cap q = cc

    pub worker-turn : IsTurn S K (ev (Worker w) (step (system_of S) R K (Worker w)))
    unfolding step worker_step
    worker-turn =
        let d = deed R (session K w) in
        let k = work d in
        record {
          turn = inr (record { worker = w; who = refl; deed = d; step = refl; opened = opened-by d refl });
          table = record {
            tasks = inr (inr (record { no_step = λ n. refl; keeps = k.0; no_call = k.1; no_close = k.2 }));
            calls = worker-calls (deed_step (system_of S) K w d) d refl;
          };
        }

  -- ---- The actor at a place

  pub takes-turn : (q : ℕ) → is_able P S K (at_place K q) ≡ true → IsTurn S K (turn_of P S K q)
  takes-turn q able = by (nat_lt q (tasks_made K)) refl able
    where
      by : (b : Bool) → nat_lt q (tasks_made K) ≡ b
          → is_able P S K (if b then Task (task_name_of K q) else Worker (q - tasks_made K)) ≡ true
          → IsTurn S K (ev (if b then Task (task_name_of K q) else Worker (q - tasks_made K)) (step (system_of S) R K (if b then Task (task_name_of K q) else Worker (q - tasks_made K))))
      by true l a = task-turn q (ltb-true q (tasks_made K) l) (not-true (skips (step (system_of S) R K (Task (task_name_of K q)))) (and_parts (may_step K (Task (task_name_of K q))) (not (skips (step (system_of S) R K (Task (task_name_of K q))))) a).1)
      by false l a = worker-turn (q - tasks_made K)
