-- The answers of the listener: the notification that a worker receives is that of the oldest call that wasn't received.
-- By the queue's answer, since a listed call's task waits in it.
use Rattle.std.proofs.Common.{◌≡◌, ℕ, ℤ, ◌<◌, Bool, true, false, List, Some, refl, sym, ap, ◌∙◌, arith, Ok, Err, Result, if◌then◌else◌, not}
use Rattle.std.proofs.lemmas.Bool.{and_parts, ne_eqb}
use Rattle.hist_model.specs.Calls.{caller, count, id, listed}
use Rattle.hist_model.specs.Deeds as deed
use Rattle.hist_model.specs.Look.{event_at}
use Rattle.hist_model.specs.Signals.{call_of}
use Rattle.hist_model.specs.Steps.{args_in, deed_step, notif, nr_in, oldest_unfetched, pid_named, recv_answer}
use Rattle.hist_model.specs.Systems.{System}
use Rattle.hist_model.specs.declared.notification.Fetched.{Fetched}
use Rattle.hist_model.proofs.Look.{oldest-some}
use Rattle.sys_abi.specs.Errnos.{ebadf}
use Rattle.sys_abi.specs.declared.wire.Notif.{Notif}
use Rattle.listener.specs.Stands.{IsNext}
use Rattle.listener.proofs.Stand.{waits-here}
use Rattle.model_kernel.proofs.Words.{Event, IsKernel, Kernel, past, Recv, Skip}

-- the task of the next call waits in it
pub next-waits : (k : Kernel) (call : Fetched) → IsKernel k → (next : IsNext (past k) call) → call_of (past k) (caller (past k) next.place) ≡ Some next.place
unfolding oldest_unfetched
next-waits k call s next =
    let found = (oldest-some _ _ next.place next.oldest).0 in
    waits-here k.script.firstid (past k) k.resources.listener s.resources.listener next.place (and_parts (listed (past k) next.place) _ found).0

-- a receive while requests are counted is an event
pub receive-step : (S : System) (K : List Event) (w : ℕ) (answer : Result Notif ℕ) → 0 < count K → recv_answer K (oldest_unfetched K) ≡ answer → Recv answer ≡ deed_step S K w deed.Recv
receive-step S K w answer some is = rw (ne_eqb (count K) 0 (λ n. omega (arith, some, n)), is) refl

pub no-receive : (S : System) (K : List Event) (w : ℕ) → count K ≡ 0 → deed_step S K w deed.Recv ≡ Skip
no-receive S K w none = rw none refl

-- what is told of the next call
pub told : (K : List Event) (call : Fetched) (next : IsNext K call) (n : Notif) → n ≡ notif K next.place → recv_answer K (oldest_unfetched K) ≡ Ok n
told K call next n is = ap (recv_answer K) next.oldest ∙ ap Ok (sym is)

pub notif-is : (K : List Event) (c x pid : ℕ) (nr : ℤ) (args : List ℕ) → x ≡ id K c → pid ≡ pid_named K (caller K c) → nr ≡ nr_in (event_at K c) → args ≡ args_in (event_at K c)
    → ◌≡◌ {A = Notif} (record { id = x; pid = pid; flags = 0; call = record { nr = nr; arch = 0xc000003e; ip = 0; args = args } }) (notif K c)
notif-is K c x pid nr args is number entered given = rw (is, number, entered, given) refl

-- what is answered of a request whose source is open
pub asked-open : (found : Bool) (answer : Result (Unit {0}) ℕ) → found ≡ true → (if not found then Err ebadf else answer) ≡ answer
asked-open true answer h = refl
asked-open false answer h = cc
