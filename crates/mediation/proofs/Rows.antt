-- What the step of an actor of a legal history can be, kind by kind, and what it then tells.
-- By the rows of the kernel, and by the cases of what a worker of this broker does next.
use Rattle.hist_model.specs.Steps.{IsOfKernel, IsKernelStep, IsKernelAnswer}
use Rattle.hist_model.specs.Legal.{Legal, OfKernel}
use Rattle.mediation.proofs.Common.{Policy, Script, rules_of, system_of}
use Rattle.mediation.proofs.KernelRows.{Answered, KernelRow, task_row}
use Rattle.mediation.proofs.Common.{[], Act, Actor, Acts, Addfd, addfd_of, AddfdPut, AddfdTake, any_of, arith, based_deed, Check}
use Rattle.mediation.proofs.Common.{checked_deed, checks, Deed, deed, deed_step, Each, Event, false, first_some, gives_up}
use Rattle.mediation.proofs.Common.{Injects, is_letgo, is_start, IsLegal, IsStep}
use Rattle.mediation.proofs.Common.{judged_deed, length, LetGo, List, Listener, mem, None, Notif}
use Rattle.mediation.proofs.Common.{notif_of, number_of, Ok, open_deed, OpenBase, OpenMem, opens, opens_base, Option, outcome_in, Plant, Plants}
use Rattle.mediation.proofs.Common.{put_in, Read, reads_of, Recv, refl, Rules, Send}
use Rattle.mediation.proofs.Common.{session, Skip, Some, Start, step, System, take_in, Task, true, What, Worker}
use Rattle.mediation.proofs.Common.{worker_step, ℕ, ◌<◌, ◌==◌, ◌^◌, ◌∷◌, ◌≡◌, ◌⊎◌}

-- the session is at work, for this notification
pub record AtWork (own : List What) (n : Notif) : Type 0 where
  pub notif_is : notif_of own ≡ Some n
  pub no_letgo : any_of is_letgo own ≡ false
  pub no_end : any_of gives_up own ≡ false

-- it has opened what it reads and looks up in
pub record HasOpened (R : Rules) (own : List What) (n : Notif) : Type 0 where
  pub mem : any_of opens own ≡ true
  pub base : (R.dirfd n ≡ None) ⊎ (any_of opens_base own ≡ true)

-- it has read the copy, between two good checks
pub record HasCopied (R : Rules) (own : List What) (n : Notif) : Type 0 where
  pub checked : any_of checks own ≡ true
  pub twice : (number_of checks own == 1) ≡ false
  pub copied : R.next_piece n (reads_of own) ≡ None

-- the rule injects, and this is the request
pub record IsInjected (R : Rules) (own : List What) (n : Notif) (q : Addfd) : Type 0 where
  pub src : ℕ
  pub place : Option ℕ
  pub flags : ℕ
  pub sound : R.fault n (reads_of own) ≡ None
  pub decided : R.decide n (reads_of own) ≡ Injects src place flags
  pub is : q ≡ addfd_of n.id src place flags

-- what a step of a session tells of the steps before it
abbrev pub Told : Rules → List What → What → Type 0
Told R own (Recv a) = (notif_of own ≡ None) ⊎ (any_of is_letgo own ≡ true)
Told R own LetGo = (n : Notif) × (notif_of own ≡ Some n) × (any_of is_letgo own ≡ false) × (any_of gives_up own ≡ true)
Told R own (OpenMem p a) = (n : Notif) × AtWork own n × (any_of opens own ≡ false) × (p ≡ n.pid)
Told R own (OpenBase p d a) = (n : Notif) × AtWork own n × (any_of opens own ≡ true) × (any_of opens_base own ≡ false) × (p ≡ n.pid) × (R.dirfd n ≡ Some d)
Told R own (Check x a) = (n : Notif) × AtWork own n × HasOpened R own n × (x ≡ n.id) × ((any_of checks own ≡ false) ⊎ (((number_of checks own == 1) ≡ true) × (R.next_piece n (reads_of own) ≡ None)))
Told R own (Read x l a) = (n : Notif) × AtWork own n × HasOpened R own n × (any_of checks own ≡ true) × (R.next_piece n (reads_of own) ≡ Some (x, l))
Told R own (Act q cap a) = (n : Notif) × AtWork own n × HasOpened R own n × HasCopied R own n × (R.decide n (reads_of own) ≡ Acts q cap) × (first_some outcome_in own ≡ None) × (R.fault n (reads_of own) ≡ None)
Told R own (Plant x bs cap a) = (n : Notif) × AtWork own n × HasOpened R own n × HasCopied R own n × (R.decide n (reads_of own) ≡ Plants x bs cap) × (first_some outcome_in own ≡ None) × (R.fault n (reads_of own) ≡ None)
Told R own (AddfdPut q a) = (n : Notif) × AtWork own n × HasOpened R own n × HasCopied R own n × IsInjected R own n q × (first_some put_in own ≡ None)
Told R own (AddfdTake a) = (n : Notif) × AtWork own n × HasOpened R own n × HasCopied R own n × ((u : Unit {0}) × (first_some put_in own ≡ Some (Ok u))) × (first_some take_in own ≡ None)
Told R own (Send x b a) = (n : Notif) × AtWork own n × HasOpened R own n × HasCopied R own n × (x ≡ n.id) × (judged_deed R n own (R.fault n (reads_of own)) ≡ Deed.Send n.id b)
Told R own _ = ⊥

-- a worker's step tells this
abbrev pub WorkerRow : System → Rules → List Event → ℕ → What → Type 0
WorkerRow S R K w Skip = Unit {0}
WorkerRow S R K w what = Told R (session K w) what × Answered S K w what

-- and each other step what it tells of any history of the kernel
abbrev pub Row : System → Rules → List Event → Actor → What → Type 0
Row S R K (Worker w) what = WorkerRow S R K w what
Row S R K a what = KernelRow S K a what

module _ (S : System) (R : Rules) (K : List Event) (w : ℕ) where
  judged_row : (n : Notif) → AtWork (session K w) n → HasOpened R (session K w) n → HasCopied R (session K w) n
      → WorkerRow S R K w (deed_step S K w (judged_deed R n (session K w) (R.fault n (reads_of (session K w)))))
  judged_row n work ready c = grind arith

  checked_row : (n : Notif) → AtWork (session K w) n → HasOpened R (session K w) n → WorkerRow S R K w (deed_step S K w (checked_deed R n (session K w)))
  checked_row n work ready = grind (arith, judged_row)

  based_row : (n : Notif) → AtWork (session K w) n → any_of opens (session K w) ≡ true → WorkerRow S R K w (deed_step S K w (based_deed R n (session K w) (R.dirfd n)))
  based_row n work o = grind (arith, checked_row)

  open_row : (n : Notif) → notif_of (session K w) ≡ Some n → WorkerRow S R K w (deed_step S K w (open_deed R n (session K w)))
  open_row n q = grind (arith, based_row)

  worker_row : WorkerRow S R K w (worker_step S R K w)
  unfolding worker_step deed
  worker_row = grind (arith, open_row)

-- the step of an actor is one of its rows
pub step-row : (S : System) (R : Rules) (K : List Event) (a : Actor) → is_start a ≡ false → Row S R K a (step S R K a)
unfolding step
step-row S R K a h = grind (arith, task_row, worker_row)

-- and so is each event of a legal history
pub row-of : (S : System) (R : Rules) (K : List Event) (e : Event) → IsStep S R K e → Row S R K e.who e.what
row-of S R [] e r = rw r (refl, refl, refl)
row-of S R (f ∷ K) e r = rw (← r.2) at (step-row S R (f ∷ K) e.who r.1)

-- ---- a legal history is one of the kernel

answer-of : (S : System) (R : Rules) (K : List Event) (a : Actor) (w : What) → is_start a ≡ false → w ≡ step S R K a → IsKernelAnswer S K a w
unfolding step worker_step
answer-of S R K Start w h q = absurd cc
answer-of S R K (Task n) w h q = q
answer-of S R K (Worker n) w h q = (deed R (session K n), q)
answer-of S R K Listener w h q = q

kernel-step : (S : System) (R : Rules) (K : List Event) (e : Event) → IsStep S R K e → IsKernelStep S K e
kernel-step S R [] e r = r
kernel-step S R (f ∷ K) e r = (r.0, answer-of S R (f ∷ K) e.who e.what r.1 r.2, r.3)

pub of-kernel : (S : System) (R : Rules) (K : List Event) → IsLegal S R K → IsOfKernel S K
of-kernel S R [] legal = tt
of-kernel S R (e ∷ K) legal = (kernel-step S R K e legal.0, of-kernel S R K legal.1)

pub legal_of_kernel : (P : Policy) (S : Script) (K : List Event) → Legal P S K → OfKernel S K
legal_of_kernel P S K legal = (of-kernel (system_of S) (rules_of P S.figures) K legal.0, legal.1, legal.2)

pub kernel-row : (S : System) (R : Rules) (K : List Event) (a : Actor) (w : What) → Row S R K a w → KernelRow S K a w
kernel-row S R K a w r = grind arith

-- ---- inductions

-- what holds of no events, and with one more step still, holds of each legal history
pub by-steps : (S : System) (R : Rules) (P : List Event → Type 0) → P [] → ((K : List Event) (e : Event) → IsLegal S R K → Row S R K e.who e.what → P K → P (e ∷ K)) → (K : List Event) → IsLegal S R K → P K
by-steps S R P z f [] legal = z
by-steps S R P z f (e ∷ K) legal = f K e legal.1 (row-of S R K e legal.0) (by-steps S R P z f K legal.1)

-- the same of a history in which ids don't wrap
pub by-few-steps : (S : System) (R : Rules) (P : List Event → Type 0) → P [] → ((K : List Event) (e : Event) → IsLegal S R K → length K < 2 ^ 64 → Row S R K e.who e.what → P K → P (e ∷ K))
    → (K : List Event) → IsLegal S R K → length K < 2 ^ 64 → P K
by-few-steps S R P z f [] legal room = z
by-few-steps S R P z f (e ∷ K) legal room = f K e legal.1 (omega arith) (row-of S R K e legal.0) (by-few-steps S R P z f K legal.1 (omega arith))

-- what each step tells holds of each event
pub each : (S : System) (R : Rules) (P : List Event → Event → Type 0) → ((K : List Event) (e : Event) → IsLegal S R K → length K < 2 ^ 64 → Row S R K e.who e.what → P K e)
    → (K : List Event) → IsLegal S R K → length K < 2 ^ 64 → Each P K
each S R P f = by-few-steps S R (Each P) tt (λ K e legal room r ih. (f K e legal room r, ih))
