-- What the kernel answers a deed is one of its answers, and may stand in a ledger where a session is open and stays open.
-- By the cases of the deed and of the answer; and by those of the rules, no deed of an open session is a receive.
use Rattle.std.proofs.Common.{◌≡◌, ℕ, Bool, true, false, not, List, length, refl, Option, Some, None}
use Rattle.std.specs.Prelude.{if◌then◌else◌, ◌==◌, Result, Ok, Err, ℤ}
use Rattle.std.proofs.lemmas.Bool.{eq-eqb, le-leb}
use Rattle.sys_abi.specs.Errnos.{efault, enoent}
use Rattle.sys_abi.specs.declared.wire.Addfd.{Addfd}
use Rattle.sys_abi.specs.declared.wire.Notif.{Notif}
use Rattle.hist_model.specs.Deeds.{Deed}
use Rattle.hist_model.specs.Kinds.{checks, gives_up, is_letgo, opens, opens_base, skips, starts}
use Rattle.hist_model.specs.Sessions.{Acts, Decision, Denies, Injects, Passes, Plants, Rules, addfd_of, after_act, any_of, based_deed, checked_deed, copied_deed, decided_deed, deed, deed_for, first_some, inject_deed, judged_deed, notif_of, number_of, open_deed, outcome_in, put_in, reads_of, take_in}
use Rattle.hist_model.specs.declared.event.What.{What}
use Rattle.broker_core.specs.Answers.{Answer, Bytes, Done, Failed, Fits, NotYet, Number, Received, is_let_go, is_not_yet, shown, step_of}
use Rattle.worker_ledger.specs.Notes.{is_received}
use Rattle.worker_ledger.specs.Successors.{is_answer_to, may_stand}

-- ---- Deeds of an open session

-- the deed is no receive
abbrev pub IsLater : Deed → Type 0
IsLater Deed.Recv = ⊥
IsLater _ = Unit {0}

later-if : (b : Bool) (x y : Deed) → IsLater x → IsLater y → IsLater (if b then x else y)
later-if true x y h g = h
later-if false x y h g = g

later-act : (x : ℕ) (o : Option (Result (Unit {0}) ℕ)) (d : Deed) → IsLater d → IsLater (after_act x o d)
later-act x None d h = h
later-act x (Some r) d h = tt

later-injection : (x : ℕ) (a : Addfd) (put : Option (Result (Unit {0}) ℕ)) (take : Option (Result ℕ ℕ)) → IsLater (inject_deed x a put take)
later-injection x a None take = tt
later-injection x a (Some (Err e)) take = tt
later-injection x a (Some (Ok u)) None = tt
later-injection x a (Some (Ok u)) (Some t) = tt

later-decided : (x : ℕ) (own : List What) (d : Decision) → IsLater (decided_deed x own d)
later-decided x own (Denies e) = tt
later-decided x own Passes = tt
later-decided x own (Acts q cap) = later-act x (first_some outcome_in own) (Deed.Act q cap) tt
later-decided x own (Plants a b cap) = later-act x (first_some outcome_in own) (Deed.Plant a b cap) tt
later-decided x own (Injects src at flags) = later-injection x (addfd_of x src at flags) (first_some put_in own) (first_some take_in own)

module _ (R : Rules) (n : Notif) (own : List What) where
  later-judged : (o : Option ℕ) → IsLater (judged_deed R n own o)
  later-judged (Some e) = tt
  later-judged None = later-decided n.id own (R.decide n (reads_of own))

  later-copied : (o : Option (ℕ × ℕ)) → IsLater (copied_deed R n own o)
  later-copied (Some q) = tt
  later-copied None = later-if (number_of checks own == 1) (Deed.Check n.id) _ tt (later-judged (R.fault n (reads_of own)))

  later-checked : IsLater (checked_deed R n own)
  later-checked = later-if (not (any_of checks own)) (Deed.Check n.id) _ tt (later-copied (R.next_piece n (reads_of own)))

  later-based : (d : Option ℤ) → IsLater (based_deed R n own d)
  later-based (Some d) = later-if (not (any_of opens_base own)) (Deed.OpenBase n.pid d) _ tt later-checked
  later-based None = later-checked

  later-open : any_of is_letgo own ≡ false → IsLater (open_deed R n own)
  later-open h = rw h (later-if (any_of gives_up own) Deed.LetGo _ tt (later-if (not (any_of opens own)) (Deed.OpenMem n.pid) _ tt (later-based (R.dirfd n))))

-- a notification was fetched
abbrev pub IsFetched : Option Notif → Type 0
IsFetched None = ⊥
IsFetched (Some n) = Unit {0}

pub later_deed : (R : Rules) (own : List What) → IsFetched (notif_of own) → any_of is_letgo own ≡ false → IsLater (deed R own)
unfolding deed
later_deed R own f h = by (notif_of own) f
  where
    by : (o : Option Notif) → IsFetched o → IsLater (deed_for R o own)
    by None g = absurd g
    by (Some n) g = later-open R n own h

-- ---- Answers

pub fit_stands : (d : Deed) (a : Answer) → IsLater d → is_let_go (shown d) ≡ false → is_not_yet a ≡ false → Fits (shown d) a → may_stand (shown d) a ≡ true
fit_stands Deed.Recv a l g y f = absurd l
fit_stands Deed.LetGo a l g y f = cc
fit_stands (Deed.Read addr len) (Bytes bs) l g y f = rw (le-leb 1 (length bs) f.0, le-leb (length bs) len f.1) refl
fit_stands (Deed.Read addr len) (Failed e) l g y f = eq-eqb e efault f
fit_stands (Deed.Read addr len) a l g y f = absurd f
fit_stands Deed.AddfdTake (Number n) l g y f = refl
fit_stands Deed.AddfdTake (Failed e) l g y f = refl
fit_stands Deed.AddfdTake NotYet l g y f = cc
fit_stands Deed.AddfdTake a l g y f = absurd f
fit_stands (Deed.OpenMem p) Done l g y f = refl
fit_stands (Deed.OpenMem p) (Failed e) l g y f = refl
fit_stands (Deed.OpenMem p) r l g y f = absurd f
fit_stands (Deed.OpenBase p d) Done l g y f = refl
fit_stands (Deed.OpenBase p d) (Failed e) l g y f = refl
fit_stands (Deed.OpenBase p d) r l g y f = absurd f
fit_stands (Deed.Check x) Done l g y f = refl
fit_stands (Deed.Check x) (Failed e) l g y f = refl
fit_stands (Deed.Check x) r l g y f = absurd f
fit_stands (Deed.Act q c) Done l g y f = refl
fit_stands (Deed.Act q c) (Failed e) l g y f = refl
fit_stands (Deed.Act q c) r l g y f = absurd f
fit_stands (Deed.Plant a b c) Done l g y f = refl
fit_stands (Deed.Plant a b c) (Failed e) l g y f = refl
fit_stands (Deed.Plant a b c) r l g y f = absurd f
fit_stands (Deed.AddfdPut s) Done l g y f = refl
fit_stands (Deed.AddfdPut s) (Failed e) l g y f = refl
fit_stands (Deed.AddfdPut s) r l g y f = absurd f
fit_stands (Deed.Send x b) Done l g y f = refl
fit_stands (Deed.Send x b) (Failed e) l g y f = refl
fit_stands (Deed.Send x b) r l g y f = absurd f

pub fit_answer : (d : Deed) (a : Answer) → is_not_yet a ≡ false → Fits (shown d) a → is_answer_to (shown d) a ≡ true
fit_answer Deed.Recv (Received n) y f = refl
fit_answer Deed.Recv (Failed e) y f = eq-eqb e enoent f
fit_answer Deed.Recv NotYet y f = cc
fit_answer Deed.Recv a y f = absurd f
fit_answer Deed.LetGo Done y f = refl
fit_answer Deed.LetGo a y f = absurd f
fit_answer d a y f = fit_stands d a tt refl y f

-- ---- The step that is recorded of a deed and its answer

-- a notification is the answer of a receive, and letting go is the step of that deed
pub tells : (d : Deed) (a : Answer) → Fits (shown d) a → (is_received a ≡ starts (step_of d a)) × (is_let_go (shown d) ≡ is_letgo (step_of d a))
tells Deed.Recv (Received n) f = (refl, refl)
tells Deed.Recv (Failed e) f = (refl, refl)
tells Deed.Recv NotYet f = (refl, refl)
tells Deed.Recv a f = absurd f
tells (Deed.Read addr len) (Bytes bs) f = (refl, refl)
tells (Deed.Read addr len) (Failed e) f = (refl, refl)
tells (Deed.Read addr len) a f = absurd f
tells Deed.AddfdTake (Number n) f = (refl, refl)
tells Deed.AddfdTake (Failed e) f = (refl, refl)
tells Deed.AddfdTake NotYet f = (refl, refl)
tells Deed.AddfdTake a f = absurd f
tells Deed.LetGo Done f = (refl, refl)
tells Deed.LetGo a f = absurd f
tells (Deed.OpenMem p) Done f = (refl, refl)
tells (Deed.OpenMem p) (Failed e) f = (refl, refl)
tells (Deed.OpenMem p) r f = absurd f
tells (Deed.OpenBase p d) Done f = (refl, refl)
tells (Deed.OpenBase p d) (Failed e) f = (refl, refl)
tells (Deed.OpenBase p d) r f = absurd f
tells (Deed.Check x) Done f = (refl, refl)
tells (Deed.Check x) (Failed e) f = (refl, refl)
tells (Deed.Check x) r f = absurd f
tells (Deed.Act q c) Done f = (refl, refl)
tells (Deed.Act q c) (Failed e) f = (refl, refl)
tells (Deed.Act q c) r f = absurd f
tells (Deed.Plant a b c) Done f = (refl, refl)
tells (Deed.Plant a b c) (Failed e) f = (refl, refl)
tells (Deed.Plant a b c) r f = absurd f
tells (Deed.AddfdPut s) Done f = (refl, refl)
tells (Deed.AddfdPut s) (Failed e) f = (refl, refl)
tells (Deed.AddfdPut s) r f = absurd f
tells (Deed.Send x b) Done f = (refl, refl)
tells (Deed.Send x b) (Failed e) f = (refl, refl)
tells (Deed.Send x b) r f = absurd f

-- a step that is no skip has an answer
pub has_answer : (d : Deed) (a : Answer) → skips (step_of d a) ≡ false → is_not_yet a ≡ false
has_answer d NotYet h = no-step d h
  where
    no-step : (d : Deed) → skips (step_of d NotYet) ≡ false → true ≡ false
    no-step Deed.Recv h = h
    no-step (Deed.Read addr len) h = h
    no-step Deed.AddfdTake h = h
    no-step Deed.LetGo h = h
    no-step (Deed.OpenMem p) h = h
    no-step (Deed.OpenBase p d) h = h
    no-step (Deed.Check x) h = h
    no-step (Deed.Act q c) h = h
    no-step (Deed.Plant a b c) h = h
    no-step (Deed.AddfdPut s) h = h
    no-step (Deed.Send x b) h = h
has_answer d a h = refl
