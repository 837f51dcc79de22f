-- A worker's session, and its next deed: the order of seccomp_unotify(2) (open the memory, check, read, check again, use).
use Rattle.std.specs.Prelude.{ℕ, suc, Bool, false, ◌&&◌, ◌||◌, not, if◌then◌else◌, ◌==◌, List, [], ◌∷◌, Option, Some, None, Result}
use Rattle.std.specs.Prelude.{Ok, Err, ℤ, pos}
use Rattle.hist_model.specs.Kinds.{starts, skips, is_letgo, gives_up, opens, opens_base, checks, is_read}
use Rattle.hist_model.specs.Look.{is_worker}
use Rattle.hist_model.specs.Deeds.{Deed}
use Rattle.hist_model.specs.declared.event.Event.{Event}
use Rattle.hist_model.specs.declared.event.What.{What}
use Rattle.hist_model.specs.declared.event.What.TheVariants.{Recv, Act, Plant, AddfdPut, AddfdTake}
use Rattle.hist_model.specs.declared.event.Back.{Back}
use Rattle.hist_model.specs.declared.event.Back.TheVariants.{Value, Fail, Continue}
use Rattle.hist_model.specs.declared.request.Request.{Request}
use Rattle.hist_model.specs.declared.policy.Cap.{Cap}
use Rattle.sys_abi.specs.Errnos.{emfile}
use Rattle.sys_abi.specs.declared.wire.Notif.{Notif}
use Rattle.sys_abi.specs.declared.wire.Addfd.{Addfd}

-- one more step of a session; none where there is no session yet
abbrev pub joined : What → List What → List What
joined a [] = if starts a then a ∷ [] else []
joined a (b ∷ own) = if starts a then a ∷ [] else (a ∷ b ∷ own)

-- a worker's steps but Skip, the newest first, back to its last receive that answered Ok; empty where there is none
unfoldable pub session : List Event → ℕ → List What
session [] w = []
session (e ∷ K) w = if is_worker e.who w && not (skips e.what) then joined e.what (session K w) else session K w

abbrev pub any_of : (What → Bool) → List What → Bool
any_of p [] = false
any_of p (a ∷ own) = p a || any_of p own

abbrev pub number_of : (What → Bool) → List What → ℕ
number_of p [] = 0
number_of p (a ∷ own) = if p a then suc (number_of p own) else number_of p own

-- the notification that the session fetched
abbrev pub fetched_by : What → Option Notif
fetched_by (Recv (Ok notif)) = Some notif
fetched_by _ = None

abbrev pub or_notif : Option Notif → Option Notif → Option Notif
or_notif (Some n) m = Some n
or_notif None m = m

abbrev pub notif_of : List What → Option Notif
notif_of [] = None
notif_of (a ∷ own) = or_notif (fetched_by a) (notif_of own)

-- the outcome of the session's act or plant, of its put, and of its take
abbrev pub outcome_in : What → Option (Result (Unit {0}) ℕ)
outcome_in (Act q cap answer) = Some answer
outcome_in (Plant a b cap answer) = Some answer
outcome_in _ = None

abbrev pub put_in : What → Option (Result (Unit {0}) ℕ)
put_in (AddfdPut asked answer) = Some answer
put_in _ = None

abbrev pub take_in : What → Option (Result ℕ ℕ)
take_in (AddfdTake answer) = Some answer
take_in _ = None

abbrev pub or_some : {A : Type 0} → Option A → Option A → Option A
or_some (Some a) b = Some a
or_some None b = b

abbrev pub first_some : {A : Type 0} → (What → Option A) → List What → Option A
first_some f [] = None
first_some f (a ∷ own) = or_some (f a) (first_some f own)

-- the session's reads
abbrev pub reads_of : List What → List What
reads_of [] = []
reads_of (a ∷ own) = if is_read a then a ∷ reads_of own else reads_of own

-- what the deciding rule makes of a copy: an errno, a native call, an act or a plant with the rule's cap, a descriptor
pub data Decision : Type 0 where
  Denies : ℕ → Decision
  Passes : Decision
  Acts : Request → Option Cap → Decision
  Plants : ℕ → List ℕ → Option Cap → Decision
  Injects : ℕ → Option ℕ → ℕ → Decision

-- what the plan, the copy and the policy make of a session; their own definitions stand in its place
pub record Rules : Type 0 where
  pub dirfd : Notif → Option ℤ
  pub next_piece : Notif → List What → Option (ℕ × ℕ)
  pub fault : Notif → List What → Option ℕ
  pub decide : Notif → List What → Decision

abbrev pub back_of_outcome : Result (Unit {0}) ℕ → Back
back_of_outcome (Ok u) = Value (pos 0)
back_of_outcome (Err e) = Fail e

abbrev pub after_act : ℕ → Option (Result (Unit {0}) ℕ) → Deed → Deed
after_act x None d = d
after_act x (Some r) d = Deed.Send x (back_of_outcome r)

-- the request of an injection: with SEND, and with SETFD where a number is asked for
abbrev pub addfd_of : ℕ → ℕ → Option ℕ → ℕ → Addfd
addfd_of x src None flags = record { id = x; flags = 2; srcfd = src; newfd = 0; newfd_flags = flags }
addfd_of x src (Some at) flags = record { id = x; flags = 3; srcfd = src; newfd = at; newfd_flags = flags }

abbrev pub inject_deed : ℕ → Addfd → Option (Result (Unit {0}) ℕ) → Option (Result ℕ ℕ) → Deed
inject_deed x a None t = Deed.AddfdPut a
inject_deed x a (Some (Err e)) t = Deed.Send x (Fail e)
inject_deed x a (Some (Ok u)) None = Deed.AddfdTake
inject_deed x a (Some (Ok u)) (Some t) = Deed.Send x (Fail emfile)

abbrev pub decided_deed : ℕ → List What → Decision → Deed
decided_deed x own (Denies e) = Deed.Send x (Fail e)
decided_deed x own Passes = Deed.Send x Continue
decided_deed x own (Acts q cap) = after_act x (first_some outcome_in own) (Deed.Act q cap)
decided_deed x own (Plants a b cap) = after_act x (first_some outcome_in own) (Deed.Plant a b cap)
decided_deed x own (Injects src at flags) = inject_deed x (addfd_of x src at flags) (first_some put_in own) (first_some take_in own)

abbrev pub judged_deed : Rules → Notif → List What → Option ℕ → Deed
judged_deed R n own (Some f) = Deed.Send n.id (Fail f)
judged_deed R n own None = decided_deed n.id own (R.decide n (reads_of own))

abbrev pub copied_deed : Rules → Notif → List What → Option (ℕ × ℕ) → Deed
copied_deed R n own (Some a) = Deed.Read a.0 a.1
copied_deed R n own None = if number_of checks own == 1 then Deed.Check n.id else judged_deed R n own (R.fault n (reads_of own))

abbrev pub checked_deed : Rules → Notif → List What → Deed
checked_deed R n own = if not (any_of checks own) then Deed.Check n.id else copied_deed R n own (R.next_piece n (reads_of own))

abbrev pub based_deed : Rules → Notif → List What → Option ℤ → Deed
based_deed R n own (Some d) = if not (any_of opens_base own) then Deed.OpenBase n.pid d else checked_deed R n own
based_deed R n own None = checked_deed R n own

abbrev pub open_deed : Rules → Notif → List What → Deed
open_deed R n own =
    if any_of is_letgo own then Deed.Recv else (
    if any_of gives_up own then Deed.LetGo else (
    if not (any_of opens own) then Deed.OpenMem n.pid else based_deed R n own (R.dirfd n)))

abbrev pub deed_for : Rules → Option Notif → List What → Deed
deed_for R None own = Deed.Recv
deed_for R (Some n) own = open_deed R n own

-- what a worker does next, by its own steps
unfoldable pub deed : Rules → List What → Deed
deed R own = deed_for R (notif_of own) own
