-- Tasks, PIDs and signals (clone(2), wait(2), kill(2), signal(7)).
use Rattle.std.specs.Prelude.{ℕ, zero, suc, ◌+◌, ◌-◌, Bool, true, false, ◌&&◌, ◌||◌, not, if◌then◌else◌, ◌==◌, List, [], ◌∷◌, length, take}
use Rattle.std.specs.Prelude.{Option, Some, None, Ok, nat_le}
use Rattle.hist_model.specs.Kinds.{ends, makes}
use Rattle.hist_model.specs.Look.{Name, name_eq, is_task, event_at, newest, or_else}
use Rattle.hist_model.specs.declared.event.Event.{Event}
use Rattle.hist_model.specs.declared.event.What.{What}
use Rattle.hist_model.specs.declared.event.What.TheVariants.{Spawn, Deliver, Reap, Signal, Handler}
use Rattle.hist_model.specs.declared.event.Disposition.{Disposition}
use Rattle.hist_model.specs.declared.event.Disposition.TheVariants.{Default}

unfoldable pub ended : List Event → Name → Bool
ended [] n = false
ended (e ∷ K) n = (ends e.what && is_task e.who n) || ended K n

-- the step reaps the task of this name
abbrev pub reaps : What → Name → Bool
reaps (Reap (Ok m)) n = name_eq m n
reaps _ n = false

unfoldable pub was_waited_for : List Event → Name → Bool
was_waited_for [] n = false
was_waited_for (e ∷ K) n = reaps e.what n || was_waited_for K n

-- the name without its last number; empty for a task without a parent
abbrev pub parent : Name → Name
parent n = take (length n - 1) n

abbrev pub has_parent : Name → Bool
has_parent n = nat_le 2 (length n)

unfoldable pub reaped : List Event → Name → Bool
reaped K n = was_waited_for K n || (ended K n && (not (has_parent n) || ended K (parent n)))

-- the name and the number that a spawn gave
abbrev pub child_of : What → Name
child_of (Spawn n a) = n
child_of _ = []

abbrev pub given : What → Option ℕ
given (Spawn n (Ok a)) = Some a.0
given _ = None

abbrev pub name_in : Option Event → Name
name_in (Some e) = child_of e.what
name_in None = []

abbrev pub given_in : Option Event → Option ℕ
given_in (Some e) = given e.what
given_in None = None

-- the name of the task at place t, and its PID
abbrev pub name_of : List Event → ℕ → Name
name_of K t = name_in (event_at K t)

abbrev pub pid_of : List Event → ℕ → Option ℕ
pid_of K t = given_in (event_at K t)

abbrev pub is_some_of : Option ℕ → ℕ → Bool
is_some_of (Some q) p = q == p
is_some_of None p = false

-- the task at place t has this number, and is not reaped
abbrev pub holds : List Event → ℕ → ℕ → Bool
holds K p t = is_some_of (pid_of K t) p && not (reaped K (name_of K t))

unfoldable pub holder : List Event → ℕ → Option ℕ
holder K p = newest (holds K p) (length K)

abbrev pub is_none : Option ℕ → Bool
is_none None = true
is_none (Some t) = false

-- the first number without a holder among the n from p on
unfoldable pub free_from : List Event → ℕ → ℕ → Option ℕ
free_from K zero p = None
free_from K (suc n) p = if is_none (holder K p) then Some p else free_from K n (p + 1)

abbrev pub or_number : Option ℕ → ℕ → ℕ
or_number (Some p) q = p
or_number None q = q

-- the last number given; the base where there is none
unfoldable pub last_pid : ℕ → List Event → ℕ
last_pid base [] = base
last_pid base (e ∷ K) = or_number (given e.what) (last_pid base K)

-- the next number: the first free one after the last one given, and then from the first one on
unfoldable pub next_pid : ℕ → ℕ → List Event → Option ℕ
next_pid base pidmax K =
    or_else (free_from K (base + pidmax - last_pid base K) (last_pid base K + 1)) (free_from K (last_pid base K - base) (base + 1))

-- a task of this name was made
unfoldable pub is_made : List Event → Name → Bool
is_made [] n = false
is_made (e ∷ K) n = (makes e.what && name_eq (child_of e.what) n) || is_made K n

abbrev pub alive : List Event → Name → Bool
alive K n = is_made K n && not (ended K n)

abbrev pub handles : What → ℕ → Option Disposition
handles (Handler s m) sig = if s == sig then Some m else None
handles _ sig = None

abbrev pub disposition_or : Option Disposition → Disposition → Disposition
disposition_or (Some m) d = m
disposition_or None d = d

-- what the task does at a signal
unfoldable pub disposition : List Event → Name → ℕ → Disposition
disposition [] n sig = Default
disposition (e ∷ K) n sig = disposition_or (if is_task e.who n then handles e.what sig else None)
    (if name_eq (child_of e.what) n then disposition K (parent n) sig else disposition K n sig)

-- the task at this place, if there is one, has this name
abbrev pub is_named : List Event → Option ℕ → Name → Bool
is_named K (Some t) n = name_eq (name_of K t) n
is_named K None n = false

-- after K, the step sends the signal to the task of this name
abbrev pub sends_signal : List Event → What → Name → ℕ → Bool
sends_signal K (Signal pid s (Ok u)) n sig = (s == sig) && is_named K (holder K pid) n
sends_signal K _ n sig = false

abbrev pub delivers : What → ℕ → Bool
delivers (Deliver s effect) sig = s == sig
delivers _ sig = false

unfoldable pub pending : List Event → Name → ℕ → Bool
pending [] n sig = false
pending (e ∷ K) n sig = sends_signal K e.what n sig || (not (delivers e.what sig && is_task e.who n) && pending K n sig)
