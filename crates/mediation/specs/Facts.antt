-- Facts of legal histories, beside those that mediation asks for, and which kinds of event can change which definitions.
use Rattle.std.specs.Prelude.{◌≡◌, ◌⊎◌, ℕ, true, false, List, [], ◌∷◌, ◌++◌, Some, None, Err, Bool}
use Rattle.hist_model.specs.Look.{event_at, Name, is_worker}
use Rattle.hist_model.specs.Tasks.{name_of, ended, reaped, holder, next_pid}
use Rattle.hist_model.specs.Kinds.{closes, gives_up, is_good_check}
use Rattle.hist_model.specs.Calls.{is_call, id, caller, listed, settled, waiting, named, fetched, answered, count}
use Rattle.hist_model.specs.Sessions.{Rules, session, any_of, first_some, put_in, take_in}
use Rattle.hist_model.specs.Systems.{System}
use Rattle.hist_model.specs.Laws.{fetcher}
use Rattle.hist_model.specs.Steps.{IsLegal, makes_in, session_call, task_place, group, mem, base, install_at, request_of}
use Rattle.hist_model.specs.Legal.{Finished}
use Rattle.hist_model.specs.declared.event.Event.{Event}
use Rattle.hist_model.specs.declared.event.What.{What}
use Rattle.hist_model.specs.declared.event.What.TheVariants.{Spawn, Enter, Deliver, Reap, Exit, Resume, Close}
use Rattle.hist_model.specs.declared.event.What.TheVariants.{Recv, AddfdPut, Install, Send}

-- two calls have different ids, listed or not
abbrev pub CallIdsDiffer : List Event → Type 0
CallIdsDiffer K = (c d : ℕ) → is_call K c ≡ true → is_call K d ≡ true → id K c ≡ id K d → c ≡ d

-- the listener isn't closed in these events
abbrev pub NoClose : List Event → Type 0
NoClose [] = Unit {0}
NoClose (e ∷ L) = (closes e.what ≡ false) × NoClose L

-- a legal history that continues a finished one, without its close, is finished
abbrev pub StaysFinished : System → Rules → Type 0
StaysFinished S R = (K L : List Event) → IsLegal S R (L ++ K) → Finished K → NoClose L → Finished (L ++ K)

-- two tasks have different names
abbrev pub NamesDiffer : List Event → Type 0
NamesDiffer K = (t u : ℕ) → makes_in (event_at K t) ≡ true → makes_in (event_at K u) ≡ true → name_of K t ≡ name_of K u → t ≡ u

-- while a session's call is listed, and once a check of it was good, the memory and the base that it has
-- opened are of its call's task's group
abbrev pub HandlesOwn : List Event → Type 0
HandlesOwn K = (w c t g : ℕ) → session_call K w ≡ Some c → task_place K (caller K c) ≡ Some t
    → (listed K c ≡ true) ⊎ (any_of is_good_check (session K w) ≡ true)
    → (mem K w ≡ Some g → g ≡ group K t) × (base K w ≡ Some g → g ≡ group K t)

-- a fetched call that is still listed: where its session has ended, or is about to, it is settled; where the session goes on,
-- and isn't to get the descriptor that it asked for, it waits
pub record SessionSettles (K : List Event) (w c : ℕ) : Type 0 where
  pub ended : (session_call K w ≡ Some c → ⊥) → settled K c ≡ true
  pub ends : session_call K w ≡ Some c → any_of gives_up (session K w) ≡ true → settled K c ≡ true
  pub goes_on : session_call K w ≡ Some c → any_of gives_up (session K w) ≡ false
      → first_some put_in (session K w) ≡ None → waiting K c ≡ true
  -- it waits too where the broker had no such descriptor, and where the installation failed,
  -- before the session has taken that answer and after it
  pub refused : (x : ℕ) → session_call K w ≡ Some c → any_of gives_up (session K w) ≡ false
      → first_some put_in (session K w) ≡ Some (Err x) → waiting K c ≡ true
  pub failed : (x : ℕ) → session_call K w ≡ Some c → any_of gives_up (session K w) ≡ false
      → (install_at K (request_of K w) ≡ Some (Err x)) ⊎ (first_some take_in (session K w) ≡ Some (Err x)) → waiting K c ≡ true

abbrev pub SessionsSettle : List Event → Type 0
SessionsSettle K = (w c : ℕ) → listed K c ≡ true → fetcher K c ≡ Some w → SessionSettles K w c

-- ---- which kinds of event can change which definitions

abbrev pub changes_tasks : What → Bool
changes_tasks (Spawn n a) = true
changes_tasks (Enter nr args v) = true
changes_tasks (Deliver s effect) = true
changes_tasks (Reap a) = true
changes_tasks Exit = true
changes_tasks _ = false

abbrev pub changes_list : What → Bool
changes_list (Enter nr args v) = true
changes_list (Resume b) = true
changes_list (Deliver s effect) = true
changes_list Close = true
changes_list _ = false

abbrev pub changes_fetched : What → Bool
changes_fetched (Recv a) = true
changes_fetched _ = false

abbrev pub changes_count : What → Bool
changes_count (Enter nr args v) = true
changes_count (Recv a) = true
changes_count _ = false

abbrev pub changes_answered : What → Bool
changes_answered (AddfdPut q a) = true
changes_answered (Install a) = true
changes_answered (Send x b a) = true
changes_answered _ = false

-- what stays where the kind of the event changes nothing of it
pub record Frame (K : List Event) (e : Event) : Type 0 where
  pub ended_same : (n : Name) → changes_tasks e.what ≡ false → ended (e ∷ K) n ≡ ended K n
  pub reaped_same : (n : Name) → changes_tasks e.what ≡ false → reaped (e ∷ K) n ≡ reaped K n
  pub holder_same : (p : ℕ) → changes_tasks e.what ≡ false → holder (e ∷ K) p ≡ holder K p
  pub next_same : (base pidmax : ℕ) → changes_tasks e.what ≡ false → next_pid base pidmax (e ∷ K) ≡ next_pid base pidmax K
  pub listed_same : (c : ℕ) → changes_list e.what ≡ false → listed (e ∷ K) c ≡ listed K c
  pub named_same : (x : ℕ) → changes_list e.what ≡ false → named (e ∷ K) x ≡ named K x
  pub fetched_same : (c : ℕ) → changes_fetched e.what ≡ false → fetched (e ∷ K) c ≡ fetched K c
  pub count_same : changes_count e.what ≡ false → count (e ∷ K) ≡ count K
  pub settled_same : (c : ℕ) → changes_answered e.what ≡ false → settled (e ∷ K) c ≡ settled K c
  pub answered_same : (c : ℕ) → changes_answered e.what ≡ false → answered (e ∷ K) c ≡ answered K c
  pub session_same : (w : ℕ) → is_worker e.who w ≡ false → session (e ∷ K) w ≡ session K w
