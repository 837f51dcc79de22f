-- What holds of a history whose events are steps, and what a step is, as far as the tasks are concerned.
use Rattle.std.specs.Prelude.{◌≡◌, ◌⊎◌, ℕ, ◌<◌, ◌≤◌, ◌^◌, Bool, true, false, ◌&&◌, not, List, [], ◌∷◌, ◌++◌, length, Some, None, Ok}
use Rattle.hist_model.specs.Kinds.{closes, notifies, skips}
use Rattle.hist_model.specs.Laws.{PidsDiffer}
use Rattle.hist_model.specs.Legal.{system_of}
use Rattle.hist_model.specs.Look.{Name, event_at, is_task}
use Rattle.hist_model.specs.Memory.{last_call}
use Rattle.hist_model.specs.Signals.{call_of}
use Rattle.hist_model.specs.Steps.{steps_of, counts, recounts, is_spawn, owes_native, task_step, makes_in, start}
use Rattle.hist_model.specs.Tasks.{ended, was_waited_for, is_made, name_of, pending, disposition}
use Rattle.hist_model.specs.declared.event.Actor.TheVariants.{Task}
use Rattle.hist_model.specs.declared.event.Entered.TheVariants.{Kill}
use Rattle.hist_model.specs.declared.event.Event.{Event}
use Rattle.hist_model.specs.declared.event.Disposition.TheVariants.{Default}
use Rattle.hist_model.specs.declared.event.What.{What}
use Rattle.hist_model.specs.declared.event.What.TheVariants.{Spawn, Enter, Exit, Deliver, Reap, Handler, Signal, Skip}
use Rattle.hist_model.specs.declared.script.Script.{Script}
use Rattle.history_frames.specs.Ordinals.{tasks_made, task_name_of}

-- nothing has happened yet to a task of this name
pub record IsUntouched (K : List Event) (n : Name) : Type 0 where
  pub no_counts : steps_of counts K n ≡ 0
  pub no_recounts : steps_of recounts K n ≡ 0
  pub no_spawns : steps_of is_spawn K n ≡ 0
  pub no_call : call_of K n ≡ None
  pub no_entry : last_call K n ≡ Skip
  pub no_debt : owes_native K n ≡ false
  pub no_end : ended K n ≡ false
  pub no_wait : was_waited_for K n ≡ false
  pub no_signal : (sig : ℕ) → pending K n sig ≡ false

-- the name m with the last number k is that of the first task, or that of one of the spawns of a task that was made
abbrev pub IsFirstOrChild : List Event → Name → ℕ → Type 0
IsFirstOrChild K m k = ((m ≡ []) × (k ≡ 0)) ⊎ ((is_made K m ≡ true) × (1 ≤ k) × (k ≤ steps_of is_spawn K m))

-- PIDs and names differ, each name but the first task's is that of a task's child, only ended tasks are waited
-- for, nothing happens to tasks that weren't made, the start isn't counted, and a task waits in the call that it entered last
pub record IsSound (K : List Event) : Type 0 where
  pub pids : PidsDiffer K
  pub names : (t u : ℕ) → makes_in (event_at K t) ≡ true → makes_in (event_at K u) ≡ true → name_of K t ≡ name_of K u → t ≡ u
  pub nameless : is_made K [] ≡ false
  pub first : 0 < tasks_made K → task_name_of K 0 ≡ 0 ∷ []
  pub lineage : (m : Name) (k : ℕ) → is_made K (m ++ k ∷ []) ≡ true → IsFirstOrChild K m k
  pub waited : (n : Name) → was_waited_for K n ≡ true → ended K n ≡ true
  pub unmade : (n : Name) → is_made K n ≡ false → IsUntouched K n
  pub defaults : (sig : ℕ) → disposition K [] sig ≡ Default
  pub counted : (n : Name) → 0 < tasks_made K → steps_of counts K n < length K
  pub entries : (n : Name) (c : ℕ) → call_of K n ≡ Some c → (e : Event) × (event_at K c ≡ Some e) × (e.what ≡ last_call K n)

-- the event is the step of the task of this ordinal, in a history whose events can be counted
pub record IsStepOf (S : Script) (K : List Event) (e : Event) (o : ℕ) : Type 0 where
  pub there : o < tasks_made K
  pub who : e.who ≡ Task (task_name_of K o)
  pub step : e.what ≡ task_step (system_of S) K (task_name_of K o)
  pub few : length K < 2 ^ 64

-- the step makes and ends no task, reaps none, sends and delivers no signal, and sets no handler
abbrev pub keeps_tasks : What → Bool
keeps_tasks (Spawn n a) = false
keeps_tasks (Enter nr args Kill) = false
keeps_tasks Exit = false
keeps_tasks (Deliver sig effect) = false
keeps_tasks (Reap (Ok m)) = false
keeps_tasks (Handler sig m) = false
keeps_tasks (Signal p sig (Ok u)) = false
keeps_tasks w = true

-- the event is no step of a task but Skip, and does nothing to one, enters no call and doesn't close the listener
pub record IsOther (e : Event) : Type 0 where
  pub no_step : (n : Name) → (is_task e.who n && not (skips e.what)) ≡ false
  pub keeps : keeps_tasks e.what ≡ true
  pub no_call : notifies e.what ≡ false
  pub no_close : closes e.what ≡ false

-- the event is the script's start, a task's step, or no task's
abbrev pub IsStep : Script → List Event → Event → Type 0
IsStep S K e = ((K ≡ []) × (e ≡ start (system_of S))) ⊎ (((o : ℕ) × IsStepOf S K e o) ⊎ IsOther e)
