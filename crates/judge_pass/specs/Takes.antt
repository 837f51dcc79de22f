-- How the judge goes on from a history to the one with one more event.
use Rattle.std.specs.Prelude.{◌≡◌, ℕ, ◌<◌, ◌≤◌, length, take, All, Bool, true, false, ◌&&◌, ◌||◌, if◌then◌else◌, ◌==◌}
use Rattle.std.specs.Prelude.{List, [], ◌∷◌, ◌++◌, get_or, Option, Some, None, option_map, Result, Ok, Err, is_ok}
use Rattle.std.proofs.Math.ListN.{set}
use Rattle.hist_model.specs.Kinds.{has_send_flag}
use Rattle.hist_model.specs.Look.{Name}
use Rattle.hist_model.specs.Tasks.{holder}
use Rattle.tasks.specs.Stands.{IsHolder}
use Rattle.hist_model.specs.declared.event.Actor.TheVariants.{Task}
use Rattle.hist_model.specs.declared.event.Event.{Event}
use Rattle.hist_model.specs.declared.event.SpawnKind.{SpawnKind}
use Rattle.hist_model.specs.declared.event.What.{What}
use Rattle.hist_model.specs.declared.event.What.TheVariants.{Act, AddfdPut, LetGo, OpenBase, OpenMem, Plant, Recv, Send, Skip, Spawn}
use Rattle.hist_model.specs.declared.policy.Policy.{Policy}
use Rattle.hist_model.specs.declared.script.Script.{Script}
use Rattle.history_frames.specs.Ordinals.{task_name_of}
use Rattle.judge_pass.specs.Stands.{IsHistory, Stands}
use Rattle.judge_pass.specs.Tables.{behind_first, first_effect, first_sends, row_named, with_installed}
use Rattle.judge_pass.specs.declared.calls.Call.{Call}
use Rattle.judge_pass.specs.declared.calls.Calls.{Calls}
use Rattle.judge_pass.specs.declared.calls.Queued.{Queued}
use Rattle.judge_pass.specs.declared.directories.OpenDirectory.{OpenDirectory}
use Rattle.judge_pass.specs.declared.done.Done.{Done}
use Rattle.judge_pass.specs.declared.judge.Judge.{Judge}
use Rattle.judge_pass.specs.declared.seats.Seat.{Seat}
use Rattle.broker_verdict.specs.Seats.{confirmed}

-- where the old judge stood for the events before an event of this kind, the new one stands for them with it
abbrev pub Takes : Judge → Judge → (Script → List Event → Event → Type 0) → Type 0
Takes old new IsKind =
    (P : Policy) (S : Script) (K : List Event) (e : Event) → Stands P S K old → IsHistory S (e ∷ K) → IsKind S K e → Stands P S (e ∷ K) new

-- the event is a step of the task with this ordinal
abbrev pub IsOf : ℕ → List Event → Event → Type 0
IsOf task K e = e.who ≡ Task (task_name_of K task)

-- and it is this one
pub record IsStepOf (task : ℕ) (what : What) (K : List Event) (e : Event) : Type 0 where
  pub who : e.who ≡ Task (task_name_of K task)
  pub what_is : e.what ≡ what

-- it makes a task, whose group is of this kind
pub record Spawns (kind : SpawnKind) (e : Event) : Type 0 where
  pub child : Name
  pub pid : ℕ
  pub what_is : e.what ≡ Spawn child (Ok (pid, kind))

-- it is a step of this task; without a task it is one of a name that no task has, which does nothing
abbrev pub IsStepBy : Option ℕ → What → List Event → Event → Type 0
IsStepBy (Some task) what K e = IsStepOf task what K e
IsStepBy None what K e = ((n : Name) × (e.who ≡ Task n)) × (e.what ≡ Skip)

-- the task of this ordinal holds the PID, or none does
abbrev pub HasHolder : List Event → ℕ → Option ℕ → Type 0
HasHolder K pid (Some o) = IsHolder K pid o
HasHolder K pid None = holder K pid ≡ None

-- what rows lead to when a task of a group installs a file with this answer
abbrev pub with_file : Result ℕ ℕ → ℕ → List OpenDirectory → ℕ → ℕ → Option ℕ
with_file (Ok m) group rows g n = if (g == group) && (n == m) then None else row_named rows g n
with_file (Err e) group rows g n = row_named rows g n

-- an effect has this answer of its installation
pub record IsAnsweredBy (answer : Result ℕ ℕ) (k : ℕ) (old new : List Done) : Type 0 where
  pub before : Done
  pub before_is : before ≡ get_or old k before
  pub after : Done
  pub rows_are : new ≡ set old k after
  pub put_is : after.put ≡ option_map (with_installed answer) before.put
  pub rest_is : after ≡ record before { put = after.put }

abbrev pub IsNoted : Option ℕ → Result ℕ ℕ → List Done → List Done → Type 0
IsNoted (Some k) answer old new = IsAnsweredBy answer k old new
IsNoted None answer old new = new ≡ old

-- the oldest request of a call has this answer
pub record Installs (call : ℕ) (answer : Result ℕ ℕ) (old new : Judge) : Type 0 where
  pub before : Call
  pub before_is : before ≡ get_or old.calls.rows.items call before
  pub after : Call
  pub rows_are : new.calls.rows.items ≡ set old.calls.rows.items call after
  pub queue_is : after.queue.items ≡ behind_first before.queue.items
  pub settled_is : after.is_settled ≡ ((is_ok answer && first_sends before.queue.items) || before.is_settled)
  pub rest_is : after ≡ record before { queue = after.queue; is_settled = after.is_settled }
  pub done_are : IsNoted (first_effect before.queue.items) answer old.done.items new.done.items
  pub same : new ≡ record old { calls = record old.calls { rows = new.calls.rows }; done = new.done }

-- a request is the last that waits for an installation, of those for this call
pub record QueuesFor (call : ℕ) (queued : Queued) (old new : Calls) : Type 0 where
  pub made : call < length old.rows.items
  pub before : Call
  pub before_is : before ≡ get_or old.rows.items call before
  pub after : Call
  pub rows_are : new.rows.items ≡ set old.rows.items call after
  pub queue_is : after.queue.items ≡ before.queue.items ++ queued ∷ []
  pub rest_is : after ≡ record before { queue = after.queue }
  pub same : new ≡ record old { rows = new.rows }

-- an effect with this ordinal does so for the call, if there is one, where it puts a request for a descriptor
abbrev pub Queues : Option ℕ → ℕ → What → Calls → Calls → Type 0
Queues (Some call) effect (AddfdPut asked (Ok u)) old new =
    QueuesFor call (record { effect = effect; has_send = has_send_flag asked }) old new
Queues call effect what old new = new ≡ old

-- a worker's step of this kind changes its seat alone, if anything
abbrev pub moves_alone : What → Bool
moves_alone (Recv a) = false
moves_alone LetGo = false
moves_alone (Act q k a) = false
moves_alone (Plant x bs k a) = false
moves_alone (AddfdPut q a) = false
moves_alone (Send x b a) = false
moves_alone what = true

-- it is an effect, or it answers
abbrev pub acts_or_answers : What → Bool
acts_or_answers (Act q k a) = true
acts_or_answers (Plant x bs k a) = true
acts_or_answers (AddfdPut q a) = true
acts_or_answers (Send x b a) = true
acts_or_answers what = false

-- the task that holds the PID of what is opened
abbrev pub HolderIs : What → List Event → Option ℕ → Type 0
HolderIs (OpenMem p a) K task = HasHolder K p task
HolderIs (OpenBase p d a) K task = HasHolder K p task
HolderIs what K task = Unit {0}

-- a check of the seat's reads has nothing left to do of those that one follows
pub record HasFollowed (w : ℕ) (j : Judge) : Type 0 where
  pub some : (d : Seat) → (get_or j.seats.items w d).followed ≤ length (get_or j.seats.items w d).reads.items
  pub all : (d : Seat) → All (λ r. confirmed r ≡ r) (take (get_or j.seats.items w d).followed (get_or j.seats.items w d).reads.items)

-- a call is answered
pub record SettlesCall (call : ℕ) (old new : Judge) : Type 0 where
  pub made : call < length old.calls.rows.items
  pub before : Call
  pub before_is : before ≡ get_or old.calls.rows.items call before
  pub rows_are : new.calls.rows.items ≡ set old.calls.rows.items call (record before { is_settled = true })
  pub same : new ≡ record old { calls = record old.calls { rows = new.calls.rows } }

abbrev pub Settles : Option ℕ → Judge → Judge → Type 0
Settles (Some call) old new = SettlesCall call old new
Settles None old new = new ≡ old

-- where the kernel takes the answer
abbrev pub SettlesWith : Result (Unit {0}) ℕ → Option ℕ → Judge → Judge → Type 0
SettlesWith (Ok u) call old new = Settles call old new
SettlesWith (Err e) call old new = new ≡ old
