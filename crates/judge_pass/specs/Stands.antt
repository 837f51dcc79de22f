-- What the judge keeps of a history, and when it stands for it. Calls, effects and groups are named by their ordinals.
use Rattle.std.specs.Prelude.{◌≡◌, ℕ, ◌+◌, ◌%◌, ◌^◌, ◌<◌, ◌≤◌, Bool, true, false, ◌&&◌, if◌then◌else◌}
use Rattle.std.specs.Prelude.{List, [], ◌∷◌, ◌++◌, length, reverse, take, get_or, All}
use Rattle.std.specs.Prelude.{Option, Some, None, is_some, IsSome, Ok, ℤ}
use Rattle.hist_model.specs.Calls.{caller, fetched, is_send, listed, queue, settled}
use Rattle.hist_model.specs.Files.{files}
use Rattle.hist_model.specs.Kinds.{notifies}
use Rattle.hist_model.specs.Laws.{fetcher}
use Rattle.hist_model.specs.Legal.{system_of}
use Rattle.hist_model.specs.Look.{before, event_at, Name, name_eq}
use Rattle.hist_model.specs.Memory.{group_named, last_call}
use Rattle.hist_model.specs.Natives.{base_of}
use Rattle.hist_model.specs.ScriptRules.{IsScript}
use Rattle.hist_model.specs.Signals.{call_of}
use Rattle.hist_model.specs.Steps.{call_at, install_of, IsOfKernel, mem, session_call}
use Rattle.hist_model.specs.Trees.{ordinal_of}
use Rattle.hist_model.specs.declared.event.Event.{Event}
use Rattle.hist_model.specs.declared.event.What.{What}
use Rattle.hist_model.specs.declared.event.What.TheVariants.{Act, AddfdPut, Plant}
use Rattle.hist_model.specs.declared.policy.Policy.{Policy}
use Rattle.hist_model.specs.declared.script.Script.{Script}
use Rattle.history_frames.specs.Ordinals.{count_of, group_of, groups_made, nth_of, task_name_of, tasks_made}
use Rattle.broker_verdict.specs.Answers.{is_told, seat_of, what_in, who_in}
use Rattle.broker_verdict.specs.Effects.{seat_call, texts_copied}
use Rattle.broker_verdict.specs.Trusted.{broken_at, class_at}
use Rattle.broker_verdict.specs.declared.clause.Clause.{Clause}
use Rattle.broker_verdict.specs.declared.clause.Clause.TheVariants.{Unanswered}
use Rattle.broker_verdict.specs.Seats.{confirmed, effect_of, has_sent, is_base_refused, is_checked, is_effect, base_worth, of_call, reads}
use Rattle.broker_judge.specs.Called.{Counts, IsCalled}
use Rattle.broker_judge.specs.Reads.{worth_of}
use Rattle.judge_pass.specs.Counted.{AreCounted}
use Rattle.judge_pass.specs.Entries.{IsEntry}
use Rattle.judge_pass.specs.Tables.{AreMade, dirfd_named}
use Rattle.judge_pass.specs.declared.calls.Call.{Call}
use Rattle.judge_pass.specs.declared.calls.Queued.{Queued}
use Rattle.judge_pass.specs.declared.done.Done.{Done}
use Rattle.judge_pass.specs.declared.done.Put.{Put}
use Rattle.judge_pass.specs.declared.judge.Fault.{Fault}
use Rattle.judge_pass.specs.declared.judge.Judge.{Judge}
use Rattle.judge_pass.specs.declared.seats.Seat.{Seat}
use Rattle.judge_pass.specs.declared.task_table.Task.{Task}

-- ---- by their ordinals

-- the place of the call, and of the effect, with an ordinal
abbrev pub place_of_call : List Event → Option ℕ → Option ℕ
place_of_call K (Some number) = nth_of notifies K number
place_of_call K None = None

abbrev pub place_of_effect : List Event → Option ℕ → Option ℕ
place_of_effect K (Some number) = nth_of is_effect K number
place_of_effect K None = None

abbrev pub place_of_group : List Event → Option ℕ → Option ℕ
place_of_group K (Some number) = group_of K number
place_of_group K None = None

-- a number that is kept is below this one
abbrev pub IsBelow : ℕ → Option ℕ → Type 0
IsBelow limit (Some n) = n < limit
IsBelow limit None = Unit {0}

-- ---- tasks

-- the step is an effect that was done, or a request for a descriptor that was put
abbrev pub may_give : What → Bool
may_give (Act q cap (Ok u)) = true
may_give (Plant addr bytes cap (Ok u)) = true
may_give (AddfdPut asked (Ok u)) = true
may_give what = false

-- after K, the event is one for a call of this task
abbrev pub gives_to : List Event → Event → Name → Bool
gives_to K e n = may_give e.what && of_call (seat_call K e.who) (λ c. name_eq (caller K c) n)

-- the effects for a task's calls that may give a number, by their ordinals, the oldest first
unfoldable pub effects_for : List Event → Name → List ℕ
effects_for [] n = []
effects_for (e ∷ K) n = if gives_to K e n then effects_for K n ++ count_of is_effect K ∷ [] else effects_for K n

pub record IsTaskOf (K : List Event) (name : Name) (task : Task) : Type 0 where
  pub group_is : group_named K name ≡ group_of K task.group
  pub group_made : task.group < groups_made K
  pub call_is : call_of K name ≡ place_of_call K task.call
  pub call_made : IsBelow (count_of notifies K) task.call
  pub entered_is : IsEntry (last_call K name) task.entered
  pub untold_are : task.untold.items ≡ effects_for K name

abbrev pub IsTask : List Event → ℕ → Task → Type 0
IsTask K ordinal task = IsTaskOf K (task_name_of K ordinal) task

-- ---- calls

-- the request stands at a place, with SEND or without it
pub record IsQueued (K : List Event) (place : ℕ) (queued : Queued) : Type 0 where
  pub place_is : nth_of is_effect K queued.effect ≡ Some place
  pub send_is : is_send K place ≡ queued.has_send

unfoldable pub AreQueued : List Event → List ℕ → List Queued → Type 0
AreQueued K [] [] = Unit {0}
AreQueued K (r ∷ rs) (q ∷ qs) = IsQueued K r q × AreQueued K rs qs
AreQueued K rs qs = ⊥

pub record IsCall (S : Script) (K : List Event) (number : ℕ) (call : Call) : Type 0 where
  pub place_is : nth_of notifies K number ≡ Some call.place
  pub called : IsCalled K call.place call.called
  pub id_is : call.called.id ≡ (S.firstid + number) % 2 ^ 64
  pub caller_is : caller K call.place ≡ task_name_of K call.caller
  pub caller_made : call.caller < tasks_made K
  pub listed_is : listed K call.place ≡ call.is_listed
  pub settled_is : settled K call.place ≡ call.is_settled
  pub fetched_is : fetched K call.place ≡ is_some call.fetcher
  pub fetcher_is : fetcher K call.place ≡ call.fetcher
  pub fetcher_seat : IsBelow 17 call.fetcher
  pub queue_is : AreQueued K (queue K call.place) call.queue.items

-- ---- effects

abbrev pub asks_descriptor : What → Bool
asks_descriptor (AddfdPut asked answer) = true
asks_descriptor what = false

-- a request for a descriptor that was put
abbrev pub is_put : What → Bool
is_put (AddfdPut asked (Ok u)) = true
is_put what = false

abbrev pub what_at : List Event → ℕ → What
what_at K place = what_in (event_at K place)

-- the seat whose step stands at a place
abbrev pub seat_at : List Event → ℕ → ℕ
seat_at K place = seat_of (who_in (event_at K place))

-- the call that it had in hand
abbrev pub hand_at : List Event → ℕ → Option ℕ
hand_at K place = seat_call (before K place) (who_in (event_at K place))

-- what a request for a descriptor came to
pub record IsPut (K : List Event) (place : ℕ) (put : Put) : Type 0 where
  pub call_is : call_at K place ≡ place_of_call K put.call
  pub call_made : IsBelow (count_of notifies K) put.call
  pub installed_is : install_of K place ≡ put.installed
  -- of one that was put the texts of the whole copies that were there
  pub texts_are : (c : ℕ) → is_put (what_at K place) ≡ true → hand_at K place ≡ Some c
      → put.texts.items ≡ texts_copied (before K place) (seat_at K place) c

abbrev pub IsPutOf : List Event → ℕ → Option Put → Type 0
IsPutOf K place (Some put) = IsPut K place put
IsPutOf K place None = Unit {0}

pub record IsDone (K : List Event) (number : ℕ) (done : Done) : Type 0 where
  pub place_is : nth_of is_effect K number ≡ Some done.place
  pub call_is : hand_at K done.place ≡ nth_of notifies K done.call
  pub call_made : done.call < count_of notifies K
  pub put_kept : asks_descriptor (what_at K done.place) ≡ is_some done.put
  pub put_is : IsPutOf K done.place done.put
  pub told_is : is_told K done.place ≡ done.is_told

-- ---- seats

pub record IsSeat (S : Script) (K : List Event) (w : ℕ) (seat : Seat) : Type 0 where
  pub call_is : session_call K w ≡ place_of_call K seat.call
  pub call_made : IsBelow (count_of notifies K) seat.call
  pub received : IsSome seat.call → seat.received_at < length K
  pub reads_are : reads K w ≡ reverse seat.reads.items
  pub followed : All (λ r. confirmed r ≡ r) (take seat.followed seat.reads.items)
  pub followed_some : seat.followed ≤ length seat.reads.items
  pub read_at_are : length seat.read_at.items ≡ length seat.reads.items
  pub read_before : All (λ r. r.0 < length K) seat.read_at.items
  pub checked_is : is_checked K w ≡ seat.is_checked
  pub effect_is : effect_of K w ≡ place_of_effect K seat.effect
  pub effect_made : IsBelow (count_of is_effect K) seat.effect
  pub sent_is : has_sent K w ≡ seat.has_sent
  pub refused_is : is_base_refused S K w ≡ seat.is_base_refused
  pub memory_is : mem K w ≡ place_of_group K seat.memory
  pub memory_made : IsBelow (groups_made K) seat.memory
  pub base_is : (files S K).base w ≡ ordinal_of seat.base
  pub base_worth_is : base_worth S K w ≡ worth_of seat.base_worth

-- ---- all of it

-- the history is one of the kernel, whoever its workers are, and its places are numbers of 64 bits
pub record IsHistory (S : Script) (K : List Event) : Type 0 where
  pub of_kernel : IsOfKernel (system_of S) K
  pub fits : length K < 2 ^ 64

pub record Stands (P : Policy) (S : Script) (K : List Event) (j : Judge) : Type 0 where
  pub script : IsScript S
  pub history : IsHistory S K
  pub tasks_are : length j.tasks.items ≡ tasks_made K
  pub groups_are : j.groups ≡ groups_made K
  pub calls_are : length j.calls.rows.items ≡ count_of notifies K
  pub done_are : length j.done.items ≡ count_of is_effect K
  pub seats_are : length j.seats.items ≡ 17
  pub times_are : length j.times.items ≡ length P.rules + 1
  pub first_is : j.calls.first ≡ S.firstid
  pub first_fits : S.firstid < 2 ^ 64
  pub tasks : (o : ℕ) (d : Task) → o < tasks_made K → IsTask K o (get_or j.tasks.items o d)
  pub calls : (n : ℕ) (d : Call) → n < count_of notifies K → IsCall S K n (get_or j.calls.rows.items n d)
  pub done : (n : ℕ) (d : Done) → n < count_of is_effect K → IsDone K n (get_or j.done.items n d)
  pub seats : (w : ℕ) (d : Seat) → w < 17 → IsSeat S K w (get_or j.seats.items w d)
  pub directories : (g p : ℕ) (d : ℤ) → group_of K g ≡ Some p
      → base_of S (files S K) p d ≡ dirfd_named S j.directories.rows.items g d
  pub directories_made : AreMade (groups_made K) j.directories.rows.items
  pub times : Counts P K j.times.items
  pub counts : AreCounted K j.counts

-- ---- one event more

abbrev pub clause_in : Option Fault → Option Clause
clause_in (Some fault) = Some fault.clause
clause_in None = None

-- after K, the event is judged, and taken where it breaks nothing
pub record Judges (P : Policy) (S : Script) (K : List Event) (e : Event) (found : Option Fault) (new : Judge) : Type 0 where
  pub clause : clause_in found ≡ broken_at P S K e
  pub class : (fault : Fault) → found ≡ Some fault → fault.class ≡ class_at P S K e fault.clause
  -- a clause of an effect or an answer is broken for the call in hand
  pub call : (fault : Fault) → found ≡ Some fault → (fault.clause ≡ Unanswered → ⊥) → place_of_call K fault.call ≡ seat_call K e.who
  -- and what is kept still stands for the history without it
  pub kept : (fault : Fault) → found ≡ Some fault → (fault.clause ≡ Unanswered → ⊥) → Stands P S K new
  pub stands : found ≡ None → Stands P S (e ∷ K) new
