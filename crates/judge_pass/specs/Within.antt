-- The numbers that a judge keeps are those of rows that it keeps, whatever the history is.
use Rattle.std.specs.Prelude.{◌≡◌, ℕ, ◌+◌, ◌<◌, ◌≤◌, length, get_or, All, IfSome}
use Rattle.hist_model.specs.declared.policy.Policy.{Policy}
use Rattle.broker_judge.specs.Copied.{IsAnswered}
use Rattle.judge_pass.specs.declared.calls.Call.{Call}
use Rattle.judge_pass.specs.declared.done.Done.{Done}
use Rattle.judge_pass.specs.declared.judge.Judge.{Judge}
use Rattle.judge_pass.specs.declared.seats.Seat.{Seat}
use Rattle.judge_pass.specs.declared.task_table.Task.{Task}

-- how many calls, effects and tasks are kept
abbrev pub calls_kept : Judge → ℕ
calls_kept j = length j.calls.rows.items

abbrev pub effects_kept : Judge → ℕ
effects_kept j = length j.done.items

abbrev pub tasks_kept : Judge → ℕ
tasks_kept j = length j.tasks.items

pub record IsTaskWithin (j : Judge) (task : Task) : Type 0 where
  pub group : task.group < j.groups
  pub call : IfSome task.call (λ c. c < calls_kept j)
  pub untold : All (λ n. n < effects_kept j) task.untold.items

pub record IsCallWithin (j : Judge) (call : Call) : Type 0 where
  pub caller : call.caller < tasks_kept j
  pub fetcher : IfSome call.fetcher (λ w. w ≤ 16)
  pub queue : All (λ q. q.effect < effects_kept j) call.queue.items

pub record IsDoneWithin (j : Judge) (done : Done) : Type 0 where
  pub call : done.call < calls_kept j
  pub put : IfSome done.put (λ put. IfSome put.call (λ c. c < calls_kept j))

-- and each of its reads was answered as the kernel answers
pub record IsSeatWithin (j : Judge) (seat : Seat) : Type 0 where
  pub call : IfSome seat.call (λ c. c < calls_kept j)
  pub effect : IfSome seat.effect (λ n. n < effects_kept j)
  pub memory : IfSome seat.memory (λ g. g < j.groups)
  pub answered : All IsAnswered seat.reads.items
  pub read_at : length seat.read_at.items ≡ length seat.reads.items

pub record IsWithin (j : Judge) : Type 0 where
  pub seats_are : length j.seats.items ≡ 17
  pub tasks : (o : ℕ) (d : Task) → o < tasks_kept j → IsTaskWithin j (get_or j.tasks.items o d)
  pub calls : (n : ℕ) (d : Call) → n < calls_kept j → IsCallWithin j (get_or j.calls.rows.items n d)
  pub done : (n : ℕ) (d : Done) → n < effects_kept j → IsDoneWithin j (get_or j.done.items n d)
  pub seats : (w : ℕ) (d : Seat) → w < 17 → IsSeatWithin j (get_or j.seats.items w d)

-- each kept effect stands among so many events
abbrev pub AreAmong : ℕ → Judge → Type 0
AreAmong events j = (n : ℕ) (d : Done) → n < effects_kept j → (get_or j.done.items n d).place < events

-- there is a number of times for each rule, and for none
abbrev pub HasTimes : Policy → Judge → Type 0
HasTimes P j = length j.times.items ≡ length P.rules + 1
