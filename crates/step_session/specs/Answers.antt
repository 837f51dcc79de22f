-- What `step` answers to a request, and the history after it. A history has its newest event first.
use Rattle.std.specs.Prelude.{nat_le, ℕ, Bool, if◌then◌else◌, ◌≡◌, ◌≤◌, true, List}
use Rattle.std.specs.Prelude.{length, Option, Some, None, codes}
use Rattle.hist_model.specs.Deeds.{Deed}
use Rattle.hist_model.specs.Legal.{system_of}
use Rattle.hist_model.specs.Look.{Name}
use Rattle.hist_model.specs.Names.{is_task_name}
use Rattle.hist_model.specs.Report.{report}
use Rattle.hist_model.specs.ReportAudit.{judging_by}
use Rattle.hist_model.specs.Steps.{deed_step, task_step}
use Rattle.hist_model.specs.Tasks.{is_made}
use Rattle.hist_model.specs.declared.event.Actor.{Actor}
use Rattle.hist_model.specs.declared.event.Actor.TheVariants.{Listener, Task, Worker}
use Rattle.hist_model.specs.declared.event.Event.{Event}
use Rattle.hist_model.specs.declared.event.What.{What}
use Rattle.hist_model.specs.declared.event.What.TheVariants.{Close}
use Rattle.judge_pass.specs.Finding.{Finding, finding}
use Rattle.judge_pass.specs.Heads.{head_text}
use Rattle.judge_pass.specs.Idle.{finding_idle}
use Rattle.step_session.specs.declared.origin.Origin.{Origin}
use Rattle.hist_model.specs.declared.script.Script.{Script}
use Rattle.step_requests.specs.declared.request.Asked.{Asked}
use Rattle.step_requests.specs.declared.request.StepRequest.{StepRequest}
use Rattle.step_requests.specs.declared.request.StepRequest.TheVariants as step
use Rattle.asked_steps.specs.Asking.{deed_of, refused}
use Rattle.asked_steps.specs.Steps.{after_asked, after_task, is_closed, with_step}
use Rattle.asked_steps.specs.declared.refusal.Refusal.{Refusal as RefusedAsked}
use Rattle.state_answers.specs.Able.{able_text}
use Rattle.state_answers.specs.Looks.{look_text}
use Rattle.step_session.specs.Scripts.{most_bytes, most_events, script_text}
use Rattle.step_session.specs.Texts.{invalid_text, refused_text, sized, step_text}
use Rattle.step_session.specs.declared.refusal.Refusal.TheVariants as refusal

-- ---- steps

-- an actor's step, and the line of it
abbrev pub stepped : List Event → Actor → What → List Event × List ℕ
stepped K who what = (with_step who what K, step_text K who what)

-- what is told of a task that was to step
abbrev pub task_told : Script → List Event → Name → List ℕ
task_told S K n = if is_made K n then step_text K (Task n) (task_step (system_of S) K n) else refused_text refusal.NoTask

abbrev pub task_answer : Script → List Event → Name → List Event × List ℕ
task_answer S K n = (after_task S K n, task_told S K n)

-- what is told of a worker's deed, and where the listener refuses the structure
abbrev pub deed_told : Script → List Event → ℕ → Option Deed → List ℕ
deed_told S K w None = invalid_text
deed_told S K w (Some d) = step_text K (Worker w) (deed_step (system_of S) K w d)

-- what is told of what a worker asked for, unless it was refused
abbrev pub asked_told : Script → List Event → ℕ → Asked → Option RefusedAsked → List ℕ
asked_told S K w asked (Some why) = refused_text (refusal.Asked why)
asked_told S K w asked None = deed_told S K w (deed_of asked)

abbrev pub worker_answer : Script → List Event → ℕ → Asked → List Event × List ℕ
worker_answer S K w asked = (after_asked S K w asked, asked_told S K w asked (refused K w asked))

-- ---- what is told without a step

-- the report so far
abbrev pub report_text : Origin → List Event → List ℕ
report_text P K = sized (codes "report") (report (judging_by P.policy.rules) K)

-- the script that plays the history again, unless it is longer than a script may be
abbrev pub unless_long : List ℕ → List ℕ
unless_long text = if nat_le (length text) most_bytes then sized (codes "script") text else refused_text refusal.Full

abbrev pub script_answer : Origin → List Event → List ℕ
script_answer P K =
    if nat_le (length K) (most_events (is_closed K)) then unless_long (script_text P.front K) else refused_text refusal.Full

-- the event that is found to break a clause first; with idle, where the broker does nothing more by itself
abbrev pub judged : Origin → Script → List Event → Bool → Option Finding
judged P S K idle = if idle then finding_idle P.policy S K else finding P.policy S K

-- the first line of what is printed of a broker that was judged
abbrev pub judge_text : Origin → Script → List Event → Bool → List ℕ
judge_text P S K idle = sized (codes "judge") (head_text K (judged P S K idle))

-- ---- all requests

abbrev pub open_answer : Origin → Script → List Event → StepRequest → List Event × List ℕ
open_answer P S K step.Able = (K, able_text S K)
open_answer P S K (step.Task n) = task_answer S K n
open_answer P S K (step.Worker w asked) = worker_answer S K w asked
open_answer P S K step.Report = (K, report_text P K)
open_answer P S K step.Script = (K, script_answer P K)
open_answer P S K (step.Judge idle) = (K, judge_text P S K idle)
open_answer P S K (step.Look l) = (K, look_text S K l)
open_answer P S K step.Close = stepped K Listener Close

abbrev pub closed_answer : Origin → Script → List Event → StepRequest → List Event × List ℕ
closed_answer P S K step.Report = (K, report_text P K)
closed_answer P S K step.Script = (K, script_answer P K)
closed_answer P S K (step.Judge idle) = (K, judge_text P S K idle)
closed_answer P S K r = (K, refused_text refusal.Closed)

-- the history after a request, and the answer to it
abbrev pub answered : Origin → Script → List Event → StepRequest → List Event × List ℕ
answered P S K r = if is_closed K then closed_answer P S K r else open_answer P S K r

-- ---- the requests that lines are

-- a task has a name of the form, and a worker a number from 0 to 15
abbrev pub IsAsked : StepRequest → Type 0
IsAsked (step.Task n) = is_task_name n ≡ true
IsAsked (step.Worker w asked) = w ≤ 15
IsAsked r = Unit {0}
