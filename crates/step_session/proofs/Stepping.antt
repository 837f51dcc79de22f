-- What a container answers to the step of a task and to what a worker asks for.
-- By what the kernel's call tells: one more event, or the same history.
use Rattle.std.proofs.Common.{◌≡◌, ℕ, ◌<◌, true, false, List, ◌∷◌, ◌++◌, length, None, refl, sym, ap, ◌∙◌}
use Rattle.std.specs.Prelude.{codes}
use Rattle.hist_model.specs.Kinds.{skips}
use Rattle.hist_model.specs.Legal.{system_of}
use Rattle.hist_model.specs.Look.{Name, ev}
use Rattle.hist_model.specs.Steps.{deed_step, task_step}
use Rattle.hist_model.specs.Tasks.{is_made}
use Rattle.hist_model.specs.declared.event.Actor.{Actor}
use Rattle.hist_model.specs.declared.event.Actor.TheVariants.{Task, Worker}
use Rattle.hist_model.specs.declared.event.Event.{Event}
use Rattle.hist_model.specs.declared.event.What.{What}
use Rattle.hist_model.specs.declared.event.What.TheVariants.{Skip}
use Rattle.hist_model.specs.declared.script.Script.{Script}
use Rattle.history_frames.specs.Ordinals.{task_name_of, tasks_made}
use Rattle.model_kernel.specs.Kernels.{past, system}
use Rattle.model_kernel.specs.Ready.{IsSame}
use Rattle.model_kernel.specs.Steps.{TakesStep, due_step}
use Rattle.model_kernel.specs.declared.kernel.Kernel.{Kernel}
use Rattle.step_requests.specs.declared.request.Asked.{Asked}
use Rattle.asked_steps.specs.Asking.{deed_of, refused}
use Rattle.asked_steps.specs.Stands.{CameTo, Comes}
use Rattle.asked_steps.specs.declared.asking.Came.TheVariants as came
use Rattle.asked_steps.proofs.Stepping.{due-is, events-are, made, task_came, task_stayed, worker_came}
use Rattle.step_session.specs.Answers.{asked_told, deed_told, task_answer, task_told, worker_answer}
use Rattle.step_session.specs.Stands.{Answers}
use Rattle.step_session.specs.Texts.{event_text, invalid_text, step_text}

-- ---- steps and skips

step-line : (K : List Event) (who : Actor) (what : What) → skips what ≡ false → step_text K who what ≡ event_text (length K) who what
step-line K who what q = rw q refl

skip-line : (K : List Event) (who : Actor) (what : What) → what ≡ Skip → step_text K who what ≡ codes "skip\n"
skip-line K who what q = rw q refl

-- the kernel came to the history of the answer, whose text was added
answers : (old new : Kernel) (answer : List Event × List ℕ) (before after text : List ℕ) → CameTo old answer.0 new → answer.1 ≡ text → after ≡ before ++ text → Answers old answer before after new
answers old new answer before after text came is added = record {
  kernel = came.kernel;
  script = came.script;
  past = came.past;
  line = added ∙ ap (λ t. before ++ t) (sym is);
}

-- ---- tasks

made-told : (S : Script) (K : List Event) (n : Name) → is_made K n ≡ true → task_told S K n ≡ step_text K (Task n) (task_step (system_of S) K n)
made-told S K n q = rw q refl

module _ (old mid new : Kernel) (o : ℕ) (n : Name) (same : IsSame old mid) (there : o < tasks_made (past old)) (name : task_name_of (past old) o ≡ n) where
  abbrev S : Script
  S = old.script

  abbrev K : List Event
  K = past old

  abbrev what : What
  what = task_step (system_of S) K n

  told : task_told S K n ≡ step_text K (Task n) what
  told = made-told S K n (made old mid new o n same there name)

  due : due_step mid o ≡ what
  due = due-is old mid new o n same there name

  pub task-stepped : (before after : List ℕ) → TakesStep mid o new → skips (due_step mid o) ≡ false
      → ((e : Event) (H : List Event) → past new ≡ e ∷ H → after ≡ before ++ event_text (length H) e.who e.what) → Answers old (task_answer S K n) before after new
  task-stepped before after takes steps added =
      let events : past new ≡ ev (Task n) what ∷ K = takes.events ∙ events-are old mid new o n same there name in
      answers old new (task_answer S K n) before after (event_text (length K) (Task n) what) (task_came old mid new o n same there name takes steps)
      (told ∙ step-line K (Task n) what (ap skips (sym due) ∙ steps)) (added (ev (Task n) what) K events)

  pub task-skipped : (before after : List ℕ) → due_step mid o ≡ Skip → after ≡ before ++ codes "skip\n" → Answers old (task_answer S K n) before after mid
  task-skipped before after skip added =
      answers old mid (task_answer S K n) before after (codes "skip\n") (task_stayed old mid new o n same there name skip) (told ∙ skip-line K (Task n) what (sym due ∙ skip)) added

-- ---- workers

module _ (old new : Kernel) (w : ℕ) (asked : Asked) where
  abbrev answer : List Event × List ℕ
  answer = worker_answer old.script (past old) w asked

  allowed : refused (past old) w asked ≡ None → answer.1 ≡ deed_told old.script (past old) w (deed_of asked)
  allowed q = ap (asked_told old.script (past old) w asked) q

  pub worker-invalid : (before after : List ℕ) → Comes old w asked came.Invalid new → after ≡ before ++ invalid_text → Answers old answer before after new
  worker-invalid before after (q, none, same) added =
      answers old new answer before after invalid_text (worker_came old new w asked came.Invalid (q, none, same)) (allowed q ∙ ap (deed_told old.script (past old) w) none) added

  pub worker-stepped : (before after : List ℕ) → Comes old w asked came.Stepped new → ((e : Event) (H : List Event) → past new ≡ e ∷ H → after ≡ before ++ event_text (length H) e.who e.what) → Answers old answer before after new
  worker-stepped before after (q, (d, is, steps, done)) added =
      let what = deed_step (system old) (past old) w d in
      answers old new answer before after (event_text (length (past old)) (Worker w) what) (worker_came old new w asked came.Stepped (q, (d, is, steps, done)))
      (allowed q ∙ (ap (deed_told old.script (past old) w) is ∙ step-line (past old) (Worker w) what steps)) (added (ev (Worker w) what) (past old) done.events)
