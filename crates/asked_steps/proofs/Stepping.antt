-- Which history the step of a task comes to, and what a worker asked for.
-- By what the kernel's call tells: one more event, or the same history.
use Rattle.std.proofs.Common.{◌≡◌, ℕ, ◌<◌, true, false, List, ◌∷◌, None, refl, sym, ap, ◌∙◌}
use Rattle.hist_model.specs.Kinds.{skips}
use Rattle.hist_model.specs.Legal.{system_of}
use Rattle.hist_model.specs.Look.{Name, ev}
use Rattle.hist_model.specs.Steps.{deed_step, task_step}
use Rattle.hist_model.specs.Tasks.{is_made}
use Rattle.hist_model.specs.declared.event.Actor.{Actor}
use Rattle.hist_model.specs.declared.event.Actor.TheVariants.{Task, Worker}
use Rattle.hist_model.specs.declared.event.Event.{Event}
use Rattle.hist_model.specs.declared.event.What.{What}
use Rattle.hist_model.specs.declared.event.What.TheVariants.{Skip}
use Rattle.hist_model.specs.declared.script.Script.{Script}
use Rattle.history_frames.specs.Ordinals.{task_name_of, tasks_made}
use Rattle.model_kernel.specs.Kernels.{IsKernel, past, system}
use Rattle.model_kernel.specs.Ready.{IsSame}
use Rattle.model_kernel.specs.Steps.{TakesStep, due_step, named, step_by}
use Rattle.model_kernel.specs.declared.kernel.Kernel.{Kernel}
use Rattle.tasks.proofs.Named.{name-made}
use Rattle.step_requests.specs.declared.request.Asked.{Asked}
use Rattle.asked_steps.specs.Asking.{deed_of, refused}
use Rattle.asked_steps.specs.Stands.{CameTo, Comes}
use Rattle.asked_steps.specs.Steps.{after_asked, after_deed, after_task, after_unless, with_step}
use Rattle.asked_steps.specs.declared.asking.Came.{Came}
use Rattle.asked_steps.specs.declared.asking.Came.TheVariants as came

-- ---- steps and skips

pub with-event : (K : List Event) (who : Actor) (what : What) → skips what ≡ false → with_step who what K ≡ ev who what ∷ K
with-event K who what q = rw q refl

pub without-event : (K : List Event) (who : Actor) (what : What) → what ≡ Skip → with_step who what K ≡ K
without-event K who what q = rw q refl

-- all but the room is as before
stayed : (old new : Kernel) (K : List Event) → IsSame old new → K ≡ past old → CameTo old K new
stayed old new K same is = record { kernel = same.kernel; script = same.script; past = same.past_is ∙ sym is }

-- ---- tasks

made-after : (S : Script) (K : List Event) (n : Name) → is_made K n ≡ true → after_task S K n ≡ with_step (Task n) (task_step (system_of S) K n) K
made-after S K n q = rw q refl

pub task_missing : (k : Kernel) (n : Name) → IsKernel k → is_made (past k) n ≡ false → CameTo k (after_task k.script (past k) n) k
task_missing k n kernel q = record { kernel = kernel; script = refl; past = rw q refl }

module _ (old mid new : Kernel) (o : ℕ) (n : Name) (same : IsSame old mid) (there : o < tasks_made (past old)) (name : task_name_of (past old) o ≡ n) where
  abbrev S : Script
  S = old.script

  abbrev K : List Event
  K = past old

  abbrev what : What
  what = task_step (system_of S) K n

  pub made : is_made K n ≡ true
  made = ap (is_made K) (sym name) ∙ name-made K o there

  pub due-is : due_step mid o ≡ what
  due-is = ap (λ s. task_step (system_of s) (past mid) (named mid o)) same.script ∙ (ap (λ H. task_step (system_of S) H (task_name_of H o)) same.past_is ∙ ap (task_step (system_of S) K) name)

  pub events-are : step_by mid o (due_step mid o) ∷ past mid ≡ ev (Task n) what ∷ K
  events-are = ap (λ w. ev (Task (named mid o)) w ∷ past mid) due-is ∙ (ap (λ H. ev (Task (task_name_of H o)) what ∷ H) same.past_is ∙ ap (λ m. ev (Task m) what ∷ K) name)

  pub task_came : TakesStep mid o new → skips (due_step mid o) ≡ false → CameTo old (after_task S K n) new
  task_came takes steps = record {
    kernel = takes.kernel;
    script = takes.script ∙ same.script;
    past = takes.events ∙ events-are ∙ sym (made-after S K n made ∙ with-event K (Task n) what (ap skips (sym due-is) ∙ steps));
  }

  pub task_stayed : due_step mid o ≡ Skip → CameTo old (after_task S K n) mid
  task_stayed skip = stayed old mid (after_task S K n) same (made-after S K n made ∙ without-event K (Task n) what (sym due-is ∙ skip))

-- ---- workers

module _ (old new : Kernel) (w : ℕ) (asked : Asked) where
  allowed : refused (past old) w asked ≡ None → after_asked old.script (past old) w asked ≡ after_deed old.script (past old) w (deed_of asked)
  allowed q = ap (after_unless old.script (past old) w asked) q

  pub worker_came : (c : Came) → Comes old w asked c new → CameTo old (after_asked old.script (past old) w asked) new
  worker_came (came.Refused why) (q, same) = stayed old new _ same (ap (after_unless old.script (past old) w asked) q)
  worker_came came.Invalid (q, none, same) = stayed old new _ same (allowed q ∙ ap (after_deed old.script (past old) w) none)
  worker_came came.Waits (q, (d, is, skip, same)) =
      stayed old new _ same (allowed q ∙ ap (after_deed old.script (past old) w) is ∙ without-event (past old) (Worker w) (deed_step (system old) (past old) w d) skip)
  worker_came came.Stepped (q, (d, is, steps, done)) = record {
    kernel = done.kernel;
    script = done.script;
    past = done.events ∙ sym (allowed q ∙ ap (after_deed old.script (past old) w) is ∙ with-event (past old) (Worker w) (deed_step (system old) (past old) w d) steps);
  }
