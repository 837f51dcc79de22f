-- What a step of a worker of this project comes to.
-- By cases on what it does next, on whether that is allowed, and on whether it waits.
use Rattle.std.proofs.Common.{◌≡◌, ℕ, Bool, true, false, not, List, Option, Some, None, refl, sym, ap, ◌∙◌}
use Rattle.std.specs.Prelude.{is_some, ◌∷◌}
use Rattle.broker_core.specs.Answers.{shown}
use Rattle.broker_core.specs.Remembered.{Remembers}
use Rattle.broker_core.specs.declared.deed.Deed.{Deed as ServerDeed}
use Rattle.broker_core.specs.declared.worker.Worker.{Worker as Server}
use Rattle.broker_machine.proofs.Held.{asks-known}
use Rattle.broker_machine.specs.Workers.{Allows, TriesStep, step_due}
use Rattle.hist_model.specs.Deeds.{Deed}
use Rattle.hist_model.specs.Deeds as deeds
use Rattle.hist_model.specs.Kinds.{skips}
use Rattle.hist_model.specs.Legal.{rules_of}
use Rattle.hist_model.specs.Look.{ev}
use Rattle.hist_model.specs.Sessions.{Rules, deed, session}
use Rattle.hist_model.specs.Steps.{mem, request_of}
use Rattle.hist_model.specs.Systems.{System}
use Rattle.hist_model.specs.declared.event.Actor.TheVariants.{Worker}
use Rattle.hist_model.specs.declared.event.Event.{Event}
use Rattle.hist_model.specs.declared.event.What.{What}
use Rattle.hist_model.specs.declared.event.What.TheVariants.{Skip}
use Rattle.hist_model.specs.declared.policy.Policy.{Policy}
use Rattle.hist_model.specs.declared.script.Figures.{Figures}
use Rattle.hist_model.specs.declared.script.Script.{Script}
use Rattle.model_kernel.specs.Kernels.{IsKernel, past}
use Rattle.model_kernel.specs.declared.kernel.Kernel.{Kernel}
use Rattle.asked_steps.specs.Steps.{with_step}
use Rattle.asked_steps.specs.Stands.{CameTo}
use Rattle.turn_player.specs.Serving.{Knows}
use Rattle.turn_player.specs.Turns.{is_allowed, next_deed, served}

-- ---- what is allowed

none-there : (o : Option ℕ) → not (is_some o) ≡ true → o ≡ None
none-there None h = refl
none-there (Some n) h = cc

some-there : (o : Option ℕ) → is_some o ≡ true → o ≡ None → ⊥
some-there None h q = cc
some-there (Some n) h q = cc

-- what is tested and what is known of each worker allow what it does next
pub allowed : (S : System) (R : Rules) (K : List Event) (w : ℕ) (d : Deed) → deed R (session K w) ≡ d → is_allowed K w (shown d) ≡ true → Allows K w (shown d)
allowed S R K w deeds.Recv q h = tt
allowed S R K w (deeds.OpenMem pid) q h = tt
allowed S R K w (deeds.OpenBase pid dirfd) q h = tt
allowed S R K w (deeds.Check id) q h = tt
allowed S R K w (deeds.Read addr len) q h = tt
allowed S R K w (deeds.Act request cap) q h = tt
allowed S R K w (deeds.Plant addr bytes cap) q h = some-there (mem K w) h
allowed S R K w (deeds.AddfdPut want) q h = (none-there (request_of K w) h, asks-known S R K w want q)
allowed S R K w deeds.AddfdTake q h = some-there (request_of K w) h
allowed S R K w (deeds.Send id back) q h = tt
allowed S R K w deeds.LetGo q h = tt

-- what a worker that knows its session does next
pub next_is : (P : Policy) (k : Kernel) (w : ℕ) (worker : Server) (next : ServerDeed) → Knows P k w worker
    → ((R : Policy) (own : List What) → Remembers R own worker → next ≡ shown (deed (rules_of R worker.figures) own)) → next ≡ next_deed P k.script w (past k)
next_is P k w worker next knows does =
    does P (session (past k) w) knows.remembers ∙ ap (λ (F : Figures). shown (deed (rules_of P F) (session (past k) w))) knows.figures

-- ---- what comes of it

with-step : (K : List Event) (w : ℕ) (what : What) → skips what ≡ false → with_step (Worker w) what K ≡ ev (Worker w) what ∷ K
with-step K w what s = rw s refl

without-step : (K : List Event) (w : ℕ) (what : What) → what ≡ Skip → with_step (Worker w) what K ≡ K
without-step K w what s = rw s refl

module _ (P : Policy) (old : Kernel) (w : ℕ) where
  abbrev K : List Event
  K = past old

  -- nothing, where it isn't allowed
  pub unserved : IsKernel old → is_allowed K w (next_deed P old.script w K) ≡ false → CameTo old (served P old.script w K) old
  unserved kernel q = record { kernel = kernel; script = refl; past = rw q refl }

  pub served_is : is_allowed K w (next_deed P old.script w K) ≡ true → served P old.script w K ≡ with_step (Worker w) (step_due P old w) K
  served_is q = rw q refl

  -- a worker that took its turn knows its session after it
  pub knows_after : (new : Kernel) (H : List Event) (worker : Server) → CameTo old H new → Remembers P (session (past new) w) worker → worker.figures ≡ old.script.figures → Knows P new w worker
  knows_after new H worker came remembers figures = record { remembers = remembers; figures = figures ∙ ap (λ (S : Script). S.figures) (sym came.script) }

  -- the step, or nothing where it waits
  pub worker_came : (new : Kernel) (stepped : Bool) → is_allowed K w (next_deed P old.script w K) ≡ true → TriesStep P old w stepped new → CameTo old (served P old.script w K) new
  worker_came new true q (after, steps) = record {
    kernel = after.kernel;
    script = after.script;
    past = after.events ∙ sym (served_is q ∙ with-step K w (step_due P old w) steps);
  }
  worker_came new false q (same, skip) = record {
    kernel = same.kernel;
    script = same.script;
    past = same.past_is ∙ sym (served_is q ∙ without-step K w (step_due P old w) skip);
  }
