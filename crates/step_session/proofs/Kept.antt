-- Whatever is asked for, the history stays one of the kernel.
-- By cases on the request: a step is its actor's, with the answer of the kernel, and all else leaves the history as it is.
use Rattle.std.proofs.Common.{◌≡◌, Bool, true, false, List, refl, arith, le-leb}
use Rattle.hist_model.specs.declared.event.Actor.TheVariants.{Listener}
use Rattle.hist_model.specs.declared.event.Event.{Event}
use Rattle.hist_model.specs.declared.event.What.TheVariants.{Close}
use Rattle.hist_model.specs.declared.script.Script.{Script}
use Rattle.asked_steps.specs.Steps.{IsBegun, is_closed}
use Rattle.asked_steps.proofs.Kept.{asked_kept, step_kept, task_kept}
use Rattle.step_requests.specs.declared.request.StepRequest.{StepRequest}
use Rattle.step_requests.specs.declared.request.StepRequest.TheVariants as step
use Rattle.step_session.specs.Answers.{IsAsked, answered, closed_answer, open_answer}
use Rattle.step_session.specs.declared.origin.Origin.{Origin}

open-kept : (P : Origin) (S : Script) (K : List Event) (r : StepRequest) → IsAsked r → IsBegun S K → is_closed K ≡ false → IsBegun S (open_answer P S K r).0
open-kept P S K step.Able asked begun open-still = begun
open-kept P S K (step.Task n) asked begun open-still = task_kept S K n asked begun open-still
open-kept P S K (step.Worker w a) asked begun open-still = asked_kept S K w a (le-leb w 16 (omega (arith, asked))) begun open-still
open-kept P S K step.Report asked begun open-still = begun
open-kept P S K step.Script asked begun open-still = begun
open-kept P S K (step.Judge idle) asked begun open-still = begun
open-kept P S K (step.Look l) asked begun open-still = begun
open-kept P S K step.Close asked begun open-still = step_kept S K Listener Close begun open-still refl refl

closed-kept : (P : Origin) (S : Script) (K : List Event) (r : StepRequest) → IsBegun S K → IsBegun S (closed_answer P S K r).0
closed-kept P S K step.Able begun = begun
closed-kept P S K (step.Task n) begun = begun
closed-kept P S K (step.Worker w a) begun = begun
closed-kept P S K step.Report begun = begun
closed-kept P S K step.Script begun = begun
closed-kept P S K (step.Judge idle) begun = begun
closed-kept P S K (step.Look l) begun = begun
closed-kept P S K step.Close begun = begun

pub kept : (P : Origin) (S : Script) (K : List Event) (r : StepRequest) → IsAsked r → IsBegun S K → IsBegun S (answered P S K r).0
kept P S K r asked begun = by (is_closed K) refl
  where
    by : (b : Bool) → is_closed K ≡ b → IsBegun S (answered P S K r).0
    by true q = rw q (closed-kept P S K r begun)
    by false q = rw q (open-kept P S K r asked begun q)
