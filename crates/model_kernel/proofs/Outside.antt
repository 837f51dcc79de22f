-- What a task does that waits in no listed call.
-- By the order of its steps: a native call that it owes, a signal that is due, and the step of its next instruction.
use Rattle.std.proofs.Common.{◌≡◌, ℕ, Bool, true, false, ◌||◌, not, Option, Some, None, refl, ap, ◌∙◌}
use Rattle.std.specs.Prelude.{is_some}
use Rattle.hist_model.specs.Kinds.{skips}
use Rattle.hist_model.specs.Signals.{call_of}
use Rattle.hist_model.specs.Steps.{deliver_or, living_step, owes_native}
use Rattle.tasks.proofs.Told.{steps-living}
use Rattle.tasks.proofs.Named.{name-made}
use Rattle.model_kernel.proofs.Words.{due_step, Kernel, MayStep, named, Native, past, signal_due, system}
use Rattle.model_kernel.specs.Ready.{own_step}
use Rattle.model_kernel.specs.Steps.{IsDeliveredFirst, delivered}

due-outside : (k : Kernel) (o : ℕ) → MayStep k o → call_of (past k) (named k o) ≡ None → due_step k o ≡ living_step (system k) (past k) (named k o) None
due-outside k o m none = steps-living (system k) (past k) (named k o) (name-made (past k) o m.made) m.lives ∙ ap (living_step (system k) (past k) (named k o)) none

-- the native call that it owes comes first
pub due-native : (k : Kernel) (o : ℕ) → MayStep k o → call_of (past k) (named k o) ≡ None → owes_native (past k) (named k o) ≡ true → due_step k o ≡ Native ((system k).native (past k) (named k o))
due-native k o m none owes = due-outside k o m none ∙ rw owes refl

-- then a signal that is due, and then the step of the next instruction
outside-order : (k : Kernel) (o : ℕ) → MayStep k o → call_of (past k) (named k o) ≡ None → owes_native (past k) (named k o) ≡ false → due_step k o ≡ deliver_or (signal_due k o) (delivered k o false) (own_step k o)
outside-order k o m none owes = due-outside k o m none ∙ rw owes refl

pub due-signal : (k : Kernel) (o : ℕ) → MayStep k o → call_of (past k) (named k o) ≡ None → owes_native (past k) (named k o) ≡ false → IsDeliveredFirst k o false
due-signal k o m none owes = (own_step k o, outside-order k o m none owes)

pub due-own : (k : Kernel) (o : ℕ) → MayStep k o → call_of (past k) (named k o) ≡ None → owes_native (past k) (named k o) ≡ false → signal_due k o ≡ None → due_step k o ≡ own_step k o
due-own k o m none owes quiet = outside-order k o m none owes ∙ ap (λ d. deliver_or d (delivered k o false) (own_step k o)) quiet

-- ---- who is able to step

pub outside-able : (k : Kernel) (o : ℕ) → MayStep k o → call_of (past k) (named k o) ≡ None
    → not (skips (due_step k o)) ≡ (owes_native (past k) (named k o) || (is_some (signal_due k o) || not (skips (own_step k o))))
outside-able k o m none = ap (λ w. not (skips w)) (due-outside k o m none) ∙ by (owes_native (past k) (named k o)) refl
  where
    later : (d : Option ℕ) → not (skips (deliver_or d (delivered k o false) (own_step k o))) ≡ (is_some d || not (skips (own_step k o)))
    later (Some sig) = refl
    later None = refl

    by : (b : Bool) → owes_native (past k) (named k o) ≡ b → not (skips (living_step (system k) (past k) (named k o) None)) ≡ (b || (is_some (signal_due k o) || not (skips (own_step k o))))
    by true q = rw q refl
    by false q = rw q (later (signal_due k o))
