-- How the history of a container ends that was served to its end, once its listener is closed.
use Rattle.std.specs.Prelude.{◌≡◌, ℕ, ◌<◌, ◌^◌, ◌∷◌, List, length}
use Rattle.hist_model.specs.Legal.{Finished, Legal, NoSkip, NoWorkerAbove}
use Rattle.hist_model.specs.Look.{ev}
use Rattle.hist_model.specs.Mediated.{Mediated}
use Rattle.hist_model.specs.declared.event.Actor.TheVariants.{Listener}
use Rattle.hist_model.specs.declared.event.Event.{Event}
use Rattle.hist_model.specs.declared.event.What.TheVariants.{Close}
use Rattle.hist_model.specs.declared.policy.Policy.{Policy}
use Rattle.hist_model.specs.declared.script.Script.{Script}
use Rattle.mediation.specs.Scheduled.{IsUnclosed}

-- a history that isn't closed, and the same with the close of the listener
pub record ClosesBehind (K H : List Event) : Type 0 where
  pub unclosed : IsUnclosed K
  pub closed : H ≡ ev Listener Close ∷ K
  pub room : length H < 2 ^ 64

-- the history is a finished one, behind which the listener is closed
abbrev pub ClosesFinished : List Event → Type 0
ClosesFinished H = (K : List Event) × (H ≡ ev Listener Close ∷ K) × Finished K

-- the container was served to its end: by a legal history, in which every turn is a step, and no worker above this one steps
pub record HasEnded (P : Policy) (S : Script) (workers : ℕ) (H : List Event) : Type 0 where
  pub legal : Legal P S H
  pub no_skip : NoSkip H
  pub within : NoWorkerAbove workers H
  pub ends : ClosesFinished H
  pub mediated : Mediated P S H
