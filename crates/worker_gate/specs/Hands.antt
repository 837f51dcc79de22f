-- What threads that serve a container do to its history.
use Rattle.std.specs.Prelude.{◌≡◌, ℕ, List, Some}
use Rattle.hist_model.specs.Legal.{Finished, Legal, NoSkip, NoWorkerAbove}
use Rattle.hist_model.specs.declared.event.Event.{Event}
use Rattle.hist_model.specs.declared.history.Setup.{Setup}
use Rattle.mediation.specs.Scheduled.{IsUnclosed}

-- the history is a legal one of the policy and the script, no event of it is a Skip or the close of the listener,
-- and none is a step of a worker above the limit
pub record IsWithinRules (made : Setup) (limit : ℕ) (K : List Event) : Type 0 where
  pub legal : Legal made.policy made.script K
  pub unclosed : IsUnclosed K
  pub no_skip : NoSkip K
  pub within : NoWorkerAbove limit K

-- it is finished too
pub record IsServedWhole (made : Setup) (limit : ℕ) (K : List Event) : Type 0 where
  pub rules : IsWithinRules made limit K
  pub finished : Finished K

-- so it is under the limit that there is
abbrev pub Ends : Setup → List Event → Type 0
Ends made K = (limit : ℕ) → made.limit ≡ Some limit → IsServedWhole made limit K
