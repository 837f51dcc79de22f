-- The replacement of a worker that took the newest step: what its ledger says, and the worker that goes on from it.
use Rattle.std.specs.Prelude.{◌≡◌, ℕ, Bool, true, if◌then◌else◌, List, [], ◌∷◌}
use Rattle.hist_model.specs.Sessions.{session}
use Rattle.hist_model.specs.declared.event.Event.{Event}
use Rattle.hist_model.specs.declared.policy.Policy.{Policy}
use Rattle.hist_model.specs.declared.script.Figures.{Figures}
use Rattle.broker_core.specs.Remembered.{Remembers}
use Rattle.worker_ledger.specs.Ledgers.{AreAnswers}
use Rattle.worker_ledger.specs.declared.ledger.Ledger.{Ledger}
use Rattle.worker_ledger.specs.declared.successor.Successor.{Successor}
use Rattle.handover.specs.Keeping.{Keeps}
use Rattle.handover.specs.Ledgers.{is_step_of, ledger_of, told_in}

-- the newest event is a step of this worker
abbrev pub IsStepAt : ℕ → List Event → Type 0
IsStepAt w [] = ⊥
IsStepAt w (e ∷ K) = is_step_of w e ≡ true

-- it is, and the worker's ledger says what was before it
abbrev pub IsOneBehind : ℕ → List Event → Ledger → Type 0
IsOneBehind w [] l = ⊥
IsOneBehind w (e ∷ K) l = (is_step_of w e ≡ true) × Keeps K w l

-- the history that a ledger has: that before the newest event, where it is one behind
abbrev pub written : Bool → List Event → List Event
written b [] = []
written b (e ∷ K) = if b then K else e ∷ K

-- this is the worker's ledger, one behind or not, and it holds its answers
abbrev pub IsWritten : Bool → ℕ → List Event → List ℕ → Type 0
IsWritten b w H text = (text ≡ ledger_of (written b H) w) × AreAnswers (told_in (written b H) w)

-- this is the worker's ledger, or the one before its step
abbrev pub IsLedgerIn : ℕ → List Event → List ℕ → Type 0
IsLedgerIn w H text = (b : Bool) × IsWritten b w H text

-- the successor remembers the worker's session, and its ledger is the worker's
pub record GoesOnIn (P : Policy) (F : Figures) (H : List Event) (w : ℕ) (s : Successor) : Type 0 where
  pub remembers : Remembers P (session H w) s.worker
  pub figures : s.worker.figures ≡ F
  pub keeps : Keeps H w s.ledger
