-- The ledger of each worker of a history, and the successor that goes on from it.
use Rattle.std.specs.Prelude.{◌≡◌, ℕ, ◌+◌, Bool, ◌&&◌, not, if◌then◌else◌, List, [], ◌∷◌, Option, Some, None, Result, Ok, ◌⊎◌}
use Rattle.hist_model.specs.Kinds.{skips}
use Rattle.hist_model.specs.Legal.{Legal, rules_of}
use Rattle.hist_model.specs.Look.{is_worker}
use Rattle.hist_model.specs.Sessions.{Rules, session}
use Rattle.hist_model.specs.declared.event.Event.{Event}
use Rattle.hist_model.specs.declared.event.What.{What}
use Rattle.hist_model.specs.declared.policy.Policy.{Policy}
use Rattle.hist_model.specs.declared.script.Script.{Script}
use Rattle.broker_core.specs.Answers.{Answer, answer_of}
use Rattle.broker_core.specs.Remembered.{Idle}
use Rattle.worker_ledger.specs.Ledgers.{AreAnswers, ledger_text, own_answers}
use Rattle.worker_ledger.specs.Successors.{IsLedger, Resumed, resumed}
use Rattle.worker_ledger.specs.declared.successor.LedgerError.{LedgerError}

-- ---- What a worker took

-- the event is a step of this worker
abbrev pub is_step_of : ℕ → Event → Bool
is_step_of w e = is_worker e.who w && not (skips e.what)

-- how many steps the worker took
unfoldable pub taken : List Event → ℕ → ℕ
taken [] w = 0
taken (e ∷ K) w = if is_step_of w e then taken K w + 1 else taken K w

-- the answer of the worker's last step; none where it took none
unfoldable pub last_answer : List Event → ℕ → Option Answer
last_answer [] w = None
last_answer (e ∷ K) w = if is_step_of w e then Some (answer_of e.what) else last_answer K w

-- the history before the worker's last step; none where it took none
unfoldable pub before_last : List Event → ℕ → Option (List Event)
before_last [] w = None
before_last (e ∷ K) w = if is_step_of w e then Some K else before_last K w

-- ---- Its ledger

-- what the worker was told in its session
abbrev pub told_in : List Event → ℕ → List Answer
told_in K w = own_answers (session K w)

-- the text of its ledger
abbrev pub ledger_of : List Event → ℕ → List ℕ
ledger_of K w = ledger_text w (taken K w) (told_in K w)

-- ---- Its successor

-- a worker that remembers the one remembers the other: they are the same steps, or in neither a session is open
abbrev pub AreAlike : List What → List What → Type 0
AreAlike own steps = (steps ≡ own) ⊎ (Idle own × Idle steps)

-- what came of a ledger is the worker's session in the history, and what it was told in it
abbrev pub GoesOnAs : List Event → ℕ → Result Resumed LedgerError → Type 0
GoesOnAs K w (Ok r) = AreAlike (session K w) r.steps × (r.told ≡ told_in K w)
GoesOnAs K w _ = ⊥

-- a worker's ledger after some history is one, and its successor in this history goes on from it
abbrev pub HandsOver : Rules → List Event → ℕ → List Event → Type 0
HandsOver R K w written =
    AreAnswers (told_in written w) → IsLedger R w (ledger_of written w) (taken written w) (told_in written w)
    × GoesOnAs K w (resumed R (taken K w) (last_answer K w) (taken written w) (told_in written w))

-- so does the one from the worker's own ledger, and the one from its ledger before its last step
abbrev pub LedgersHandOver : Type 0
LedgersHandOver = (P : Policy) (S : Script) (K : List Event) (w : ℕ) → Legal P S K → HandsOver (rules_of P S.figures) K w K

abbrev pub LedgersBehindHandOver : Type 0
LedgersBehindHandOver = (P : Policy) (S : Script) (K written : List Event) (w : ℕ) → Legal P S K
    → before_last K w ≡ Some written → HandsOver (rules_of P S.figures) K w written
