-- What a worker that takes over has: which answers a ledger can have, the steps that they tell, and why a ledger is refused.
use Rattle.std.specs.Prelude.{◌≡◌, ℕ, ◌+◌, ◌<◌, ◌^◌, nat_le, ◌==◌, ◌&&◌, Bool, true, false, if◌then◌else◌, List, [], ◌∷◌, length, Option}
use Rattle.std.specs.Prelude.{Some, None, Result, Ok, Err, ⊤}
use Rattle.hist_model.specs.Legal.{rules_of}
use Rattle.hist_model.specs.Sessions.{Rules, deed}
use Rattle.hist_model.specs.declared.event.What.{What}
use Rattle.hist_model.specs.declared.policy.Policy.{Policy}
use Rattle.hist_model.specs.declared.script.Figures.{Figures}
use Rattle.sys_abi.specs.Errnos.{enoent, efault}
use Rattle.sys_abi.specs.declared.memory.OrNoMemory.{OrNoMemory}
use Rattle.sys_abi.specs.declared.memory.OrNoMemory.TheVariants.{Refused, NoMemory}
use Rattle.broker_core.specs.Answers.{Answer, Bytes, Done, Failed, Number, is_let_go, shown, step_of, with_step}
use Rattle.broker_core.specs.Remembered.{Remembers}
use Rattle.broker_core.specs.declared.deed.Deed.{Deed}
use Rattle.broker_core.specs.declared.deed.Deed.TheVariants.{AddfdTake, LetGo, Read, Recv}
use Rattle.broker_core.specs.declared.worker.Worker.{Worker}
use Rattle.worker_ledger.specs.Heard.{all_heard}
use Rattle.worker_ledger.specs.Ledgers.{AreAnswers, ledger_text}
use Rattle.worker_ledger.specs.Notes.{Notes, is_received, noted}
use Rattle.worker_ledger.specs.declared.ledger.Ledger.{Ledger}
use Rattle.worker_ledger.specs.declared.successor.LedgerError.{LedgerError}
use Rattle.worker_ledger.specs.declared.successor.LedgerError.TheVariants.{NotLedger, Stale, Unfit}
use Rattle.worker_ledger.specs.declared.successor.Successor.{Successor}

-- ---- Answers that fit

abbrev pub is_done_or_failed : Answer → Bool
is_done_or_failed Done = true
is_done_or_failed (Failed e) = true
is_done_or_failed _ = false

abbrev pub is_number_or_failed : Answer → Bool
is_number_or_failed (Number n) = true
is_number_or_failed (Failed e) = true
is_number_or_failed _ = false

-- from 1 to as many bytes as were asked for, or EFAULT
abbrev pub is_piece : ℕ → Answer → Bool
is_piece len (Bytes bytes) = nat_le 1 (length bytes) && nat_le (length bytes) len
is_piece len (Failed e) = e == efault
is_piece len _ = false

-- the answer to a deed may stand in a ledger: a receive has a notification, and letting go ends what stands there
abbrev pub may_stand : Deed → Answer → Bool
may_stand Recv a = is_received a
may_stand LetGo a = false
may_stand (Read addr len) a = is_piece len a
may_stand AddfdTake a = is_number_or_failed a
may_stand d a = is_done_or_failed a

-- the answer is one to this deed: one that may stand in a ledger, ENOENT of a receive, or that the worker let go
abbrev pub is_answer_to : Deed → Answer → Bool
is_answer_to Recv (Failed e) = e == enoent
is_answer_to LetGo Done = true
is_answer_to d a = may_stand d a

-- ---- The steps that answers tell

-- a session's steps, the newest first, after the deed that is due was answered so
abbrev pub after_answer : Rules → List What → Answer → List What
after_answer R own a = with_step (step_of (deed R own) a) own

-- and after each of these answers
abbrev pub after_answers : Rules → List What → List Answer → List What
after_answers R own [] = own
after_answers R own (a ∷ more) = after_answers R (after_answer R own a) more

-- each answer may stand in a ledger behind those before it
abbrev pub AllStand : Rules → List What → List Answer → Type 0
AllStand R own [] = Unit {0}
AllStand R own (a ∷ more) = (may_stand (shown (deed R own)) a ≡ true) × AllStand R (after_answer R own a) more

-- the bytes are the ledger of the worker of this number, with this count and these answers
pub record IsLedger (R : Rules) (w : ℕ) (bytes : List ℕ) (count : ℕ) (own : List Answer) : Type 0 where
  pub small : count < 2 ^ 64
  pub told : AreAnswers own
  pub stand : AllStand R [] own
  pub text : bytes ≡ ledger_text w count own

-- ---- Taking over

-- the session's steps, and what the worker was told in it
pub record Resumed : Type 0 where
  pub steps : List What
  pub told : List Answer

-- with the last answer, which the ledger hasn't
abbrev pub with_last : Rules → List What → List Answer → Option Answer → Result Resumed LedgerError
with_last R own told None = Err Unfit
with_last R own told (Some a) =
    if is_answer_to (shown (deed R own)) a
    then Ok (record { steps = after_answer R own a; told = noted (is_let_go (shown (deed R own))) a told })
    else Err Unfit

-- what comes of a ledger with this count, after these steps, where the worker has taken so many answers and this one last: the ledger
-- has all of them, or all but the last
abbrev pub caught : Rules → ℕ → Option Answer → ℕ → List What → List Answer → Result Resumed LedgerError
caught R taken last count steps told =
    if count == taken then Ok (record { steps = steps; told = told })
    else (if count + 1 == taken then with_last R steps told last else Err (Stale count taken))

-- what comes of a ledger with this count and these answers
abbrev pub resumed : Rules → ℕ → Option Answer → ℕ → List Answer → Result Resumed LedgerError
resumed R taken last count told = caught R taken last count (after_answers R [] told) told

-- the successor is a worker after these steps, and its ledger says what they told
pub record IsSuccessor (P : Policy) (F : Figures) (w taken : ℕ) (r : Resumed) (s : Successor) : Type 0 where
  pub remembers : Remembers P r.steps s.worker
  pub figures : s.worker.figures ≡ F
  pub number : s.ledger.no ≡ w
  pub count : s.ledger.count ≡ taken
  pub told : all_heard s.ledger.own.items ≡ r.told

-- that came of it, or there was no memory
abbrev pub Comes : Policy → Figures → ℕ → ℕ → Result Resumed LedgerError → Result Successor (OrNoMemory LedgerError) → Type 0
Comes P F w taken outcome (Err NoMemory) = ⊤
Comes P F w taken (Ok r) (Ok s) = IsSuccessor P F w taken r s
Comes P F w taken (Err e) (Err (Refused f)) = f ≡ e
Comes P F w taken _ _ = ⊥

-- the bytes are a ledger, unless they are refused as none
abbrev pub Found : Rules → ℕ → List ℕ → Result Successor (OrNoMemory LedgerError) → Type 0
Found R w bytes (Err NoMemory) = ⊤
Found R w bytes (Err (Refused NotLedger)) = (count : ℕ) (own : List Answer) → IsLedger R w bytes count own → ⊥
Found R w bytes _ = (count : ℕ) × (own : List Answer) × IsLedger R w bytes count own

-- ---- Replaying

-- where the answer may stand, the worker has taken it
abbrev pub ReplaysOne : Policy → Figures → List What → Answer → Bool → Worker → Type 0
ReplaysOne P F own a true w = (may_stand (shown (deed (rules_of P F) own)) a ≡ true) × Remembers P (after_answer (rules_of P F) own a) w
ReplaysOne P F own a false w = may_stand (shown (deed (rules_of P F) own)) a ≡ false

-- where all may stand, it has taken all
abbrev pub Replays : Policy → Figures → List What → List Answer → Bool → Worker → Type 0
Replays P F own told true w = AllStand (rules_of P F) own told × Remembers P (after_answers (rules_of P F) own told) w
Replays P F own told false w = AllStand (rules_of P F) own told → ⊥

-- the successor has taken the answers of this ledger, where they may stand there
abbrev pub ResumesIf : Policy → Figures → Ledger → Option Successor → Type 0
ResumesIf P F l (Some s) = AllStand (rules_of P F) [] (all_heard l.own.items)
    × Remembers P (after_answers (rules_of P F) [] (all_heard l.own.items)) s.worker × (s.worker.figures ≡ F) × (s.ledger ≡ l)
ResumesIf P F l None = AllStand (rules_of P F) [] (all_heard l.own.items) → ⊥

-- the deed that is due after these steps
abbrev pub due_after : Policy → Figures → List What → Deed
due_after P F own = shown (deed (rules_of P F) own)

-- where the answer is one to the deed that is due, it was taken and noted
abbrev pub TakesLast : Policy → Successor → List What → Answer → Bool → Successor → Type 0
TakesLast P old own a true new =
    (is_answer_to (due_after P old.worker.figures own) a ≡ true)
    × Remembers P (after_answer (rules_of P old.worker.figures) own a) new.worker
    × Notes (is_let_go (due_after P old.worker.figures own)) a old.ledger new.ledger
    × (new.worker.figures ≡ old.worker.figures)
    × (new.ledger.no ≡ old.ledger.no)
TakesLast P old own a false new = is_answer_to (due_after P old.worker.figures own) a ≡ false

-- the successor has taken the answers of the one ledger that the bytes are
pub record HasResumed (P : Policy) (F : Figures) (w : ℕ) (bytes : List ℕ) (s : Successor) : Type 0 where
  pub ledger : IsLedger (rules_of P F) w bytes s.ledger.count (all_heard s.ledger.own.items)
  pub only : (count : ℕ) (own : List Answer) → IsLedger (rules_of P F) w bytes count own
      → (s.ledger.count ≡ count) × (all_heard s.ledger.own.items ≡ own)
  pub remembers : Remembers P (after_answers (rules_of P F) [] (all_heard s.ledger.own.items)) s.worker
  pub figures : s.worker.figures ≡ F
  pub number : s.ledger.no ≡ w

-- where they are one
abbrev pub IsResumed : Policy → Figures → ℕ → List ℕ → Option Successor → Type 0
IsResumed P F w bytes (Some s) = HasResumed P F w bytes s
IsResumed P F w bytes None = (count : ℕ) (own : List Answer) → IsLedger (rules_of P F) w bytes count own → ⊥
