-- Whose report some bytes are, and the first of their lines at which they are no report of a legal history.
use Rattle.std.specs.Prelude.{◌≡◌, ℕ, ◌<◌, ◌≤◌, List}
use Rattle.hist_model.specs.Legal.{Legal}
use Rattle.hist_model.specs.Report.{report}
use Rattle.hist_model.specs.ReportAudit.{judging_by}
use Rattle.hist_model.specs.declared.event.Event.{Event}
use Rattle.hist_model.specs.declared.policy.Policy.{Policy}
use Rattle.hist_model.specs.declared.script.Script.{Script}
use Rattle.audit_check.specs.Lines.{AgreeOn}

-- the report of a history under a policy
abbrev pub report_by : Policy → List Event → List ℕ
report_by P H = report (judging_by P.rules) H

-- the bytes are the report of this legal history
pub record IsReported (P : Policy) (S : Script) (bytes : List ℕ) (H : List Event) : Type 0 where
  pub legal : Legal P S H
  pub whole : report_by P H ≡ bytes

-- the first n lines of the bytes are those of some legal history's report. Where the bytes have fewer, the report has no others,
-- and is the bytes
abbrev pub BeginsReport : Policy → Script → List ℕ → ℕ → Type 0
BeginsReport P S bytes n = (H : List Event) × Legal P S H × AgreeOn n bytes (report_by P H)

-- the first line, counted from 1, with which the bytes begin no legal history's report; one more than they have lines where all of
-- them begin one, and none is the bytes
pub record IsFaultLine (P : Policy) (S : Script) (bytes : List ℕ) (n : ℕ) : Type 0 where
  pub counted : 1 ≤ n
  pub faulty : BeginsReport P S bytes n → ⊥
  pub before : (m : ℕ) → m < n → BeginsReport P S bytes m

-- no two histories have this report, two lines aren't its fault line, and it has none
pub record IsUnique (P : Policy) (S : Script) (bytes : List ℕ) : Type 0 where
  pub history : (H K : List Event) → IsReported P S bytes H → IsReported P S bytes K → H ≡ K
  pub line : (m n : ℕ) → IsFaultLine P S bytes m → IsFaultLine P S bytes n → m ≡ n
  pub either : (H : List Event) (n : ℕ) → IsReported P S bytes H → IsFaultLine P S bytes n → ⊥
