-- What the title of a report and the line of the start make of the pass.
-- By the lemmas on these lines (`Steps`), and on a line that was read, is a fault or is missing (`Passing`, `Machines`).
use Rattle.std.proofs.Common.{◌≡◌, ℕ, ◌+◌, ◌-◌, ◌<◌, true, false, List, [], ◌∷◌, None, Some, refl, sym, ap, subst, ◌∙◌}
use Rattle.std.specs.Prelude.{bytes_eq}
use Rattle.hist_model.specs.Legal.{started, system_of}
use Rattle.hist_model.specs.PolicyRules.{IsPolicy}
use Rattle.hist_model.specs.ReportJournal.{event_line}
use Rattle.hist_model.specs.Steps.{start}
use Rattle.hist_model.specs.declared.event.Event.{Event}
use Rattle.hist_model.specs.declared.policy.Policy.{Policy}
use Rattle.hist_model.specs.declared.script.Script.{Script}
use Rattle.model_kernel.specs.Kernels.{past}
use Rattle.broker_machine.specs.Serving.{IsAt}
use Rattle.broker_machine.specs.declared.machine.Machine.{Machine}
use Rattle.audit_check.specs.Checked.{HasEnded}
use Rattle.audit_check.specs.Lines.{lines}
use Rattle.audit_check.specs.Pass.{HasRead, count_in}
use Rattle.audit_check.specs.Reading.{Title, behind}
use Rattle.audit_check.specs.Reported.{IsFaultLine}
use Rattle.audit_check.specs.declared.stages.Ended.{Ended}
use Rattle.audit_check.proofs.Cut.{no_lines}
use Rattle.audit_check.proofs.Passing.{fault_next, line_missing, line_read, none_read}
use Rattle.audit_check.proofs.Machines.{journal_fault, journal_read}
use Rattle.audit_check.proofs.Steps.{start_line, start_other, title_line, title_other}

module _ (P : Policy) (S : Script) (bytes : List ℕ) where
  -- no line is there
  pub title_missing : IsPolicy P → bytes ≡ [] → IsFaultLine P S bytes 1
  title_missing policy empty =
      line_missing P S bytes policy 0 Title (subst (λ left. HasRead P S bytes 0 left Title) (ap lines empty ∙ no_lines) (none_read P S bytes)) refl (λ H q. cc)

  -- the title
  module _ (line rest : List ℕ) (split : lines bytes ≡ line ∷ lines rest) where
    opened : HasRead P S bytes 0 (line ∷ lines rest) Title
    opened = subst (λ left. HasRead P S bytes 0 left Title) split (none_read P S bytes)

    pub title_read : (n : ℕ) → count_in line ≡ Some n → HasRead P S bytes 1 (lines rest) (behind P [] n)
    title_read n q = subst (HasRead P S bytes 1 (lines rest)) (title_line P S line n q) (line_read P S bytes 0 line (lines rest) Title opened)

    pub title_faulty : IsPolicy P → count_in line ≡ None → IsFaultLine P S bytes 1
    title_faulty policy q = fault_next P S bytes policy 0 line (lines rest) Title opened refl (title_other P S line q)

  -- the line of the start
  module _ (n count : ℕ) (text line rest : List ℕ) (some : 0 < count) (split : lines text ≡ line ∷ lines rest) (h : HasRead P S bytes n (lines text) (behind P [] count)) where
    pub start_read : bytes_eq (event_line 0 (start (system_of S))) line ≡ true → HasRead P S bytes (n + 1) (lines rest) (behind P (started S) (count - 1))
    start_read q = journal_read P S bytes n [] count text some h line rest split (behind P (started S) (count - 1)) (start_line P S line (count - 1) q)

    pub start_faulty : IsPolicy P → bytes_eq (event_line 0 (start (system_of S))) line ≡ false → IsFaultLine P S bytes (n + 1)
    start_faulty policy q = journal_fault P S bytes n [] count text some h line rest split policy (start_other P S line (count - 1) q)

-- what is read by a machine that stands at the start is read of its script
pub ended_of : (P : Policy) (S : Script) (m : Machine) → IsAt P S (started S) m → (bytes : List ℕ) (n count : ℕ) (left : List (List ℕ)) (ended : Ended) (K : List Event)
    → (HasRead P m.kernel.script bytes n left (behind P (past m.kernel) count) → HasEnded P m.kernel.script bytes ended K) → HasRead P S bytes n left (behind P (started S) count) → HasEnded P S bytes ended K
ended_of P S m at bytes n count left ended K f h =
    subst (λ T. HasEnded P T bytes ended K) at.script
    (f (subst (λ T. HasRead P T bytes n left (behind P (past m.kernel) count)) (sym at.script) (subst (λ H. HasRead P S bytes n left (behind P H count)) (sym at.events) h)))
