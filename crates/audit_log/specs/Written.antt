-- What a writer did to its sink.
use Rattle.std.specs.Prelude.{◌≡◌, ℕ, ◌≤◌, true, List, ◌++◌, Result, Ok, OnOk, OnErr, IsErrOf}
use Rattle.io_edge.specs.Faults.{Rose}
use Rattle.io_edge.specs.SinkState.{SinkState, AddsPrefix}
use Rattle.audit_log.specs.declared.error.ReportError.{ReportError}
use Rattle.audit_log.specs.declared.error.ReportError.TheVariants.{WriteFault}

-- The sink took the text, or after an error a prefix of it, where it tells its bytes; its count of faults rose where it failed.
pub record Wrote (old : SinkState) (text : List ℕ) (result : Result (Unit {0}) ReportError) (new : SinkState) : Type 0 where
  pub tells : new.tells ≡ old.tells
  pub faults : old.faults ≤ new.faults
  pub cause : IsErrOf result WriteFault → Rose old.faults new.faults
  pub whole : OnOk result (old.tells ≡ true → new.taken ≡ old.taken ++ text)
  pub part : OnErr result (old.tells ≡ true → AddsPrefix old.taken text new.taken)

-- What a writer that gathers its text did: the sink took the front of the text, and the rest is kept.
pub record Gathered (old : SinkState) (text kept : List ℕ) (new : SinkState) : Type 0 where
  pub front : List ℕ
  pub whole : text ≡ front ++ kept
  pub wrote : Wrote old front (Ok tt) new
