-- What came of the printing of a text.
-- By what `Flushes` says of the sink, and by cases on the error.
use Rattle.std.proofs.Common.{◌≡◌, ℕ, List, ◌++◌, length, ◌∙◌, ap, refl, sym, arith}
use Rattle.std.proofs.lemmas.List.{take_all}
use Rattle.std.specs.Prelude.{Result, Ok, Err}
use Rattle.io_edge.proofs.Laws.{then_rose}
use Rattle.io_edge.specs.SinkState.{SinkState, Flushes}
use Rattle.audit_log.proofs.Writing.{adds_nothing}
use Rattle.audit_log.specs.Written.{Wrote}
use Rattle.audit_log.specs.declared.error.ReportError.{ReportError}
use Rattle.audit_log.specs.declared.error.ReportError.TheVariants.{WriteFault, NoMemory}
use Rattle.program_files.specs.Printed.{Printed}
use Rattle.program_files.specs.Codes.{status_of_report}
use Rattle.program_files.specs.Refusals.{Stands}
use Rattle.program_files.specs.declared.status.Status.TheVariants.{NoMemory as OutOfMemory}

-- a text that was written whole, and then flushed
pub flushed : {E : Type 0} (old mid new : SinkState) (text : List ℕ) (u v : Unit {0}) → Wrote old text (Ok u) mid → Flushes {T = Unit {0}} {E = E} mid (Ok v) new → Wrote old text (Ok tt) new
flushed old mid new text u v w f = record {
  tells = f.tells ∙ w.tells;
  faults = omega (arith, w.faults, f.faults);
  cause = λ p. cc;
  whole = λ t. f.taken (w.tells ∙ t) ∙ w.whole t;
  part = tt;
}

-- or whose flush failed: it is a prefix of itself
pub unflushed : {E : Type 0} (old mid new : SinkState) (text : List ℕ) (u : Unit {0}) (x : E) (e : ReportError) (r : Result (Unit {0}) ReportError) → r ≡ Err e
    → Wrote old text (Ok u) mid → Flushes {T = Unit {0}} {E = E} mid (Err x) new → Wrote old text r new
unflushed old mid new text u x e r is w f = rw is failed
  where
    failed : Wrote old text (Err e) new
    failed = record {
      tells = f.tells ∙ w.tells;
      faults = omega (arith, w.faults, f.faults);
      cause = λ p. then_rose old.faults mid.faults new.faults w.faults f.cause;
      whole = tt;
      part = λ t. (length text, omega arith, f.taken (w.tells ∙ t) ∙ w.whole t ∙ ap (λ xs. old.taken ++ xs) (sym (take_all (length text) text (omega arith))));
    }

-- the whole text was written, and stands
pub printed_whole : (text : List ℕ) (old new : SinkState) → Wrote old text (Ok tt) new → Stands new → Printed text old new (Ok tt)
printed_whole text old new w stands = (w.whole, stands)

-- a part of it was
pub printed_part : (text : List ℕ) (old new : SinkState) (x : ReportError) → Wrote old text (Err x) new → Printed text old new (Err (status_of_report x))
printed_part text old new WriteFault w = (w.cause refl, w.part)
printed_part text old new NoMemory w = w.part

-- nothing was, for want of memory
pub ends_unplayed : (text : List ℕ) (old : SinkState) → Printed text old old (Err OutOfMemory)
ends_unplayed text old = λ t. adds_nothing old.taken text
