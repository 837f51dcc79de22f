-- The text of a play whose workers were replaced.
-- By the lines one after another, and since the same history and the same ledgers have one text.
use Rattle.std.proofs.Common.{◌≡◌, ℕ, ◌<◌, List, [], ◌∷◌, ◌++◌, length, suc, ◌≤◌, take, get_or, refl, sym, ap, subst, ◌∙◌}
use Rattle.std.specs.Prelude.{Result, Ok, Err, Option, Some, None}
use Rattle.std.specs.List.{flat_map}
use Rattle.std.proofs.lemmas.List.Concat.{flat_map-cons}
use Rattle.audit_log.proofs.Writing.{wrote_front}
use Rattle.audit_log.specs.Written.{Wrote}
use Rattle.audit_log.specs.declared.error.ReportError.{ReportError}
use Rattle.hist_model.specs.Legal.{played}
use Rattle.hist_model.specs.Report.{report}
use Rattle.hist_model.specs.ReportAudit.{Judging, judging_by}
use Rattle.hist_model.specs.declared.event.Event.{Event}
use Rattle.hist_model.specs.declared.policy.Policy.{Policy}
use Rattle.hist_model.specs.declared.script.Script.{Script}
use Rattle.io_edge.specs.SinkState.{SinkState}
use Rattle.handover.specs.Handing.{Handed}
use Rattle.handover.specs.Keeping.{all_handed, handed_as}
use Rattle.handover.specs.declared.ledgers.Handover.{Handover}
use Rattle.worker_gate.specs.Replacing.{handed_if, handed_in}
use Rattle.worker_gate.specs.declared.served.Played.{Played}
use Rattle.program_files.proofs.Items.{all_written, one_failed}
use Rattle.program_files.specs.Printed.{Printed}
use Rattle.play_words.specs.Handovers.{handover_report, handovers, ledger_line, report_and}
use Rattle.program_files.specs.declared.status.Status.{Status}

-- ---- The lines

abbrev pub line_of_handed : Handover → List ℕ
line_of_handed h = ledger_line (handed_as h)

-- how many there are
pub as_many : (hs : List Handover) → length (all_handed hs) ≡ length hs
as_many [] = refl
as_many (h ∷ more) = ap suc (as_many more)

-- the lines of all
pub all_lines : (hs : List Handover) → flat_map line_of_handed hs ≡ flat_map ledger_line (all_handed hs)
all_lines [] = refl
all_lines (h ∷ more) = flat_map-cons line_of_handed h more ∙ (ap (λ ys. ledger_line (handed_as h) ++ ys) (all_lines more) ∙ sym (flat_map-cons ledger_line (handed_as h) (all_handed more)))

-- one more line failed
pub ledger_failed : (hs : List Handover) (i : ℕ) (h : Handover) (e : ReportError) (old mid new : SinkState) → i < length hs → h ≡ get_or hs i h
    → Wrote old (flat_map line_of_handed (take i hs)) (Ok tt) mid → Wrote mid (line_of_handed h) (Err e) new → Wrote old (flat_map ledger_line (all_handed hs)) (Err e) new
ledger_failed hs i h e old mid new l is before now = rw (all_lines hs) at (one_failed line_of_handed hs i h e old mid new l is before now)

-- all lines were written
pub ledgers_written : (hs : List Handover) (i : ℕ) (old new : SinkState) → length hs ≤ i → Wrote old (flat_map line_of_handed (take i hs)) (Ok tt) new → Wrote old (flat_map ledger_line (all_handed hs)) (Ok tt) new
ledgers_written hs i old new l w = rw (all_lines hs) at (all_written line_of_handed hs i old new l w)

-- ---- The report

-- a part of the report is a part of it with the ledgers
pub report_stopped : (old new : SinkState) (J : Judging) (H : List Event) (all : Option (List Handed)) (e : ReportError) → Wrote old (report J H) (Err e) new → Wrote old (report_and J H all) (Err e) new
report_stopped old new J H None e w = w
report_stopped old new J H (Some all) e w = wrote_front old new (report J H) (handovers all) e w

same_text : (every : ℕ) (p : Played) (P : Policy) (S : Script) → p.policy ≡ P → p.history.events ≡ played P S → handed_in p.handed ≡ handed_if (Some every) p.history.events
    → report_and (judging_by p.policy.rules) p.history.events (handed_in p.handed) ≡ handover_report every P S
same_text every p P S q e h = ap (report_and (judging_by p.policy.rules) p.history.events) h ∙ (ap (λ (K : List Event). report_and (judging_by p.policy.rules) K (handed_if (Some every) K)) e ∙ ap (λ (X : Policy). handover_of X) q)
  where
    handover_of : Policy → List ℕ
    handover_of X = report_and (judging_by X.rules) (played P S) (handed_if (Some every) (played P S))

-- the text is that of the history that is played, and of its ledgers
pub ends_handed : (every : ℕ) (p : Played) (P : Policy) (S : Script) (old new : SinkState) (r : Result (Unit {0}) Status) → p.policy ≡ P → p.history.events ≡ played P S
    → handed_in p.handed ≡ handed_if (Some every) p.history.events → Printed (report_and (judging_by p.policy.rules) p.history.events (handed_in p.handed)) old new r → Printed (handover_report every P S) old new r
ends_handed every p P S old new r q e h printed = subst (λ text. Printed text old new r) (same_text every p P S q e h) printed
