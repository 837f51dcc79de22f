-- How plays end.
-- By cases on the error, and since equal histories have equal texts.
use Rattle.std.proofs.Common.{◌≡◌, ℕ, List, inl, inr, refl, subst}
use Rattle.std.specs.Prelude.{Result, Ok, Err}
use Rattle.hist_model.specs.Legal.{played}
use Rattle.hist_model.specs.ReportAudit.{judging_by}
use Rattle.hist_model.specs.declared.event.Event.{Event}
use Rattle.hist_model.specs.declared.policy.Policy.{Policy}
use Rattle.hist_model.specs.declared.script.Script.{Script}
use Rattle.io_edge.specs.FileState.{FileState}
use Rattle.io_edge.specs.SinkState.{SinkState}
use Rattle.generated_input.specs.GeneratedPolicy.{generated_policy}
use Rattle.generated_input.specs.GeneratedScript.{generated_script}
use Rattle.play_words.specs.Generated.{GeneratedIsMediated, StressEnds, generated_summary}
use Rattle.program_files.specs.Printed.{Printed, status_of}
use Rattle.play_words.specs.Printouts.{printout_of, text_of}
use Rattle.script_reader.specs.declared.file.ScriptFile.{ScriptFile}
use Rattle.program_files.specs.Inputs.{PolicyIs, ScriptFileIs}
use Rattle.play_words.specs.Handovers.{HandoverEnds, IsHandedOver, handover_report, with_ledgers}
use Rattle.play_words.specs.Printings.{AreRead, PlayEnds, Printing}
use Rattle.program_files.specs.Refusals.{InputRefused}
use Rattle.play_words.specs.declared.printing.Printout.{Printout}
use Rattle.play_words.specs.declared.printing.Printout.TheVariants.{Summary}
use Rattle.program_files.specs.declared.status.Status.{Status}
use Rattle.program_files.specs.declared.status.Refusal.TheVariants.{HasRequests}
use Rattle.program_files.specs.declared.status.Status.TheVariants.{Done, NoMemory as OutOfMemory, Refused, WriteFault as CannotWrite}

same_printout : (printout : Printout) (Q P : Policy) (K L : List Event) → Q ≡ P → K ≡ L → text_of printout (judging_by Q.rules) K ≡ text_of printout (judging_by P.rules) L
same_printout printout Q P K L q e = rw (q, e) refl

-- the text is that of the history that is played
pub ends_printed : (printout : Printout) (Q P : Policy) (S : Script) (K : List Event) (old new : SinkState) (r : Result (Unit {0}) Status) → Q ≡ P → K ≡ played P S
    → Printed (text_of printout (judging_by Q.rules) K) old new r → Printed (printout_of printout P S) old new r
ends_printed printout Q P S K old new r q e p = subst (λ text. Printed text old new r) (same_printout printout Q P K (played P S) q e) p

-- what was played is generated input
pub generated_printed : (from count : ℕ) (P : Policy) (S : Script) (old new : SinkState) (r : Result (Unit {0}) Status) → P ≡ generated_policy → S ≡ generated_script from count
    → Printed (printout_of Summary P S) old new r → Printed (generated_summary from count) old new r
generated_printed from count P S old new r p s h =
    subst (λ Q. Printed (printout_of Summary Q (generated_script from count)) old new r) p (subst (λ T. Printed (printout_of Summary P T) old new r) s h)

-- its summary was printed, or a part of it
pub stress_ends : (from count : ℕ) (old new : SinkState) (r : Result (Unit {0}) Status) → GeneratedIsMediated from count → Printed (generated_summary from count) old new r
    → StressEnds from count old new (status_of r)
stress_ends from count old new (Ok u) m p = ((m, p.0), p.1)
stress_ends from count old new (Err CannotWrite) m p = (p.0, (m, p.1))
stress_ends from count old new (Err OutOfMemory) m p = (m, p)
stress_ends from count old new (Err Done) m p = absurd p
stress_ends from count old new (Err status) m p = p

-- what two files play was printed, or a part of it
pub play_ends : (files after : FileState) (old new : SinkState) (policy script : List ℕ) (printing : Printing) (P : Policy) (F : ScriptFile) (r : Result (Unit {0}) Status) → PolicyIs files policy (Ok P)
    → ScriptFileIs files script (Ok F) → printing.Holds P F → Printed (printing.text P F) old new r → PlayEnds files after old new policy script printing (status_of r)
play_ends files after old new policy script printing P F r policy_is file_is holds printed = by r printed
  where
    are : AreRead files policy script printing P F
    are = record { policy_is = policy_is; file_is = file_is; holds = holds }

    by : (r : Result (Unit {0}) Status) → Printed (printing.text P F) old new r → PlayEnds files after old new policy script printing (status_of r)
    by (Ok u) p = ((P, F, are, p.0), p.1)
    by (Err CannotWrite) p = (p.0, (P, F, are, p.1))
    by (Err OutOfMemory) p = inr (P, F, are, p)
    by (Err status) p = absurd p

-- nothing was played, since the policy or the script wasn't taken
pub play_stops : (files after : FileState) (sink : SinkState) (policy script : List ℕ) (printing : Printing) (status : Status) → InputRefused files after policy script status
    → PlayEnds files after sink sink policy script printing status
play_stops files after sink policy script printing OutOfMemory h = inl (λ t. refl)
play_stops files after sink policy script printing Done h = absurd h
play_stops files after sink policy script printing CannotWrite h = absurd h
play_stops files after sink policy script printing status h = (h, λ t. refl)

-- the same where workers would have been replaced
pub handover_stops : (files after : FileState) (sink : SinkState) (policy script : List ℕ) (every : ℕ) (status : Status) → InputRefused files after policy script status
    → HandoverEnds files after sink sink policy script every status
handover_stops files after sink policy script every (Refused HasRequests) h = absurd h
handover_stops files after sink policy script every (Refused refusal) h = play_stops files after sink policy script (with_ledgers every) (Refused refusal) h
handover_stops files after sink policy script every status h = play_stops files after sink policy script (with_ledgers every) status h

-- and where they were
pub handover_ends : (files after : FileState) (old new : SinkState) (policy script : List ℕ) (every : ℕ) (P : Policy) (F : ScriptFile) (r : Result (Unit {0}) Status) → PolicyIs files policy (Ok P)
    → ScriptFileIs files script (Ok F) → IsHandedOver P F → Printed (handover_report every P F.script) old new r → HandoverEnds files after old new policy script every (status_of r)
handover_ends files after old new policy script every P F r policy_is file_is handed printed = by r printed (play_ends files after old new policy script (with_ledgers every) P F r policy_is file_is handed printed)
  where
    by : (r : Result (Unit {0}) Status) → Printed (handover_report every P F.script) old new r → PlayEnds files after old new policy script (with_ledgers every) (status_of r)
        → HandoverEnds files after old new policy script every (status_of r)
    by (Ok u) p e = e
    by (Err (Refused HasRequests)) p e = absurd p
    by (Err (Refused refusal)) p e = e
    by (Err status) p e = e
