-- How the check of bytes ended, from how the top call ended over them as files, and a sink in memory.
-- By cases on the status, since the files tell their bytes and are always there.
use Rattle.std.proofs.Common.{◌≡◌, ℕ, ◌≤◌, Bool, true, false, List, [], length, ◌⊎◌, Some, inl, inr, refl, sym, subst}
use Rattle.std.specs.Prelude.{codes, nat_lt}
use Rattle.io_edge.specs.FileState.{FileState}
use Rattle.io_edge.specs.SinkState.{SinkState}
use Rattle.hist_model.specs.declared.policy.Policy.{Policy}
use Rattle.hist_model.specs.declared.script.Script.{Script}
use Rattle.play_words.specs.Checks.{AreChecked, BytesCheckEnds, CheckEnds, ReadCheckEnds, TookFindings, TookFindingsPrefix}
use Rattle.program_files.specs.declared.status.InputFile.TheVariants.{Report as ReportFile}
use Rattle.program_files.specs.declared.status.Refusal.TheVariants.{ReadFault, TooLong}
use Rattle.program_files.specs.declared.status.Status.{Status}
use Rattle.program_files.specs.declared.status.Status.TheVariants.{Done, Refused, WriteFault, NoMemory, NotReport}
use Rattle.broker_c.proofs.Inputs.{input_gives}
use Rattle.broker_c.proofs.Prefixes.{adds_whole}
use Rattle.broker_c.proofs.Settled.{by_room}
use Rattle.broker_c.specs.Given.{files_of}
use Rattle.broker_c.specs.Held.{empty_sink}
use Rattle.broker_c.specs.Outcomes.{AreInput, BeginsFindings, CheckGives, IsFindings, settled}

-- how the top call ends over the bytes
abbrev Ends : List ℕ → List ℕ → List ℕ → FileState → SinkState → Status → Type 0
Ends policy script report after new status = CheckEnds (files_of policy script report) after empty_sink new (codes "policy") (codes "script") (codes "report") status

-- how it ends where all three are read
abbrev ReadEnds : List ℕ → List ℕ → List ℕ → SinkState → Status → Type 0
ReadEnds policy script report new status = ReadCheckEnds (files_of policy script report) empty_sink new (codes "policy") (codes "script") (codes "report") status

-- what the bytes of a report come to under a policy and a script
record Given (policy script report : List ℕ) (new : SinkState) (status : Status) : Type 0 where
  P : Policy
  S : Script
  are : AreInput policy script P S
  ends : BytesCheckEnds P S report empty_sink new status

-- what is read of the report's file are its bytes
same_report : (policy script report : List ℕ) (P : Policy) (S : Script) (bytes : List ℕ) → AreChecked (files_of policy script report) (codes "policy") (codes "script") (codes "report") P S bytes
    → bytes ≡ report
same_report policy script report P S bytes are = let has : Some report ≡ Some bytes = (are.report_is refl).0 in cc

given : (policy script report : List ℕ) (new : SinkState) (status : Status) → ReadEnds policy script report new status → Given policy script report new status
given policy script report new status (P, S, bytes, are, e) = record {
  P = P;
  S = S;
  are = (are.policy_is refl, are.script_is refl);
  ends = subst (λ xs. BytesCheckEnds P S xs empty_sink new status) (same_report policy script report P S bytes are) e;
}

-- what the sink took is what was found
whole : (policy script report : List ℕ) (P : Policy) (S : Script) (new : SinkState) → AreInput policy script P S → TookFindings P S report empty_sink new → IsFindings policy script report new.taken
whole policy script report P S new are (H, finished, found, took) = (P, S, H, finished, are, found, took refl)

-- or a prefix of it
part : (policy script report : List ℕ) (P : Policy) (S : Script) (new : SinkState) → AreInput policy script P S → TookFindingsPrefix P S report empty_sink new
    → BeginsFindings policy script report new.taken
part policy script report P S new are (H, finished, found, took) = (P, S, H, finished, are, found, took refl)

-- the whole of it begins it
begins_whole : (policy script report printed : List ℕ) → IsFindings policy script report printed → BeginsFindings policy script report printed
begins_whole policy script report printed (P, S, H, finished, are, found, is) = (P, S, H, finished, are, found, adds_whole _ printed is)

-- with status 0 what was found was printed
done : (policy script report : List ℕ) (new : SinkState) → ReadEnds policy script report new Done → IsFindings policy script report new.taken
done policy script report new e = let g = given policy script report new Done e in whole policy script report g.P g.S new g.are g.ends.0

-- for want of memory nothing was printed, or a prefix of it
unfinished : (policy script report : List ℕ) (new : SinkState) → ReadEnds policy script report new NoMemory → (new.taken ≡ []) ⊎ BeginsFindings policy script report new.taken
unfinished policy script report new e =
    let g = given policy script report new NoMemory e in
    elim g.ends [ inl nothing ↦ inl (nothing refl) | inr took ↦ inr (part policy script report g.P g.S new g.are took) ]

-- nothing was printed, or a prefix of what was found
begun : (policy script report : List ℕ) (after : FileState) (new : SinkState) (status : Status) → Ends policy script report after new status
    → (new.taken ≡ []) ⊎ BeginsFindings policy script report new.taken
begun policy script report after new Done e = inr (begins_whole policy script report new.taken (done policy script report new e))
begun policy script report after new WriteFault e =
    let g = given policy script report new WriteFault e in
    inr (part policy script report g.P g.S new g.are g.ends.1)
begun policy script report after new NoMemory e = elim e [ inl nothing ↦ inl (nothing refl) | inr read ↦ unfinished policy script report new read ]
begun policy script report after new (NotReport line) e = let g = given policy script report new (NotReport line) e in inl (g.ends.1 refl)
begun policy script report after new (Refused (ReadFault ReportFile)) e = inl (e.1 refl)
begun policy script report after new (Refused (TooLong ReportFile)) e = inl (e.1 refl)
begun policy script report after new status e = inl (e.1 refl)

-- all that was printed fits
fitting : (policy script report : List ℕ) (room : ℕ) (failed : Bool) (after : FileState) (new : SinkState) (status : Status) → length new.taken ≤ room → Ends policy script report after new status
    → CheckGives policy script report room new.taken (settled false failed status)
fitting policy script report room failed after new WriteFault le e = begun policy script report after new WriteFault e
fitting policy script report room true after new status le e = begun policy script report after new status e
fitting policy script report room false after new Done le e = (done policy script report new e, le)
fitting policy script report room false after new NoMemory le e = begun policy script report after new NoMemory e
fitting policy script report room false after new (NotReport line) le e =
    let g = given policy script report new (NotReport line) e in
    ((g.P, g.S, g.are, g.ends.0), g.ends.1 refl)
fitting policy script report room false after new (Refused (ReadFault ReportFile)) le ((P, S, policy_is, script_is, cannot), nothing) = let absent = cannot.1 refl in cc
fitting policy script report room false after new (Refused (TooLong ReportFile)) le ((P, S, policy_is, script_is, past), nothing) =
    ((P, S, (policy_is refl, script_is refl)), past.longer refl, nothing refl)
fitting policy script report room false after new status le e = input_gives policy script report new.taken after status e.0 (e.1 refl)

-- what the check of the bytes gave
pub check_gives : (policy script report printed : List ℕ) (room : ℕ) (failed : Bool) (files after : FileState) (old new : SinkState) (ended status : Status)
    → files ≡ files_of policy script report → old ≡ empty_sink → CheckEnds files after old new (codes "policy") (codes "script") (codes "report") ended
    → printed ≡ new.taken → status ≡ settled (nat_lt room (length new.taken)) failed ended → CheckGives policy script report room printed status
check_gives policy script report printed room failed files after old new ended status are empty e taken told =
    let begin : CheckEnds files after empty_sink new (codes "policy") (codes "script") (codes "report") ended =
    subst (λ sink. CheckEnds files after sink new (codes "policy") (codes "script") (codes "report") ended) empty e in
    let over : Ends policy script report after new ended = subst (λ f. CheckEnds f after empty_sink new (codes "policy") (codes "script") (codes "report") ended) are begin in
    let gives = by_room (CheckGives policy script report room new.taken) (BeginsFindings policy script report) room failed new.taken ended (begun policy script report after new ended over)
    (λ part longer. (part, longer)) (λ fits. fitting policy script report room failed after new ended fits over) in
    subst (λ text. CheckGives policy script report room text status) (sym taken) (subst (λ s. CheckGives policy script report room new.taken s) (sym told) gives)
