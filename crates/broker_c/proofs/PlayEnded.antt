-- How a play of bytes ended, from how the top call ended over them as files, and a sink in memory.
-- By cases on the status, since the files tell their bytes and are always there.
use Rattle.std.proofs.Common.{◌≡◌, ℕ, ◌≤◌, Bool, true, false, List, [], length, ◌⊎◌, inl, inr, refl, sym, subst}
use Rattle.std.specs.Prelude.{codes, nat_lt}
use Rattle.io_edge.specs.FileState.{FileState}
use Rattle.io_edge.specs.SinkState.{SinkState}
use Rattle.hist_model.specs.declared.policy.Policy.{Policy}
use Rattle.script_reader.specs.declared.file.ScriptFile.{ScriptFile}
use Rattle.play_words.specs.Printings.{AreRead, PlayEnds, Printing, TookPlayPrefix}
use Rattle.program_files.specs.declared.status.Status.{Status}
use Rattle.program_files.specs.declared.status.Status.TheVariants.{Done, WriteFault, NoMemory}
use Rattle.broker_c.proofs.Inputs.{input_gives}
use Rattle.broker_c.proofs.Prefixes.{adds_whole}
use Rattle.broker_c.proofs.Settled.{by_room}
use Rattle.broker_c.specs.Given.{files_of}
use Rattle.broker_c.specs.Held.{empty_sink}
use Rattle.broker_c.specs.Outcomes.{AreGiven, BeginsPlay, IsPlay, PlayGives, settled}

-- how the top call ends over the bytes
abbrev Ends : Printing → List ℕ → List ℕ → FileState → SinkState → Status → Type 0
Ends text policy script after new status = PlayEnds (files_of policy script []) after empty_sink new (codes "policy") (codes "script") text status

-- what is read of the files is read of the bytes
are_given : (policy script : List ℕ) (printing : Printing) (P : Policy) (F : ScriptFile) → AreRead (files_of policy script []) (codes "policy") (codes "script") printing P F
    → AreGiven policy script printing P F
are_given policy script printing P F read = record { policy_is = read.policy_is refl; file_is = read.file_is refl; holds = read.holds }

-- a sink that took a prefix of what is printed of the files took one of what is printed of the bytes
took_beginning : (text : Printing) (policy script : List ℕ) (new : SinkState) → TookPlayPrefix (files_of policy script []) (codes "policy") (codes "script") text empty_sink new
    → BeginsPlay text policy script new.taken
took_beginning text policy script new p = (p.0, p.1, are_given policy script text p.0 p.1 p.2, p.3 refl)

-- the whole of it begins it
begins_whole : (text : Printing) (policy script printed : List ℕ) → IsPlay text policy script printed → BeginsPlay text policy script printed
begins_whole text policy script printed p = (p.0, p.1, p.2, adds_whole _ printed p.3)

-- with status 0 all of it was printed
done : (text : Printing) (policy script : List ℕ) (after : FileState) (new : SinkState) → Ends text policy script after new Done → IsPlay text policy script new.taken
done text policy script after new e = let p = e.0 in (p.0, p.1, are_given policy script text p.0 p.1 p.2, p.3 refl)

-- nothing was printed, or a prefix of it
begun : (text : Printing) (policy script : List ℕ) (after : FileState) (new : SinkState) (status : Status) → Ends text policy script after new status → (new.taken ≡ []) ⊎ BeginsPlay text policy script new.taken
begun text policy script after new Done e = inr (begins_whole text policy script new.taken (done text policy script after new e))
begun text policy script after new WriteFault e = inr (took_beginning text policy script new e.1)
begun text policy script after new NoMemory e = elim e [ inl nothing ↦ inl (nothing refl) | inr part ↦ inr (took_beginning text policy script new part) ]
begun text policy script after new status e = inl (e.1 refl)

-- all that was printed fits
fitting : (text : Printing) (policy script : List ℕ) (room : ℕ) (failed : Bool) (after : FileState) (new : SinkState) (status : Status) → length new.taken ≤ room
    → Ends text policy script after new status → PlayGives text policy script room new.taken (settled false failed status)
fitting text policy script room failed after new WriteFault le e = begun text policy script after new WriteFault e
fitting text policy script room true after new status le e = begun text policy script after new status e
fitting text policy script room false after new Done le e = (done text policy script after new e, le)
fitting text policy script room false after new NoMemory le e = begun text policy script after new NoMemory e
fitting text policy script room false after new status le e = input_gives policy script [] new.taken after status e.0 (e.1 refl)

-- what a play gave whose top call ended so
pub ended_gives : (text : Printing) (policy script : List ℕ) (room : ℕ) (failed : Bool) (after : FileState) (new : SinkState) (status : Status) → Ends text policy script after new status
    → PlayGives text policy script room new.taken (settled (nat_lt room (length new.taken)) failed status)
ended_gives text policy script room failed after new status e =
    by_room (PlayGives text policy script room new.taken) (BeginsPlay text policy script) room failed new.taken status (begun text policy script after new status e) (λ part longer. (part, longer))
    (λ fits. fitting text policy script room failed after new status fits e)

-- what the play of the bytes gave
pub play_gives : (text : Printing) (policy script printed : List ℕ) (room : ℕ) (failed : Bool) (files after : FileState) (old new : SinkState) (ended status : Status)
    → files ≡ files_of policy script [] → old ≡ empty_sink → PlayEnds files after old new (codes "policy") (codes "script") text ended
    → printed ≡ new.taken → status ≡ settled (nat_lt room (length new.taken)) failed ended → PlayGives text policy script room printed status
play_gives text policy script printed room failed files after old new ended status given empty e taken told =
    let begin : PlayEnds files after empty_sink new (codes "policy") (codes "script") text ended = subst (λ sink. PlayEnds files after sink new (codes "policy") (codes "script") text ended) empty e in
    let over : Ends text policy script after new ended = subst (λ f. PlayEnds f after empty_sink new (codes "policy") (codes "script") text ended) given begin in
    let gives = ended_gives text policy script room failed after new ended over in
    subst (λ bytes. PlayGives text policy script room bytes status) (sym taken) (subst (λ s. PlayGives text policy script room new.taken s) (sym told) gives)
