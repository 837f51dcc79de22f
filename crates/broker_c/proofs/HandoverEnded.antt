-- How a play of bytes ended whose workers were replaced, from how the top call ended over them as files, and a sink in memory.
-- By whether they can be replaced after so many steps, and by how a play ends.
use Rattle.std.proofs.Common.{◌≡◌, ℕ, Bool, true, false, ◌&&◌, List, [], length, inl, refl, sym, subst, arith, Option, None, Some}
use Rattle.std.specs.Prelude.{codes, nat_le, nat_lt, if◌then◌else◌}
use Rattle.std.proofs.lemmas.Bool.{ltb-true}
use Rattle.io_edge.specs.FileState.{FileState}
use Rattle.io_edge.specs.SinkState.{SinkState}
use Rattle.broker_app.specs.Answers.{Answers, IsUsage}
use Rattle.play_words.specs.Handovers.{HandoverEnds, with_ledgers}
use Rattle.broker_app.specs.Words.{Form, Handover}
use Rattle.program_files.specs.declared.status.Status.{Status}
use Rattle.program_files.specs.declared.status.Status.TheVariants.{Usage, NoMemory, Refused}
use Rattle.program_files.specs.declared.status.Refusal.TheVariants.{HasRequests}
use Rattle.broker_c.proofs.PlayEnded.{ended_gives}
use Rattle.broker_c.proofs.Ranges.{in_range, out_of_range}
use Rattle.broker_c.specs.Given.{files_of}
use Rattle.broker_c.specs.Held.{empty_sink}
use Rattle.broker_c.specs.Outcomes.{GivesTurns, HandoverGives, IsEvery, PlayGives, settled}

-- where they can be replaced, it ends as a play
replaced : (policy script : List ℕ) (every room : ℕ) (printed : List ℕ) (status : Status) → IsEvery every → PlayGives (with_ledgers every) policy script room printed status
    → HandoverGives policy script every room printed status
replaced policy script every room printed Usage can gives = absurd gives
replaced policy script every room printed NoMemory can gives = gives
replaced policy script every room printed (Refused HasRequests) can gives = absurd gives
replaced policy script every room printed (Refused refusal) can gives = (can, gives)
replaced policy script every room printed status can gives = (can, gives)

-- a script is refused that says what another broker's workers ask for
refused : (policy script : List ℕ) (every room : ℕ) (over failed : Bool) (new : SinkState) → nat_lt room (length new.taken) ≡ over → IsEvery every → GivesTurns policy script → new.taken ≡ []
    → HandoverGives policy script every room new.taken (settled over failed (Refused HasRequests))
refused policy script every room true failed new is can turns nothing = let over = ltb-true room (length new.taken) is in absurd (grind arith)
refused policy script every room false true new is can turns nothing = inl nothing
refused policy script every room false false new is can turns nothing = (can, turns, nothing)

-- so it ends where they can be replaced after so many steps
by_status : (policy script : List ℕ) (every room : ℕ) (failed : Bool) (after : FileState) (new : SinkState) (status : Status) → IsEvery every
    → HandoverEnds (files_of policy script []) after empty_sink new (codes "policy") (codes "script") every status
    → HandoverGives policy script every room new.taken (settled (nat_lt room (length new.taken)) failed status)
by_status policy script every room failed after new (Refused HasRequests) can (turns, nothing) =
    refused policy script every room (nat_lt room (length new.taken)) failed new refl can (turns.0, turns.1, turns.2 refl, turns.3 refl, turns.4) (nothing refl)
by_status policy script every room failed after new (Refused refusal) can e =
    replaced policy script every room new.taken _ can (ended_gives (with_ledgers every) policy script room failed after new (Refused refusal) e)
by_status policy script every room failed after new status can e =
    replaced policy script every room new.taken _ can (ended_gives (with_ledgers every) policy script room failed after new status e)

-- nothing is printed where they can't
unreplaced : (policy script : List ℕ) (every room : ℕ) (over failed : Bool) (new : SinkState) (status : Status) → nat_lt room (length new.taken) ≡ over → ¬ (IsEvery every) → IsUsage status → new.taken ≡ []
    → HandoverGives policy script every room new.taken (settled over failed status)
unreplaced policy script every room true failed new Usage is cannot usage nothing = let over = ltb-true room (length new.taken) is in absurd (grind arith)
unreplaced policy script every room false true new Usage is cannot usage nothing = inl nothing
unreplaced policy script every room false false new Usage is cannot usage nothing = (cannot, nothing)
unreplaced policy script every room over failed new status is cannot usage nothing = absurd usage

-- the form that asks for replacements after so many steps, if there can be such
abbrev form_of : ℕ → Option Form
form_of every = if nat_le 1 every && nat_le every 200000 then Some (Handover (codes "policy") (codes "script") every) else None

-- by whether the number of steps is in range
by_every : (policy script : List ℕ) (every room : ℕ) (failed : Bool) (after : FileState) (new : SinkState) (status : Status) → Answers (form_of every) (files_of policy script []) after empty_sink new status
    → HandoverGives policy script every room new.taken (settled (nat_lt room (length new.taken)) failed status)
by_every policy script every room failed after new status answers = by (nat_le 1 every && nat_le every 200000) refl answers
  where
    by : (within : Bool) → (nat_le 1 every && nat_le every 200000) ≡ within
        → Answers (if within then Some (Handover (codes "policy") (codes "script") every) else None) (files_of policy script []) after empty_sink new status
        → HandoverGives policy script every room new.taken (settled (nat_lt room (length new.taken)) failed status)
    by true is e = by_status policy script every room failed after new status (in_range 200000 every is) e
    by false is e = unreplaced policy script every room (nat_lt room (length new.taken)) failed new status refl (out_of_range 200000 every is) e.0 (e.1 refl)

-- what the play of the bytes gave whose workers were replaced
pub handover_gives : (policy script printed : List ℕ) (every room : ℕ) (failed : Bool) (form : Option Form) (files after : FileState) (old new : SinkState) (ended status : Status)
    → form ≡ form_of every → files ≡ files_of policy script [] → old ≡ empty_sink → Answers form files after old new ended
    → printed ≡ new.taken → status ≡ settled (nat_lt room (length new.taken)) failed ended → HandoverGives policy script every room printed status
handover_gives policy script printed every room failed form files after old new ended status asked given empty e taken told =
    let asked-for : Answers (form_of every) files after old new ended = subst (λ f. Answers f files after old new ended) asked e in
    let begin : Answers (form_of every) files after empty_sink new ended = subst (λ sink. Answers (form_of every) files after sink new ended) empty asked-for in
    let over : Answers (form_of every) (files_of policy script []) after empty_sink new ended = subst (λ f. Answers (form_of every) f after empty_sink new ended) given begin in
    let gives = by_every policy script every room failed after new ended over in
    subst (λ text. HandoverGives policy script every room text status) (sym taken) (subst (λ s. HandoverGives policy script every room new.taken s) (sym told) gives)
