-- How the judging of bytes ended, from how the top call ended over them as files, and a sink in memory.
-- By cases on the status, since the files tell their bytes and are always there, and what is told of workers has one of two endings.
use Rattle.std.proofs.Common.{◌≡◌, ℕ, ◌≤◌, Bool, true, false, List, [], length, ◌⊎◌, Option, Some, None, inl, inr, refl, sym, ap, subst, ◌∙◌}
use Rattle.std.specs.Prelude.{codes, nat_lt}
use Rattle.io_edge.specs.FileState.{FileState}
use Rattle.io_edge.specs.SinkState.{SinkState}
use Rattle.hist_model.specs.declared.event.Event.{Event}
use Rattle.judge_pass.specs.Finding.{Finding, finding}
use Rattle.policy_classes.specs.declared.ending.Ending.{Ending}
use Rattle.policy_classes.specs.declared.ending.Ending.TheVariants.{Alike, Otherwise, Undecided}
use Rattle.policy_classes.specs.declared.ending.Told.{Told}
use Rattle.step_words.specs.Judgements.{IsToldOf, JudgeEnds, TellsOfBroker, judged_history}
use Rattle.policy_words.specs.Tellings.{TookPrefixOf, status_of_ending}
use Rattle.program_files.specs.declared.status.Status.{Status}
use Rattle.program_files.specs.declared.status.Status.TheVariants.{Done, Refused, WriteFault, NoMemory}
use Rattle.program_files.specs.declared.status.Status.TheVariants.{Otherwise as IsOtherwise}
use Rattle.broker_c.proofs.Inputs.{input_gives}
use Rattle.broker_c.proofs.Prefixes.{adds_whole}
use Rattle.broker_c.proofs.Settled.{by_room}
use Rattle.broker_c.specs.Given.{files_of}
use Rattle.broker_c.specs.Held.{empty_sink}
use Rattle.broker_c.specs.Outcomes.{AreJudged, BeginsJudgement, IsJudgement, JudgeGives, settled}

-- what is told of workers ends alike or otherwise
ends_so : (found : Option Finding) (K : List Event) (told : Told) → IsToldOf found K told → (told.ending ≡ Alike) ⊎ (told.ending ≡ Otherwise)
ends_so None K told is = inl is.1
ends_so (Some f) K told is = inr is.1

module _ (policy script : List ℕ) (after : FileState) (new : SinkState) where
  -- how the top call ends over the bytes
  abbrev Ends : Status → Type 0
  Ends status = JudgeEnds (files_of policy script []) after empty_sink new (codes "policy") (codes "script") status

  -- what is read of the files is read of the bytes
  are_judged : (told : Told) → TellsOfBroker (files_of policy script []) (codes "policy") (codes "script") told → AreJudged policy script told
  are_judged told (P, F, policy_is, file_is, is) = (P, F, policy_is refl, file_is refl, is)

  took_beginning : TookPrefixOf (TellsOfBroker (files_of policy script []) (codes "policy") (codes "script")) empty_sink new → BeginsJudgement policy script new.taken
  took_beginning p = (p.0, are_judged p.0 p.1, p.2 refl)

  -- the status tells the ending
  alike : (ending : Ending) → Done ≡ status_of_ending ending → ending ≡ Alike
  alike Alike is = refl
  alike Otherwise is = cc
  alike Undecided is = cc

  otherwise : (ending : Ending) → IsOtherwise ≡ status_of_ending ending → ending ≡ Otherwise
  otherwise Otherwise is = refl
  otherwise Alike is = cc
  otherwise Undecided is = cc

  -- all of it was printed, with status 0 or 11
  mediated : Ends Done → IsJudgement policy script Alike new.taken
  mediated (told, tells, status, took, stands) = (told, are_judged told tells, alike told.ending status, took refl)

  broken : Ends IsOtherwise → IsJudgement policy script Otherwise new.taken
  broken (told, tells, status, took, stands) = (told, are_judged told tells, otherwise told.ending status, took refl)

  -- no other status tells of workers
  none : (status : Status) → (Done ≡ status → ⊥) → (IsOtherwise ≡ status → ⊥) → (told : Told) → TellsOfBroker (files_of policy script []) (codes "policy") (codes "script") told
      → status ≡ status_of_ending told.ending → ⊥
  none status not_done not_otherwise told (P, F, policy_is, file_is, is) ended =
      let K = judged_history P F in
      elim (ends_so (finding P F.script K) K told is) [
        | inl a ↦ not_done (sym (ended ∙ ap (λ e. status_of_ending e) a))
        | inr o ↦ not_otherwise (sym (ended ∙ ap (λ e. status_of_ending e) o))
      ]

  -- the whole of it begins it
  begins_whole : (ending : Ending) → IsJudgement policy script ending new.taken → BeginsJudgement policy script new.taken
  begins_whole ending p = (p.0, p.1, adds_whole _ new.taken p.3)

  -- nothing was printed, or a prefix of it
  begun : (status : Status) → Ends status → (new.taken ≡ []) ⊎ BeginsJudgement policy script new.taken
  begun Done e = inr (begins_whole Alike (mediated e))
  begun IsOtherwise e = inr (begins_whole Otherwise (broken e))
  begun WriteFault e = inr (took_beginning e.1)
  begun NoMemory e = elim e [ inl nothing ↦ inl (nothing refl) | inr part ↦ inr (took_beginning part) ]
  begun (Refused refusal) e = inl (e.1 refl)
  begun status e = absurd (none status (λ is. cc) (λ is. cc) e.0 e.1 e.2)

  -- all that was printed fits
  fitting : (room : ℕ) (failed : Bool) (status : Status) → length new.taken ≤ room → Ends status → JudgeGives policy script room new.taken (settled false failed status)
  fitting room failed WriteFault le e = begun WriteFault e
  fitting room true status le e = begun status e
  fitting room false Done le e = (mediated e, le)
  fitting room false IsOtherwise le e = (broken e, le)
  fitting room false NoMemory le e = begun NoMemory e
  fitting room false (Refused refusal) le e = input_gives policy script [] new.taken after (Refused refusal) e.0 (e.1 refl)
  fitting room false status le e = absurd (none status (λ is. cc) (λ is. cc) e.0 e.1 e.2)

-- what the judging of the bytes gave
pub judge_gives : (policy script printed : List ℕ) (room : ℕ) (failed : Bool) (files after : FileState) (old new : SinkState) (ended status : Status)
    → files ≡ files_of policy script [] → old ≡ empty_sink → JudgeEnds files after old new (codes "policy") (codes "script") ended
    → printed ≡ new.taken → status ≡ settled (nat_lt room (length new.taken)) failed ended → JudgeGives policy script room printed status
judge_gives policy script printed room failed files after old new ended status are empty e taken told =
    let begin : JudgeEnds files after empty_sink new (codes "policy") (codes "script") ended = subst (λ sink. JudgeEnds files after sink new (codes "policy") (codes "script") ended) empty e in
    let over : JudgeEnds (files_of policy script []) after empty_sink new (codes "policy") (codes "script") ended =
    subst (λ f. JudgeEnds f after empty_sink new (codes "policy") (codes "script") ended) are begin in
    let gives = by_room (JudgeGives policy script room new.taken) (BeginsJudgement policy script) room failed new.taken ended (begun policy script after new ended over) (λ part longer. (part, longer))
    (λ fits. fitting policy script after new room failed ended fits over) in
    subst (λ text. JudgeGives policy script room text status) (sym taken) (subst (λ s. JudgeGives policy script room new.taken s) (sym told) gives)
