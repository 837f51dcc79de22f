-- How the stepping of a script ends.
-- By what serving tells of the requests, since no reading changes files, and by cases on the status.
use Rattle.std.proofs.Common.{◌≡◌, ℕ, true, List, inl, refl, ap, subst, ◌∙◌}
use Rattle.std.specs.Prelude.{Option, Ok, IsSomeAnd, ◌++◌}
use Rattle.hist_model.specs.Legal.{started}
use Rattle.step_session.specs.Scripts.{before_schedule}
use Rattle.step_session.specs.declared.origin.Origin.{Origin}
use Rattle.hist_model.specs.declared.script.Script.{Script}
use Rattle.io_edge.specs.FileState.{FileState, SameFiles}
use Rattle.io_edge.specs.SinkState.{SinkState}
use Rattle.asked_steps.specs.Steps.{IsBegun}
use Rattle.step_session.specs.Lines.{all_answers, history_after}
use Rattle.step_session.specs.Serving.{TookAll}
use Rattle.program_files.specs.Inputs.{PolicyIs, ScriptIs}
use Rattle.program_files.specs.Refusals.{InputRefused, Stands}
use Rattle.step_words.specs.Stepping.{AreStepped, StepEnds, requests_name}
use Rattle.program_files.specs.declared.status.InputFile.TheVariants.{Policy as PolicyFile, Script as ScriptFile}
use Rattle.program_files.specs.declared.status.Refusal.TheVariants.{ReadFault, TooLong, BadPolicy, BadScript}
use Rattle.program_files.specs.declared.status.Status.{Status}
use Rattle.program_files.specs.declared.status.Status.TheVariants.{Done, NoMemory, Refused}

-- the policy or the script wasn't taken
pub step_stops : (files after : FileState) (sink : SinkState) (policy script : List ℕ) (status : Status) → InputRefused files after policy script status → StepEnds files after sink sink policy script status
step_stops files after sink policy script NoMemory h = inl (λ t. refl)
step_stops files after sink policy script (Refused (ReadFault PolicyFile)) h = (h, λ t. refl)
step_stops files after sink policy script (Refused (TooLong PolicyFile)) h = (h, λ t. refl)
step_stops files after sink policy script (Refused (BadPolicy error)) h = (h, λ t. refl)
step_stops files after sink policy script (Refused (ReadFault ScriptFile)) h = (h, λ t. refl)
step_stops files after sink policy script (Refused (TooLong ScriptFile)) h = (h, λ t. refl)
step_stops files after sink policy script (Refused (BadScript error)) h = (h, λ t. refl)
step_stops files after sink policy script status h = absurd h

-- both were taken
module _ (files mid after : FileState) (old new : SinkState) (policy script : List ℕ) (P : Origin) (S : Script) (same : SameFiles files mid) (policy_is : PolicyIs files policy (Ok P.policy))
    (script_is : ScriptIs files script (Ok S)) (front_is : files.tells ≡ true → IsSomeAnd (files.bytes script) (λ bytes. P.front ≡ before_schedule bytes))
    (kernel : (lines : List (List ℕ)) → IsBegun S (history_after P S (started S) lines)) where
  are : AreStepped files policy script P S
  are = record { policy_is = policy_is; script_is = script_is; front_is = front_is; kernel = kernel }

  bytes_same : mid.bytes requests_name ≡ files.bytes requests_name
  bytes_same = ap (λ bytes. bytes requests_name) same.bytes

  took_all : TookAll P S mid requests_name old new → TookAll P S files requests_name old new
  took_all took = λ t. subst (λ (f : Option (List ℕ)). IsSomeAnd f (λ bytes. old.tells ≡ true → new.taken ≡ old.taken ++ all_answers P S bytes)) bytes_same (took (same.tells ∙ t))

  pub all_answered : TookAll P S mid requests_name old new → Stands new → StepEnds files after old new policy script Done
  all_answered took stands = ((P, S, are, took_all took), stands)
