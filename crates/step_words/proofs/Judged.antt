-- How the word ends that judges a broker.
-- By what its play has found, and since the newest event of a play is that the listener is closed.
use Rattle.std.proofs.Common.{◌≡◌, ◌-◌, ℕ, true, List, [], ◌∷◌, length, inl, refl, ap, subst, ◌∙◌, arith}
use Rattle.std.specs.Prelude.{Option, Some, None, Result, Ok, Err}
use Rattle.std.specs.Option.{option_map}
use Rattle.std.specs.Result.{IfOk}
use Rattle.hist_model.specs.declared.event.Event.{Event}
use Rattle.hist_model.specs.declared.policy.Policy.{Policy}
use Rattle.io_edge.specs.FileState.{FileState}
use Rattle.io_edge.specs.SinkState.{SinkState}
use Rattle.judge_pass.specs.Closed.{is_closed}
use Rattle.judge_pass.specs.Counted.{AreCounted}
use Rattle.judge_pass.specs.Finding.{Finding, as_finding, finding}
use Rattle.judge_pass.specs.Heads.{events_of, numbers_text}
use Rattle.judge_pass.specs.declared.judge.Counts.{Counts}
use Rattle.judge_pass.specs.declared.watch.FirstFault.{FirstFault}
use Rattle.policy_classes.specs.declared.ending.Ending.TheVariants.{Alike}
use Rattle.policy_classes.specs.declared.ending.Told.{Told}
use Rattle.script_reader.specs.declared.file.ScriptFile.{ScriptFile}
use Rattle.policy_words.proofs.Tellings.{told_ends}
use Rattle.program_files.specs.Inputs.{PolicyIs, ScriptFileIs}
use Rattle.step_words.specs.Judgements.{IsToldOf, JudgeEnds, TellsOfBroker, judged_history}
use Rattle.program_files.specs.Refusals.{InputRefused}
use Rattle.policy_words.specs.Tellings.{IsPrinted}
use Rattle.program_files.specs.declared.status.Status.{Status}
use Rattle.program_files.specs.declared.status.Status.TheVariants.{NoMemory, Refused}

-- how many events a closed history has without its last
closed_events : (K : List Event) → is_closed K ≡ true → length K - 1 ≡ events_of K
closed_events [] h = cc
closed_events (e ∷ K) h = rw h (omega arith)

pub mediated_told : (K : List Event) (events : List Event) (counts : Counts) (told : Told) → is_closed K ≡ true → events ≡ K → AreCounted K counts
    → told.text ≡ numbers_text (length events - 1) counts.calls counts.effects counts.answers → told.ending ≡ Alike → IsToldOf None K told
mediated_told K events counts told closed is counted text ending =
    let there : length events - 1 ≡ events_of K = ap (λ L. length L - 1) is ∙ closed_events K closed in
    (text ∙ rw there (rw counted.calls_are (rw counted.effects_are (rw counted.answers_are refl))), ending)

-- it is told of what was found
pub told_of_either : (found : Option FirstFault) (f : Option Finding) (K : List Event) (told : Told) → option_map as_finding found ≡ f
    → ((it : FirstFault) → found ≡ Some it → IsToldOf (Some (as_finding it)) K told) → (found ≡ None → IsToldOf None K told) → IsToldOf f K told
told_of_either (Some it) f K told is broken mediated = subst (λ g. IsToldOf g K told) is (broken it refl)
told_of_either None f K told is broken mediated = subst (λ g. IsToldOf g K told) is (mediated refl)

-- what is told of a fault is told of the one that was found
pub told_still : {E : Type 0} (r : Result Told E) (a : FirstFault) (o : Option FirstFault) → o ≡ Some a → IfOk r (λ told. (K : List Event) → IsToldOf (Some (as_finding a)) K told)
    → IfOk r (λ told. (K : List Event) (found : FirstFault) → o ≡ Some found → IsToldOf (Some (as_finding found)) K told)
told_still (Ok told) a o is h = λ K found e. let same : a ≡ found = cc in subst (λ (f : FirstFault). IsToldOf (Some (as_finding f)) K told) same (h K)
told_still (Err error) a o is h = h

-- the files weren't both taken
pub inputs_stop : (files after : FileState) (sink : SinkState) (policy script : List ℕ) (status : Status) → InputRefused files after policy script status → JudgeEnds files after sink sink policy script status
inputs_stop files after sink policy script (Refused refusal) h = (h, λ t. refl)
inputs_stop files after sink policy script NoMemory h = inl (λ t. refl)
inputs_stop files after sink policy script status h = absurd h

-- they were
pub judged_told : (files after : FileState) (old new : SinkState) (policy script : List ℕ) (P : Policy) (F : ScriptFile) (told : Told) (status : Status) → PolicyIs files policy (Ok P) → ScriptFileIs files script (Ok F)
    → IsToldOf (finding P F.script (judged_history P F)) (judged_history P F) told → IsPrinted told old new status → JudgeEnds files after old new policy script status
judged_told files after old new policy script P F told status policy_is file_is tells shown =
    told_ends told (TellsOfBroker files policy script) _ old new status (P, F, policy_is, file_is, tells) shown
