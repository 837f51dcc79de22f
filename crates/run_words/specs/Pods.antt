-- What the answer of a pod means: which containers were read and served, what is printed of them, and why it stopped.
use Rattle.std.specs.Prelude.{◌≡◌, ℕ, ◌<◌, ◌++◌, ◌∷◌, ◌⊎◌, Bool, true, false, List, get_or, length, map, Ok, Option}
use Rattle.std.specs.List.{AllZip}
use Rattle.io_edge.specs.Faults.{Rose}
use Rattle.io_edge.specs.FileState.{FileState}
use Rattle.io_edge.specs.SinkState.{SinkState, AddsPrefix}
use Rattle.hist_model.specs.declared.script.Script.{Script}
use Rattle.pod_broker.specs.Pods.{AllApart, NoneOverlap, overlap}
use Rattle.pod_broker.specs.Serving.{histories}
use Rattle.pod_broker.specs.declared.container.Container.{Container}
use Rattle.worker_gate.specs.declared.served.Played.{Played}
use Rattle.program_files.specs.Inputs.{PolicyIs, ScriptIs}
use Rattle.run_words.specs.PodText.{due_in, kept_in, pod_text}
use Rattle.program_files.specs.Refusals.{InputRefused, Stands, TookNothing}
use Rattle.run_words.specs.Runs.{AreRun, Ending}
use Rattle.run_words.specs.Pairs.{FilePair}
use Rattle.program_files.specs.declared.status.Refusal.{Refusal}
use Rattle.program_files.specs.declared.status.Status.{Status}
use Rattle.program_files.specs.declared.status.Status.TheVariants.{Done, Refused, ContainerRefused, WriteFault, NoMemory, PidsOverlap}

-- ---- What was read

-- these are the policy and the script of a pair of files
pub record IsTaken (files : FileState) (pair : FilePair) (c : Container) : Type 0 where
  pub policy_is : PolicyIs files pair.policy (Ok c.policy)
  pub script_is : ScriptIs files pair.script (Ok c.script)

-- and these are those of all pairs, in order
abbrev pub AreTaken : FileState → List FilePair → List Container → Type 0
AreTaken files = AllZip (IsTaken files)

-- the pair of the container with this number wasn't taken, after those before it were
pub record PairRefused (files after : FileState) (pairs : List FilePair) (number : ℕ) (refusal : Refusal) : Type 0 where
  pub before : List FilePair
  pub pair : FilePair
  pub behind : List FilePair
  pub place : pairs ≡ before ++ pair ∷ behind
  pub count : length before ≡ number
  pub taken : (cs : List Container) × AreTaken files before cs
  pub refused : InputRefused files after pair.policy pair.script (Refused refusal)

-- the status of the container with this number, where it is one of several
abbrev pub in_container : ℕ → Status → Status
in_container number (Refused refusal) = ContainerRefused number refusal
in_container number status = status

-- why the pair of the container with this number wasn't taken
abbrev pub ContainerStops : FileState → FileState → FilePair → ℕ → Status → Type 0
ContainerStops files after pair number (ContainerRefused which refusal) =
    (which ≡ number) × InputRefused files after pair.policy pair.script (Refused refusal)
ContainerStops files after pair number NoMemory = Unit {0}
ContainerStops files after pair number _ = ⊥

-- why the pairs weren't all taken
abbrev pub PairStops : FileState → FileState → List FilePair → Status → Type 0
PairStops files after pairs (ContainerRefused number refusal) = PairRefused files after pairs number refusal
PairStops files after pairs NoMemory = Unit {0}
PairStops files after pairs _ = ⊥

-- ---- Ranges of PIDs

-- whether the ranges of the containers at two places overlap
abbrev pub Overlap : List Container → ℕ → ℕ → Bool → Type 0
Overlap cs i j is = (c : Container) → overlap (get_or cs i c).script (get_or cs j c).script ≡ is

-- the range at this place overlaps none behind it, of the places before the end
abbrev pub IsSeparateBehind : List Container → ℕ → ℕ → Type 0
IsSeparateBehind cs i end = (j : ℕ) → i < j → j < end → Overlap cs i j false

-- the range at this place overlaps that at the other, and none between them
pub record IsFirstBehind (cs : List Container) (i j : ℕ) : Type 0 where
  pub behind : i < j
  pub within : j < length cs
  pub overlaps : Overlap cs i j true
  pub first : IsSeparateBehind cs i j

-- the ranges at the places before this one overlap none behind them
abbrev pub AreSeparate : List Container → ℕ → Type 0
AreSeparate cs end = (i : ℕ) → i < end → IsSeparateBehind cs i (length cs)

-- the ranges at these places overlap; those before the first overlap none behind them, and it overlaps none before the second
pub record IsFirstOverlap (cs : List Container) (i j : ℕ) : Type 0 where
  pub first : IsFirstBehind cs i j
  pub least : AreSeparate cs i

-- there is one first overlap at most, and none where all are separate
abbrev pub OverlapIsOne : Type 0
OverlapIsOne = (cs : List Container) (i j k l : ℕ) → IsFirstOverlap cs i j → IsFirstOverlap cs k l → (i ≡ k) × (j ≡ l)

abbrev pub SeparateDontOverlap : Type 0
SeparateDontOverlap = (cs : List Container) (i j : ℕ) → AreSeparate cs (length cs) → IsFirstOverlap cs i j → ⊥

-- why containers that were read aren't served
abbrev pub Overlapping : List Container → Status → Type 0
Overlapping cs (PidsOverlap first second) = IsFirstOverlap cs first second
Overlapping cs _ = ⊥

-- ---- What was served and printed

-- the container was served to such an end, by a history of its own policy and script, which come back as they were, and the ledgers that
-- were kept are those of the history, where workers are replaced after each so many of their steps
pub record IsEnded (Ended : Ending) (every : Option ℕ) (c : Container) (p : Played) : Type 0 where
  pub policy : p.policy ≡ c.policy
  pub script : p.script ≡ c.script
  pub ended : Ended c.policy c.script p.history.events
  pub kept : kept_in p ≡ due_in every p

-- so was each, in order
abbrev pub AreEnded : Ending → Option ℕ → List Container → List Played → Type 0
AreEnded Ended every = AllZip (IsEnded Ended every)

-- so the container of each pair of files ended, in order
abbrev pub HaveEnded : FileState → Ending → List FilePair → List Played → Type 0
HaveEnded files Ended = AllZip (λ pair p. AreRun files pair.policy pair.script Ended p.policy p.script p.history.events)

-- the scripts of containers that were served, in order
abbrev pub scripts_of : List Played → List Script
scripts_of ps = map (λ (p : Played). p.script) ps

-- the containers of the pairs were served to their ends; no two scripts' ranges of PIDs overlap, and no two containers gave a common PID
pub record AreServedApart (files : FileState) (Ended : Ending) (pairs : List FilePair) (ps : List Played) : Type 0 where
  pub ended : HaveEnded files Ended pairs ps
  pub ranges : NoneOverlap (scripts_of ps)
  pub apart : AllApart (histories ps)

-- the sink took a prefix of what is printed of such containers, whose workers are replaced after each so many of their steps, if a number
-- is given
abbrev pub TookPodPrefix : FileState → Ending → Option ℕ → List FilePair → SinkState → SinkState → Type 0
TookPodPrefix files Ended every pairs old new =
    (ps : List Played) × AreServedApart files Ended pairs ps
    × (old.tells ≡ true → AddsPrefix old.taken (pod_text (due_in every) ps) new.taken)

-- the sink took the whole of it
abbrev pub TookPod : FileState → Ending → Option ℕ → List FilePair → SinkState → SinkState → Type 0
TookPod files Ended every pairs old new =
    (ps : List Played) × AreServedApart files Ended pairs ps
    × (old.tells ≡ true → new.taken ≡ old.taken ++ pod_text (due_in every) ps)

-- ---- How it ended

-- all pairs were taken, and the ranges of two containers overlap
abbrev pub RangesRefused : FileState → List FilePair → ℕ → ℕ → Type 0
RangesRefused files pairs first second = (cs : List Container) × AreTaken files pairs cs × IsFirstOverlap cs first second

-- how the pod of these pairs of files ended, whose workers are replaced after each so many of their steps, if a number is given
abbrev pub PodEnds : FileState → FileState → SinkState → SinkState → Ending → Option ℕ → List FilePair → Status → Type 0
PodEnds files after old new Ended every pairs Done = TookPod files Ended every pairs old new × Stands new
PodEnds files after old new Ended every pairs WriteFault = Rose old.faults new.faults × TookPodPrefix files Ended every pairs old new
PodEnds files after old new Ended every pairs NoMemory = TookNothing old new ⊎ TookPodPrefix files Ended every pairs old new
PodEnds files after old new Ended every pairs (PidsOverlap first second) = RangesRefused files pairs first second × TookNothing old new
PodEnds files after old new Ended every pairs status = PairStops files after pairs status × TookNothing old new
