-- How an explanation ends.
-- By what is told of the calls, since no reading changes files, and by cases on the status.
use Rattle.std.proofs.Common.{◌≡◌, ℕ, List, inl, inr, refl}
use Rattle.std.specs.Prelude.{Result, Ok, Err}
use Rattle.hist_model.specs.declared.policy.Policy.{Policy}
use Rattle.io_edge.specs.FileState.{FileState, SameFiles}
use Rattle.io_edge.specs.SinkState.{SinkState}
use Rattle.policy_explain.specs.Blocks.{explanation}
use Rattle.program_files.proofs.Reading.{calls_are_before, calls_before}
use Rattle.program_files.specs.Printed.{Printed, status_of}
use Rattle.policy_words.specs.Explanations.{AreExplained, BytesExplainEnds, ExplainEnds}
use Rattle.program_files.specs.Inputs.{CallsAre, PolicyIs}
use Rattle.program_files.specs.Refusals.{CallsRefused, PolicyRefused}
use Rattle.program_files.specs.declared.status.InputFile.TheVariants.{Policy as PolicyFile, Calls as CallsFile}
use Rattle.program_files.specs.declared.status.Refusal.TheVariants.{ReadFault, TooLong, BadPolicy, BadCalls}
use Rattle.program_files.specs.declared.status.Status.{Status}
use Rattle.program_files.specs.declared.status.Status.TheVariants.{Done, NoMemory, Refused, WriteFault}

-- ---- The bytes of calls

-- what is told of them was printed, or a part of it
pub explained_ends : (P : Policy) (bytes text : List ℕ) (old new : SinkState) (r : Result (Unit {0}) Status) → explanation P.rules bytes ≡ Ok text → Printed text old new r → BytesExplainEnds P bytes old new (status_of r)
explained_ends P bytes text old new (Ok u) is p = ((text, is, p.0), p.1)
explained_ends P bytes text old new (Err WriteFault) is p = (p.0, (text, is, p.1))
explained_ends P bytes text old new (Err NoMemory) is p = inr (text, is, p)
explained_ends P bytes text old new (Err status) is p = absurd p

-- ---- The two files

-- the policy wasn't taken
pub policy_stops : (files after : FileState) (sink : SinkState) (policy calls : List ℕ) (status : Status) → PolicyRefused files after policy status → ExplainEnds files after sink sink policy calls status
policy_stops files after sink policy calls NoMemory h = inl (λ t. refl)
policy_stops files after sink policy calls (Refused (ReadFault PolicyFile)) h = (h, λ t. refl)
policy_stops files after sink policy calls (Refused (TooLong PolicyFile)) h = (h, λ t. refl)
policy_stops files after sink policy calls (Refused (BadPolicy error)) h = (h, λ t. refl)
policy_stops files after sink policy calls status h = absurd h

-- the calls weren't
pub calls_stop : (files mid after : FileState) (sink : SinkState) (policy calls : List ℕ) (P : Policy) (status : Status) → SameFiles files mid → PolicyIs files policy (Ok P) → CallsRefused mid after calls status
    → ExplainEnds files after sink sink policy calls status
calls_stop files mid after sink policy calls P status same policy_is h = by status (calls_before files mid after calls same status h)
  where
    by : (status : Status) → CallsRefused files after calls status → ExplainEnds files after sink sink policy calls status
    by (Refused (ReadFault CallsFile)) r = ((P, policy_is, r), λ t. refl)
    by (Refused (TooLong CallsFile)) r = ((P, policy_is, r), λ t. refl)
    by NoMemory r = inl (λ t. refl)
    by status r = absurd r

-- both were read
pub read_ends : (files mid after : FileState) (old new : SinkState) (policy calls : List ℕ) (P : Policy) (bytes : List ℕ) (status : Status) → SameFiles files mid → PolicyIs files policy (Ok P)
    → CallsAre mid calls bytes → BytesExplainEnds P bytes old new status → ExplainEnds files after old new policy calls status
read_ends files mid after old new policy calls P bytes status same policy_is calls_are h = by status h
  where
    are : AreExplained files policy calls P bytes
    are = record { policy_is = policy_is; calls_are = calls_are_before files mid after calls same bytes calls_are }

    by : (status : Status) → BytesExplainEnds P bytes old new status → ExplainEnds files after old new policy calls status
    by Done e = (P, bytes, are, e)
    by WriteFault e = (P, bytes, are, e)
    by NoMemory e = inr (P, bytes, are, e)
    by (Refused (BadCalls error)) e = (P, bytes, are, e)
    by status e = absurd e
