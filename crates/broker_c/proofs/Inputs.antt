-- Why the bytes of a policy and a script weren't both taken, from why their files weren't.
-- By cases on the status, since the files tell their bytes and are always there.
use Rattle.std.proofs.Common.{◌≡◌, ℕ, List, [], refl}
use Rattle.std.specs.Prelude.{codes}
use Rattle.io_edge.specs.FileState.{FileState}
use Rattle.program_files.specs.Refusals.{InputRefused}
use Rattle.program_files.specs.declared.status.InputFile.TheVariants.{Policy as PolicyFile, Script as ScriptFile}
use Rattle.program_files.specs.declared.status.Refusal.TheVariants.{ReadFault, TooLong, BadPolicy, BadScript}
use Rattle.program_files.specs.declared.status.Status.{Status}
use Rattle.program_files.specs.declared.status.Status.TheVariants.{Refused, NoMemory}
use Rattle.broker_c.specs.Given.{files_of}
use Rattle.broker_c.specs.Outcomes.{InputGives}

pub input_gives : (policy script report printed : List ℕ) (after : FileState) (status : Status) → InputRefused (files_of policy script report) after (codes "policy") (codes "script") status → printed ≡ []
    → InputGives policy script printed status
input_gives policy script report printed after (Refused (TooLong PolicyFile)) h nothing = (h.longer refl, nothing)
input_gives policy script report printed after (Refused (BadPolicy error)) h nothing = (h.0 refl, nothing)
input_gives policy script report printed after (Refused (TooLong ScriptFile)) h nothing = ((h.0, h.1 refl), h.2.longer refl, nothing)
input_gives policy script report printed after (Refused (BadScript error)) h nothing = ((h.0, h.1 refl), h.2 refl, nothing)
input_gives policy script report printed after NoMemory h nothing = nothing
input_gives policy script report printed after (Refused (ReadFault PolicyFile)) h nothing = let absent = h.1 refl in cc
input_gives policy script report printed after (Refused (ReadFault ScriptFile)) h nothing = let absent = h.2.1 refl in cc
input_gives policy script report printed after status h nothing = absurd h
