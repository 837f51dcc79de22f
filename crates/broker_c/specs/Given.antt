-- A policy, a script and a report in memory, as the files of three names.
use Rattle.std.specs.Prelude.{ℕ, true, List, [], drop, Option, Some, None, option_map, bytes_eq, codes, if◌then◌else◌}
use Rattle.std.specs.Option.{option_map_or}
use Rattle.io_edge.specs.FileState.{FileState}
use Rattle.broker_c.specs.declared.given.GivenFile.{GivenFile}
use Rattle.broker_c.specs.declared.given.GivenFile.TheVariants.{Policy, Script, Report}

-- the name of the policy's file, of the script's, and of the report's
abbrev pub name_of : GivenFile → List ℕ
name_of Policy = codes "policy"
name_of Script = codes "script"
name_of Report = codes "report"

-- the file of a name
abbrev pub file_of : List ℕ → Option GivenFile
file_of name =
    if bytes_eq name (codes "policy") then Some Policy
    else (if bytes_eq name (codes "script") then Some Script else (if bytes_eq name (codes "report") then Some Report else None))

-- the bytes of a file, of which the policy has these, the script those, and the report the last
abbrev pub bytes_of : List ℕ → List ℕ → List ℕ → GivenFile → List ℕ
bytes_of policy script report Policy = policy
bytes_of policy script report Script = script
bytes_of policy script report Report = report

-- what is known of the three files, of which this one is read, of which reads gave so many bytes, and with so many faults
abbrev pub files_at : List ℕ → List ℕ → List ℕ → Option GivenFile → ℕ → ℕ → FileState
files_at policy script report current given faults = record {
  tells = true;
  bytes = λ name. option_map (bytes_of policy script report) (file_of name);
  current = option_map name_of current;
  left = option_map_or (λ file. drop given (bytes_of policy script report file)) current [];
  given = given;
  sound = true;
  faults = faults;
}

-- before one is opened
abbrev pub files_of : List ℕ → List ℕ → List ℕ → FileState
files_of policy script report = files_at policy script report None 0 0
