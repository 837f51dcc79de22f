-- What the program reads: a policy, claims, a script and a report, each from the whole bytes of its file.
use Rattle.std.specs.Prelude.{◌≡◌, ℕ, ◌≤◌, true, List, length, Option, Some, None, Result, Ok}
use Rattle.hist_model.specs.declared.policy.Policy.{Policy}
use Rattle.hist_model.specs.declared.script.Script.{Script}
use Rattle.io_edge.specs.FileState.{FileState}
use Rattle.policy_claims.specs.Claims.{claims}
use Rattle.policy_claims.specs.declared.claims.Claims.{Claims}
use Rattle.policy_reader.specs.Policies.{policy}
use Rattle.policy_reader.specs.declared.error.PolicyError.{PolicyError}
use Rattle.script_reader.specs.Scripts.{script, script_file}
use Rattle.script_reader.specs.declared.error.ScriptError.{ScriptError}
use Rattle.script_reader.specs.declared.file.ScriptFile.{ScriptFile}

-- the bytes that a policy has at most, a script, and a report
abbrev pub policy_limit : ℕ
policy_limit = 1048576

abbrev pub script_limit : ℕ
script_limit = 8388608

abbrev pub report_limit : ℕ
report_limit = 33554432

-- and that claims have, and calls
abbrev pub claims_limit : ℕ
claims_limit = 1048576

abbrev pub calls_limit : ℕ
calls_limit = 8388608

-- the file is there and within the limit, and its bytes are read as this
abbrev pub ReadsAs : {A : Type 0} → (List ℕ → A) → ℕ → Option (List ℕ) → A → Type 0
ReadsAs read limit None reading = ⊥
ReadsAs read limit (Some bytes) reading = (length bytes ≤ limit) × (read bytes ≡ reading)

-- the file is there and within the limit, and has these bytes
abbrev pub HasBytes : ℕ → Option (List ℕ) → List ℕ → Type 0
HasBytes limit file bytes = (file ≡ Some bytes) × (length bytes ≤ limit)

-- the file of this name is this policy, or has this refusal, where the files tell their bytes
abbrev pub PolicyIs : FileState → List ℕ → Result Policy PolicyError → Type 0
PolicyIs files name reading = files.tells ≡ true → ReadsAs policy policy_limit (files.bytes name) reading

-- and these are the bytes of the policy
abbrev pub PolicyHas : FileState → List ℕ → List ℕ → Type 0
PolicyHas files name bytes = files.tells ≡ true → HasBytes policy_limit (files.bytes name) bytes

-- and these claims
abbrev pub ClaimsAre : FileState → List ℕ → Result Claims PolicyError → Type 0
ClaimsAre files name reading = files.tells ≡ true → ReadsAs claims claims_limit (files.bytes name) reading

-- and this script
abbrev pub ScriptIs : FileState → List ℕ → Result Script ScriptError → Type 0
ScriptIs files name reading = files.tells ≡ true → ReadsAs script script_limit (files.bytes name) reading

-- and this script, if one is named
abbrev pub NamedScriptIs : FileState → Option (List ℕ) → Option Script → Type 0
NamedScriptIs files (Some name) (Some S) = ScriptIs files name (Ok S)
NamedScriptIs files None None = Unit {0}
NamedScriptIs files _ _ = ⊥

-- and states this script, with these lines of another broker's workers
abbrev pub ScriptFileIs : FileState → List ℕ → Result ScriptFile ScriptError → Type 0
ScriptFileIs files name reading = files.tells ≡ true → ReadsAs script_file script_limit (files.bytes name) reading

-- and these are its bytes
abbrev pub ScriptHas : FileState → List ℕ → List ℕ → Type 0
ScriptHas files name bytes = files.tells ≡ true → HasBytes script_limit (files.bytes name) bytes

-- and these are the bytes of this report
abbrev pub ReportIs : FileState → List ℕ → List ℕ → Type 0
ReportIs files name bytes = files.tells ≡ true → HasBytes report_limit (files.bytes name) bytes

-- and of these calls
abbrev pub CallsAre : FileState → List ℕ → List ℕ → Type 0
CallsAre files name bytes = files.tells ≡ true → HasBytes calls_limit (files.bytes name) bytes
