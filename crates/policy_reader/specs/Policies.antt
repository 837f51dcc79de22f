-- The policy that a file's bytes are, or their first refusal. A policy names the rules by which its keys are read, its profile; where
-- it names none, the equations of `Plain` alone say what it is.
use Rattle.std.specs.Prelude.{ℕ, if◌then◌else◌, ◌==◌, List, [], ◌∷◌, Option, Some, None, option_and_then, Ok, Err, codes}
use Rattle.std.specs.Str.{is_utf8}
use Rattle.hist_model.specs.Decisions.{all_rules}
use Rattle.hist_model.specs.ReportWords.{quoted}
use Rattle.hist_model.specs.Records.{PolicyRecord}
use Rattle.hist_model.specs.declared.policy.Profile.{Profile}
use Rattle.hist_model.specs.declared.policy.Profile.TheVariants.{Plain, Lxd}
use Rattle.serde_json.specs.Data.{Data, Members}
use Rattle.serde_json.specs.Find.{get, as_object, as_number, as_str, as_u64}
use Rattle.serde_json.specs.Read.{read}
use Rattle.policy_reader.specs.declared.error.PolicyError.TheVariants.{NotJson, BadKey}
use Rattle.policy_reader.specs.declared.policies.Parts.{Parts}
use Rattle.policy_reader.specs.declared.policies.TopKey.{TopKey}
use Rattle.policy_reader.specs.declared.policies.TopKey.TheVariants as key
use Rattle.policy_reader.specs.declared.rules.Format.{Format}
use Rattle.policy_reader.specs.declared.rules.Version.{Version}
use Rattle.policy_reader.specs.declared.rules.Version.TheVariants.{First, Second}
use Rattle.policy_reader.specs.Readings.{Reading, and_then, good, walk, named, top_place}
use Rattle.policy_reader.specs.Rules.{rules_of}
use Rattle.policy_reader.specs.Settings.{all_off, config_of}

-- ---- The version

abbrev pub version_numbered : ℕ → Option Version
version_numbered n = if n == 1 then Some First else (if n == 2 then Some Second else None)

-- the first version, where none is named
abbrev pub version_at : Option Data → Reading Version
version_at None = Ok First
version_at (Some d) = good (codes "version") (option_and_then version_numbered (option_and_then as_u64 (as_number d)))

-- ---- The profile

abbrev pub profile_names : List (List ℕ × Profile)
profile_names = (codes "lxd", Lxd) ∷ []

-- this program's own rules, where none is named
abbrev pub profile_at : Option Data → Reading Profile
profile_at None = Ok Plain
profile_at (Some d) = good (codes "profile") (option_and_then (named profile_names) (as_str d))

-- ---- The top object

abbrev pub top_keys : List (List ℕ × TopKey)
top_keys = (codes "config", key.Config) ∷ (codes "profile", key.Profile) ∷ (codes "rules", key.Rules) ∷ (codes "version", key.Version) ∷ []

-- no switch is on, and there is no rule
abbrev pub no_parts : Profile → Parts
no_parts profile = record { settings = all_off profile; own = [] }

abbrev pub part_at : Format → Option TopKey → List ℕ → Data → Parts → Reading Parts
part_at format None name d p = Err (BadKey (quoted name))
part_at format (Some key.Config) name d p = and_then (config_of format.profile d) (λ settings. Ok (record p { settings = settings }))
part_at format (Some key.Profile) name d p = Ok p
part_at format (Some key.Rules) name d p = and_then (rules_of format d) (λ own. Ok (record p { own = own }))
part_at format (Some key.Version) name d p = Ok p

-- what one member of the top object says, where the version and the profile are tested already
abbrev pub top_member : Format → List ℕ → Data → Parts → Reading Parts
top_member format name d p = part_at format (named top_keys name) name d p

-- the policy of members in this format
abbrev pub policy_as : Format → Members → Reading PolicyRecord
policy_as format ms =
    and_then (walk (top_member format) ms (no_parts format.profile)) (λ parts. Ok (record { rules = all_rules parts.own parts.settings }))

-- the version of a top object and then its profile, which are tested before anything else in it
abbrev pub format_of : Data → Reading Format
format_of d =
    and_then (version_at (get (codes "version") d)) (λ version.
    and_then (profile_at (get (codes "profile") d)) (λ profile. Ok (record { version = version; profile = profile })))

-- the policy of a top object with these members
abbrev pub policy_in : Data → Members → Reading PolicyRecord
policy_in d ms = and_then (format_of d) (λ format. policy_as format ms)

-- ---- Files

-- the policy of what is read as JSON, which is an object
abbrev pub policy_of : Option Data → Reading PolicyRecord
policy_of None = Err NotJson
policy_of (Some d) = and_then (good top_place (as_object d)) (policy_in d)

-- the policy that a file's bytes are, or the refusal that comes first; bytes that aren't UTF-8 are no JSON
abbrev pub policy : List ℕ → Reading PolicyRecord
policy bytes = if is_utf8 bytes then policy_of (read bytes) else Err NotJson
