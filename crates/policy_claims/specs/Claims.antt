-- The claims that a file's bytes are, or their first refusal. A claim is read as a rule of a policy is.
use Rattle.std.specs.Prelude.{ℕ, if◌then◌else◌, List, [], ◌∷◌, ◌++◌, drop, Option, Some, None, Ok, Err, codes}
use Rattle.std.specs.Str.{is_utf8}
use Rattle.hist_model.specs.ReportWords.{quoted}
use Rattle.hist_model.specs.declared.policy.Profile.TheVariants.{Lxd}
use Rattle.hist_model.specs.declared.policy.Rule.{Rule}
use Rattle.policy_claims.specs.declared.claims.Claims.{Claims}
use Rattle.policy_claims.specs.declared.claims.Sense.{Sense}
use Rattle.policy_claims.specs.declared.claims.Sense.TheVariants.{Expect, Never}
use Rattle.policy_reader.specs.Readings.{Reading, and_then, good, named, top_place, walk}
use Rattle.policy_reader.specs.Rules.{rules_of}
use Rattle.policy_reader.specs.declared.error.PolicyError.{PolicyError}
use Rattle.policy_reader.specs.declared.error.PolicyError.TheVariants.{BadKey, BadValue, NotJson, TooMany}
use Rattle.policy_reader.specs.declared.rules.Format.{Format}
use Rattle.policy_reader.specs.declared.rules.Version.TheVariants.{First}
use Rattle.serde_json.specs.Data.{Data, Members}
use Rattle.serde_json.specs.Find.{as_object}
use Rattle.serde_json.specs.Read.{read}

-- claims have the conditions of every profile, and no number of times
abbrev pub claim_format : Format
claim_format = record { version = First; profile = Lxd }

-- the rules of an array, as claims have them
abbrev pub claim_rules : Data → Reading (List Rule)
claim_rules d = rules_of claim_format d

-- ---- One list

-- a place in a list of claims: the reader of rules begins it with `rules`
abbrev pub in_list : List ℕ → List ℕ → List ℕ
in_list list place = list ++ drop 5 place

-- a rule's refusal in a list of claims
abbrev pub refused_in : List ℕ → PolicyError → PolicyError
refused_in list (BadKey place) = BadKey (in_list list place)
refused_in list (BadValue place) = BadValue (in_list list place)
refused_in list NotJson = NotJson
refused_in list TooMany = TooMany

-- the claims of a list, which are read as rules
abbrev pub listed : List ℕ → Reading (List Rule) → Reading (List Rule)
listed list (Ok rules) = Ok rules
listed list (Err error) = Err (refused_in list error)

abbrev pub list_of : List ℕ → Data → Reading (List Rule)
list_of list d = listed list (claim_rules d)

-- ---- The top object

abbrev pub claim_keys : List (List ℕ × Sense)
claim_keys = (codes "expect", Expect) ∷ (codes "never", Never) ∷ []

abbrev pub no_claims : Claims
no_claims = record { expect = []; never = [] }

abbrev pub claim_at : Option Sense → List ℕ → Data → Claims → Reading Claims
claim_at None name d claims = Err (BadKey (quoted name))
claim_at (Some Expect) name d claims = and_then (list_of (codes "expect") d) (λ rules. Ok (record claims { expect = rules }))
claim_at (Some Never) name d claims = and_then (list_of (codes "never") d) (λ rules. Ok (record claims { never = rules }))

-- what one member of the top object says
abbrev pub claims_member : List ℕ → Data → Claims → Reading Claims
claims_member name d claims = claim_at (named claim_keys name) name d claims

-- the claims of a top object with these members
abbrev pub claims_in : Members → Reading Claims
claims_in ms = walk claims_member ms no_claims

-- ---- Files

-- the claims of what is read as JSON, which is an object
abbrev pub claims_of : Option Data → Reading Claims
claims_of None = Err NotJson
claims_of (Some d) = and_then (good top_place (as_object d)) claims_in

-- the claims that a file's bytes are, or the refusal that comes first; bytes that aren't UTF-8 are no JSON
abbrev pub claims : List ℕ → Reading Claims
claims bytes = if is_utf8 bytes then claims_of (read bytes) else Err NotJson
