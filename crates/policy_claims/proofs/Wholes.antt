-- What a reader gave is what the file's bytes are.
-- By the definition of `claims`, with cases on whether the bytes are UTF-8.
use Rattle.std.proofs.Common.{◌≡◌, ℕ, List, Some, None, Result, Ok, Err, true, refl, ◌∙◌, inl, inr}
use Rattle.std.specs.Str.{is_utf8}
use Rattle.std.proofs.lemmas.Bool.{cases_Bool}
use Rattle.serde_json.specs.Data.{Data}
use Rattle.serde_json.specs.Read.{read}
use Rattle.sys_abi.specs.declared.memory.OrNoMemory.{OrNoMemory}
use Rattle.sys_abi.specs.declared.memory.OrNoMemory.TheVariants.{Refused, NoMemory}
use Rattle.policy_claims.specs.Claims.{claims, claims_of}
use Rattle.policy_reader.specs.Readings.{Gives, Reading}
use Rattle.policy_reader.specs.declared.error.PolicyError.{PolicyError}
use Rattle.policy_reader.specs.declared.error.PolicyError.TheVariants.{NotJson}

-- the same reading, otherwise written
pub given : {A : Type 0} (r : Result A (OrNoMemory PolicyError)) (a b : Reading A) → Gives r a → b ≡ a → Gives r b
given (Ok x) a b g e = e ∙ g
given (Err (Refused error)) a b g e = e ∙ g
given (Err NoMemory) a b g e = tt

-- the claims of a text that is a JSON value
pub claims_read : (bytes : List ℕ) (d : Data) → is_utf8 bytes ≡ true → read bytes ≡ Some d → claims bytes ≡ claims_of (Some d)
claims_read bytes d u e = rw (u, e) refl

-- bytes that are no JSON value
pub claims_unread : (bytes : List ℕ) → (is_utf8 bytes ≡ true → read bytes ≡ None) → claims bytes ≡ Err NotJson
claims_unread bytes h = elim (cases_Bool (is_utf8 bytes)) [
  | inl u ↦ rw (u, h u) refl
  | inr n ↦ rw n refl
]
