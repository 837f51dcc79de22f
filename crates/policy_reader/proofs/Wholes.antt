-- What a reader gave is what the file's bytes are: by cases on the answer.
-- By the definition of `policy`, with cases on whether the bytes are UTF-8.
use Rattle.std.proofs.Common.{◌≡◌, ℕ, List, Some, None, Result, Ok, Err, IfOk, IfErr, true, refl, ◌∙◌, inl, inr}
use Rattle.std.specs.Str.{is_utf8}
use Rattle.std.proofs.lemmas.Bool.{cases_Bool}
use Rattle.hist_model.specs.Records.{PolicyRecord}
use Rattle.serde_json.specs.Data.{Data}
use Rattle.serde_json.specs.Read.{read}
use Rattle.sys_abi.specs.declared.memory.OrNoMemory.{OrNoMemory}
use Rattle.sys_abi.specs.declared.memory.OrNoMemory.TheVariants.{Refused, NoMemory}
use Rattle.policy_reader.specs.declared.error.PolicyError.{PolicyError}
use Rattle.policy_reader.specs.declared.error.PolicyError.TheVariants.{NotJson}
use Rattle.policy_reader.specs.Policies.{policy, policy_of}
use Rattle.policy_reader.specs.Readings.{Gives, Reading, Refuses}

pub accepts : (r : Result PolicyRecord (OrNoMemory PolicyError)) (a b : Reading PolicyRecord) → Gives r a → b ≡ a → IfOk r (λ p. b ≡ Ok p)
accepts (Ok p) a b g e = e ∙ g
accepts (Err x) a b g e = tt

pub refuses : (r : Result PolicyRecord (OrNoMemory PolicyError)) (a b : Reading PolicyRecord) → Gives r a → b ≡ a → IfErr r (λ x. Refuses x b)
refuses (Ok p) a b g e = tt
refuses (Err (Refused x)) a b g e = e ∙ g
refuses (Err NoMemory) a b g e = tt

-- the policy of a text that is a JSON value
pub policy_read : (bytes : List ℕ) (d : Data) → is_utf8 bytes ≡ true → read bytes ≡ Some d → policy bytes ≡ policy_of (Some d)
policy_read bytes d u e = rw (u, e) refl

-- bytes that are no JSON value
pub policy_unread : (bytes : List ℕ) → (is_utf8 bytes ≡ true → read bytes ≡ None) → policy bytes ≡ Err NotJson
policy_unread bytes h = elim (cases_Bool (is_utf8 bytes)) [
  | inl u ↦ rw (u, h u) refl
  | inr n ↦ rw n refl
]
