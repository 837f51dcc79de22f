-- The text of the policy reads as the policy.
-- By computing, with the definitions of a policy's reading unfolded.
use Rattle.std.proofs.Common.{◌≡◌, ℕ, List, Ok, Err, refl, sym, subst}
use Rattle.std.specs.Fmt.{digits}
use Rattle.std.specs.Str.{chars, is_utf8}
use Rattle.hist_model.specs.Records.{PolicyRecord}
use Rattle.hist_model.specs.Words.{number_after}
use Rattle.serde_json.proofs.OnLiterals.{serde_json_on_literals}
use Rattle.policy_reader.specs.declared.error.PolicyError.{PolicyError}
use Rattle.policy_reader.specs.Policies.{policy}
use Rattle.policy_reader.specs.Readings.{Reading}
use Rattle.generated_input.specs.GeneratedPolicy.{generated_policy, policy_text}

text_reads : policy policy_text ≡ Ok generated_policy
unfolding serde_json_on_literals chars digits is_utf8 number_after
text_reads = refl

accepted : (P Q : PolicyRecord) (reading : Reading PolicyRecord) → reading ≡ Ok P → reading ≡ Ok Q → P ≡ Q
accepted P Q reading p q = cc

-- what is read of the text
pub text_read_as : (bytes : List ℕ) (P : PolicyRecord) → bytes ≡ policy_text → policy bytes ≡ Ok P → P ≡ generated_policy
text_read_as bytes P is read = accepted P generated_policy (policy bytes) read (subst (λ b. policy b ≡ Ok generated_policy) (sym is) text_reads)

either : (P : PolicyRecord) (error : PolicyError) (reading : Reading PolicyRecord) → reading ≡ Ok P → reading ≡ Err error → ⊥
either P error reading p e = cc

-- it isn't refused
pub text_not_refused : (bytes : List ℕ) (error : PolicyError) → bytes ≡ policy_text → policy bytes ≡ Err error → ⊥
text_not_refused bytes error is read = either generated_policy error (policy bytes) (subst (λ b. policy b ≡ Ok generated_policy) (sym is) text_reads) read
