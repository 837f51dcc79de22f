use Rattle.std.proofs.Common.{ℕ, List, subst}
use Rattle.audit_check.proofs.Faults.{is_unique}
use Rattle.audit_check.specs.Reported.{IsUnique}
use Rattle.hist_model.specs.declared.policy.Policy.{Policy}
use Rattle.hist_model.specs.declared.script.Script.{Script}
use Rattle.play_words.proofs.checking.is_unique.Goals as goal

pub returns : goal.returns
returns c = subst (λ (P : Policy). (S : Script) (bytes : List ℕ) → IsUnique P S bytes) c.policy.view_is (λ S bytes. is_unique _ S c.policy.invariant bytes)
