-- A rule at a place, or none past the end.
-- By cases on whether a rule was found there.
use Rattle.std.proofs.Common.{◌≡◌, ℕ, List, Option, Some, None, Bor, length, refl, sym}
use Rattle.std.specs.Option.{option_copied}
use Rattle.std.specs.Prelude.{slice_get}
use Rattle.std.specs.Slice.{IsItemAt}
use Rattle.std.proofs.lemmas.Option.{slice_get_past, slice_get_read}
use Rattle.hist_model.specs.declared.policy.Rule.{Rule}

pub rule_got : (rules : List Rule) (i : ℕ) (r : Option (Bor Rule)) → IsItemAt rules i r → option_copied r ≡ slice_get rules i
rule_got rules i None g = sym (slice_get_past rules i g.3)
rule_got rules i (Some rule) g = sym (slice_get_read rules (length rules) i rule.now refl g.3.0 g.1)
