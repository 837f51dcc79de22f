-- What the parts of a policy keep once they are read.
use Rattle.hist_model.specs.PolicyRules.{AreOwnRules, AreSwitches}
use Rattle.policy_reader.specs.declared.policies.Parts.{Parts}

pub record AreParts (p : Parts) : Type 0 where
  pub own : AreOwnRules p.own
  pub settings : AreSwitches p.settings
