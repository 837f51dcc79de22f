-- When two rules give a call the same answer.
use Rattle.std.specs.Prelude.{◌≡◌, List, Option, Some, None, slice_get}
use Rattle.hist_model.specs.Decisions.{decide}
use Rattle.hist_model.specs.declared.policy.Rule.{Rule}
use Rattle.hist_model.specs.declared.request.Request.{Request}

-- the same verdict, by the same program and with the same shift, and neither counts how often it grants
pub record AreAlike (r s : Rule) : Type 0 where
  pub verdict : r.verdict ≡ s.verdict
  pub via : r.via ≡ s.via
  pub shift : r.shift ≡ s.shift
  pub uncounted : r.times ≡ None
  pub uncounted_too : s.times ≡ None

-- so do a rule and one that may be absent
abbrev pub IsAlike : Rule → Option Rule → Type 0
IsAlike r (Some s) = AreAlike r s
IsAlike r None = ⊥

-- the rule that decides a request, where one does
abbrev pub deciding : List Rule → Request → Option Rule
deciding rules q = slice_get rules (decide rules q).0
