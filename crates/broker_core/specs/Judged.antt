-- What a judgement says: the request of a call, which rule decides it, and what that rule grants.
use Rattle.std.specs.Prelude.{ℕ, Bool, true, false, List}
use Rattle.hist_model.specs.Decisions.{decide, cap_of, granted_by}
use Rattle.hist_model.specs.declared.policy.Rule.{Rule}
use Rattle.hist_model.specs.declared.request.Request.{Request}
use Rattle.broker_core.specs.declared.judgement.Judgement.{Judgement}

-- what the rules make of a request: the first rule that fits decides
abbrev pub judgement_of : List Rule → Request → Judgement
judgement_of rules q = let d = decide rules q in record { request = q; rule = d.0; verdict = d.1; cap = cap_of rules d.0 }

-- the request, or once it was granted what the rule makes of it
abbrev pub request_as : Bool → List Rule → ℕ → Request → Request
request_as true rules i q = granted_by rules i q
request_as false rules i q = q

-- the judgement of a request, with the request as it is granted where it was
abbrev pub judgement_as : Bool → List Rule → Request → Judgement
judgement_as g rules q =
    let d = decide rules q in record { request = request_as g rules d.0 q; rule = d.0; verdict = d.1; cap = cap_of rules d.0 }
