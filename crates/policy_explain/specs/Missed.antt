-- What a request misses of a rule.
use Rattle.std.specs.Prelude.{not, if◌then◌else◌, List, find, Option, Some}
use Rattle.std.specs.Option.{option_map}
use Rattle.hist_model.specs.Decisions.{covers, meets}
use Rattle.hist_model.specs.Requests.{call_of_request}
use Rattle.hist_model.specs.declared.policy.Cond.{Cond}
use Rattle.hist_model.specs.declared.policy.Rule.{Rule}
use Rattle.hist_model.specs.declared.request.Request.{Request}

-- the request is none of the rule's calls, or it doesn't meet this condition
pub data Missed : Type 0 where
  call : Missed
  condition : Cond → Missed

-- the first of the conditions that the request doesn't meet
abbrev pub unmet : List Cond → Request → Option Cond
unmet conds q = find (λ c. not (meets c q)) conds

-- what the request misses first of the rule, where it misses anything
abbrev pub missed : Rule → Request → Option Missed
missed rule q = if covers rule.calls (call_of_request q) then option_map condition (unmet rule.conds q) else Some call
