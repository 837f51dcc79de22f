-- The explanation of calls: for each a line with the rule that decides it, and a line for each rule before that one.
use Rattle.std.specs.Prelude.{ℕ, List, [], ◌++◌, take, slice_get, Option, Some, None, Result, Ok, Err, codes, decimal}
use Rattle.std.specs.List.{flat_map}
use Rattle.call_lines.specs.Calls.{calls}
use Rattle.call_lines.specs.declared.calls.Call.{Call}
use Rattle.call_lines.specs.declared.error.CallsError.{CallsError}
use Rattle.hist_model.specs.Decisions.{decide}
use Rattle.hist_model.specs.ReportWords.{errno_text}
use Rattle.hist_model.specs.declared.policy.Rule.{Rule}
use Rattle.hist_model.specs.declared.policy.Verdict.{Verdict}
use Rattle.hist_model.specs.declared.policy.Verdict.TheVariants.{Grant, Deny, Pass, Inject}
use Rattle.hist_model.specs.declared.request.Request.{Request}
use Rattle.policy_explain.specs.Asked.{asked_text}
use Rattle.policy_explain.specs.Missed.{Missed, call, condition, missed}
use Rattle.policy_explain.specs.Reasons.{pass_text}
use Rattle.policy_explain.specs.Words.{call_missed, unmet_text}

-- ---- the rule that decides

abbrev pub place_text : Option ℕ → List ℕ
place_text (Some n) = decimal n
place_text None = codes "-"

-- what the rule answers
abbrev pub verdict_text : Verdict → List ℕ
verdict_text Grant = codes "grant"
verdict_text (Deny error) = codes "deny error=" ++ errno_text error
verdict_text Pass = codes "pass"
verdict_text (Inject src at) = codes "inject src=" ++ decimal src ++ codes " at=" ++ place_text at

-- how often it grants, where that is limited
abbrev pub times_text : Option ℕ → List ℕ
times_text (Some n) = codes " times=" ++ decimal n
times_text None = []

-- a rule, how often it grants, or why it passes; where there is none, the call is passed
abbrev pub rule_text : Option Rule → List ℕ
rule_text (Some rule) =
    codes " rule=" ++ rule.name ++ codes " verdict=" ++ verdict_text rule.verdict ++ times_text rule.times
    ++ pass_text rule.verdict rule.name
rule_text None = codes " rule=- verdict=pass"

-- a call, the line where it stands, and the rule that decides it
abbrev pub head_text : Call → Option Rule → List ℕ
head_text c rule = decimal c.line ++ codes " " ++ asked_text c.request ++ rule_text rule ++ codes "\n"

-- ---- the rules before it

abbrev pub missed_text : Option Missed → Rule → Request → List ℕ
missed_text (Some call) rule q = call_missed rule.calls q
missed_text (Some (condition c)) rule q = unmet_text c q
missed_text None rule q = codes "nothing"

-- a rule, and what the request misses first of it
abbrev pub miss_text : Request → Rule → List ℕ
miss_text q rule = codes "  " ++ rule.name ++ codes " misses " ++ missed_text (missed rule q) rule q ++ codes "\n"

-- ---- all calls

abbrev pub block_at : List Rule → Call → ℕ → List ℕ
block_at rules c place = head_text c (slice_get rules place) ++ flat_map (miss_text c.request) (take place rules)

-- what is told of a call
abbrev pub block_text : List Rule → Call → List ℕ
block_text rules c = block_at rules c (decide rules c.request).0

-- what is told of calls
abbrev pub explained : List Rule → List Call → List ℕ
explained rules calls = flat_map (block_text rules) calls

abbrev pub explanation_of : List Rule → Result (List Call) CallsError → Result (List ℕ) CallsError
explanation_of rules (Ok calls) = Ok (explained rules calls)
explanation_of rules (Err error) = Err error

-- what is told of the calls that bytes state, or why they are refused
abbrev pub explanation : List Rule → List ℕ → Result (List ℕ) CallsError
explanation rules bytes = explanation_of rules (calls bytes)
