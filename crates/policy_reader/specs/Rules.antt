-- The rules that a policy states of its own.
use Rattle.std.specs.Prelude.{ℕ, Bool, false, ◌&&◌, not, if◌then◌else◌, ◌==◌, nat_lt, List, [], ◌∷◌, ◌++◌, length, Option, Some, None}
use Rattle.std.specs.Prelude.{option_and_then, is_some, Ok, Err, ℤ, pos, codes}
use Rattle.std.specs.List.{list_all}
use Rattle.hist_model.specs.Decisions.{is_among}
use Rattle.hist_model.specs.ReportWords.{quoted}
use Rattle.hist_model.specs.RuleParts.{has_named, is_grant, may_answer}
use Rattle.hist_model.specs.declared.policy.Calls.TheVariants.{Named}
use Rattle.hist_model.specs.declared.policy.Cond.{Cond}
use Rattle.hist_model.specs.declared.policy.Cond.TheVariants.{PlainFlags}
use Rattle.hist_model.specs.declared.policy.Profile.{Profile}
use Rattle.hist_model.specs.declared.policy.Rule.{Rule}
use Rattle.hist_model.specs.declared.policy.Verdict.{Verdict}
use Rattle.hist_model.specs.declared.policy.Verdict.TheVariants.{Grant, Deny, Pass, Inject}
use Rattle.serde_json.specs.Data.{Data, Items, null, boolean, number, string, array, object}
use Rattle.serde_json.specs.Events.{items_len}
use Rattle.serde_json.specs.Find.{as_str, as_array, as_object}
use Rattle.sys_abi.specs.Calls.{call_number_of, nr_mount}
use Rattle.policy_reader.specs.declared.error.PolicyError.TheVariants.{BadKey, BadValue, TooMany}
use Rattle.policy_reader.specs.declared.rules.RuleKey.{RuleKey}
use Rattle.policy_reader.specs.declared.rules.RuleKey.TheVariants as key
use Rattle.policy_reader.specs.declared.rules.Stated.{Stated}
use Rattle.policy_reader.specs.declared.rules.Format.{Format}
use Rattle.policy_reader.specs.declared.rules.Version.{Version}
use Rattle.policy_reader.specs.declared.rules.Version.TheVariants.{First, Second}
use Rattle.policy_reader.specs.Conditions.{conditions_of, condition_place, misfit}
use Rattle.policy_reader.specs.Readings.{Reading, and_then, good, walk, walk_items, named, rule_place, call_place}
use Rattle.policy_reader.specs.Texts.{rule_name, whole_from}
use Rattle.policy_reader.specs.Verdicts.{verdict_of}

-- ---- The calls of a rule

-- the number of the call that a value names
abbrev pub call_of : Data → Option ℤ
call_of d = option_and_then call_number_of (as_str d)

-- a call in the list of the n-th rule, after those before it
abbrev pub listed_call : ℕ → List ℤ → Data → Reading ℤ
listed_call n found d = good (call_place n (length found)) (call_of d)

-- an array of one or more calls
abbrev pub listed_calls : ℕ → Items → Reading (List ℤ)
listed_calls n ds = if items_len ds == 0 then Err (BadValue (rule_place n (codes ".call"))) else walk_items (listed_call n) [] ds

-- the calls of the n-th rule: the name of one, or an array of one or more
abbrev pub calls_of : ℕ → Data → Reading (List ℤ)
calls_of n (string name) = and_then (good (rule_place n (codes ".call")) (call_number_of name)) (λ nr. Ok (nr ∷ []))
calls_of n (array ds) = listed_calls n ds
calls_of n null = Err (BadValue (rule_place n (codes ".call")))
calls_of n (boolean b) = Err (BadValue (rule_place n (codes ".call")))
calls_of n (number x) = Err (BadValue (rule_place n (codes ".call")))
calls_of n (object ms) = Err (BadValue (rule_place n (codes ".call")))

-- ---- The keys of a rule

abbrev pub rule_keys : List (List ℕ × RuleKey)
rule_keys = (codes "call", key.Call) ∷ (codes "name", key.Name) ∷ (codes "then", key.Then) ∷ (codes "times", key.Times)
    ∷ (codes "when", key.When) ∷ []

-- how often a rule grants is said in the second version alone
abbrev pub in_version : Version → Option RuleKey → Option RuleKey
in_version First (Some key.Times) = None
in_version First (Some key.Call) = Some key.Call
in_version First (Some key.Name) = Some key.Name
in_version First (Some key.Then) = Some key.Then
in_version First (Some key.When) = Some key.When
in_version First None = None
in_version Second found = found

-- no key yet
abbrev pub nothing_stated : Stated
nothing_stated = record { name = None; calls = None; conds = []; verdict = None; times = None }

abbrev pub state : Profile → ℕ → Option RuleKey → List ℕ → Data → Stated → Reading Stated
state profile n None name d s = Err (BadKey (rule_place n (codes "." ++ quoted name)))
state profile n (Some key.Call) name d s = and_then (calls_of n d) (λ calls. Ok (record s { calls = Some calls }))
state profile n (Some key.Name) name d s =
    and_then (good (rule_place n (codes ".name")) (option_and_then rule_name (as_str d))) (λ text. Ok (record s { name = Some text }))
state profile n (Some key.Then) name d s = and_then (verdict_of n d) (λ verdict. Ok (record s { verdict = Some verdict }))
state profile n (Some key.Times) name d s =
    and_then (good (rule_place n (codes ".times")) (whole_from 1 d)) (λ times. Ok (record s { times = Some times }))
state profile n (Some key.When) name d s = and_then (conditions_of profile n d) (λ conds. Ok (record s { conds = conds }))

-- what one member of the n-th rule states
abbrev pub rule_member : Format → ℕ → List ℕ → Data → Stated → Reading Stated
rule_member format n name d s = state format.profile n (in_version format.version (named rule_keys name)) name d s

-- ---- The tests after the keys

-- an earlier rule has this name
abbrev pub is_used : List Rule → List ℕ → Bool
is_used earlier name = has_named (λ (rule : Rule). rule.name) earlier name

-- a rule that grants a mount holds only where the mount doesn't remount, bind or move
abbrev pub own_conditions : List ℤ → List Cond → Verdict → List Cond
own_conditions calls conds Grant = if is_among calls (pos nr_mount) then conds ++ PlainFlags ∷ [] else conds
own_conditions calls conds (Deny error) = conds
own_conditions calls conds Pass = conds
own_conditions calls conds (Inject src at) = conds

-- the rule that is stated so
abbrev pub own_rule : List ℕ → List ℤ → List Cond → Verdict → Option ℕ → Rule
own_rule name calls conds verdict times = record {
  name = name;
  calls = Named calls;
  conds = own_conditions calls conds verdict;
  verdict = verdict;
  via = [];
  shift = false;
  times = times;
}

-- a condition that isn't for one of the calls, and then a name that is used
abbrev pub condition_fault : Option Cond → Bool → Option (List ℕ)
condition_fault (Some c) used = Some (condition_place c)
condition_fault None used = if used then Some (codes ".name") else None

-- where the first fault of a rule with these keys stands: a call that may not be answered so comes before a number of times beside
-- another answer than a grant
abbrev pub fault_of : List ℤ → Verdict → Option ℕ → List Cond → Bool → Option (List ℕ)
fault_of calls verdict times conds used =
    if not (list_all (may_answer verdict) calls) then Some (codes ".then")
    else (if is_some times && not (is_grant verdict) then Some (codes ".times") else condition_fault (misfit calls conds) used)

abbrev pub unless_faulty : ℕ → Option (List ℕ) → Rule → Reading Rule
unless_faulty n (Some rest) rule = Err (BadValue (rule_place n rest))
unless_faulty n None rule = Ok rule

-- the n-th rule, whose keys state this, where an earlier one may use its name; a name, calls and an answer have to be there
abbrev pub rule_from : ℕ → (List ℕ → Bool) → Stated → Reading Rule
rule_from n used s =
    and_then (good (rule_place n (codes ".name")) s.name) (λ name.
    and_then (good (rule_place n (codes ".call")) s.calls) (λ calls.
    and_then (good (rule_place n (codes ".then")) s.verdict) (λ verdict.
    unless_faulty n (fault_of calls verdict s.times s.conds (used name)) (own_rule name calls s.conds verdict s.times))))

-- ---- Rules

-- the n-th rule, which is an object, where an earlier one may use its name
abbrev pub rule_at : Format → ℕ → (List ℕ → Bool) → Data → Reading Rule
rule_at format n used d =
    and_then (good (rule_place n []) (as_object d)) (λ ms. and_then (walk (rule_member format n) ms nothing_stated) (rule_from n used))

-- a rule after those before it
abbrev pub rule_of : Format → List Rule → Data → Reading Rule
rule_of format earlier d = rule_at format (length earlier) (is_used earlier) d

-- at most 1,024 rules; more are refused before any is looked at
abbrev pub rules_in : Format → Items → Reading (List Rule)
rules_in format ds = if nat_lt 1024 (items_len ds) then Err TooMany else walk_items (rule_of format) [] ds

-- the rules, which are an array
abbrev pub rules_of : Format → Data → Reading (List Rule)
rules_of format d = and_then (good (codes "rules") (as_array d)) (rules_in format)
