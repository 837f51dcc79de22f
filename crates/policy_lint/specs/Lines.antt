-- The lines of what is found.
use Rattle.std.specs.Prelude.{ℕ, Bool, true, false, ◌||◌, if◌then◌else◌, List, [], ◌∷◌, ◌++◌, codes, decimal, length}
use Rattle.std.specs.List.{flat_map, list_all}
use Rattle.hist_model.specs.Decisions.{rule_name}
use Rattle.hist_model.specs.declared.policy.Rule.{Rule}
use Rattle.hist_model.specs.declared.request.Request.{Request}
use Rattle.policy_classes.specs.declared.ending.Ending.{Ending}
use Rattle.policy_classes.specs.declared.ending.Ending.TheVariants as ending
use Rattle.policy_lint.specs.declared.finding.Fault.{Fault}
use Rattle.policy_lint.specs.declared.finding.Fault.TheVariants.{Refused, Judged, Granted, Passed, Unsure, Noted, NoEffect}
use Rattle.policy_lint.specs.declared.finding.Finding.{Finding}
use Rattle.policy_lint.specs.declared.finding.Hint.{Hint}
use Rattle.policy_lint.specs.declared.finding.Hint.TheVariants.{GoneAround, WideDevice, BothKinds, NotAsLxd, RiskyType}
use Rattle.policy_lint.specs.declared.finding.Note.{Note}
use Rattle.policy_lint.specs.declared.finding.Note.TheVariants.{RepeatedKey, MisspeltKey}
use Rattle.policy_lint.specs.declared.judgement.Judgement.{Judgement}
use Rattle.policy_lint.specs.declared.judgement.Judgement.TheVariants.{Useful, Never, Shadowed, Needless, Undecided}
use Rattle.policy_lint.specs.Judged.{behind}
use Rattle.policy_explain.specs.Asked.{asked_text}
use Rattle.policy_reader.specs.declared.error.PolicyError.{PolicyError}
use Rattle.policy_reader.specs.declared.error.PolicyError.TheVariants.{NotJson, BadKey, BadValue, TooMany}
use Rattle.policy_reader.specs.Readings.{top_place}

-- ---- rules

-- the names of the rules at these places, between commas
abbrev pub names : List Rule → List ℕ → List ℕ
names rules [] = []
names rules (place ∷ places) = rule_name rules place ++ flat_map (λ p. codes "," ++ rule_name rules p) places

abbrev pub judgement_word : Judgement → List ℕ
judgement_word Useful = codes "useful"
judgement_word Never = codes "never"
judgement_word (Shadowed by) = codes "shadowed"
judgement_word (Needless by) = codes "needless"
judgement_word Undecided = codes "undecided"

-- what is told stands in the conditions, or is about the rule
abbrev pub within_rule : Judgement → List ℕ
within_rule Useful = []
within_rule Never = codes ".when"
within_rule (Shadowed by) = []
within_rule (Needless by) = []
within_rule Undecided = []

-- what is said of a rule, before the names of other rules
abbrev pub judgement_front : Judgement → List ℕ
judgement_front Useful = codes "a call needs this rule"
judgement_front Never = codes "no call meets these conditions"
judgement_front (Shadowed by) = codes "this rule decides no call by="
judgement_front (Needless by) = codes "without this rule every call has the same answer by="
judgement_front Undecided = codes "it wasn't found whether a call needs this rule"

-- the rules that take its calls, or that would have its answer
abbrev pub judgement_names : List Rule → ℕ → Judgement → List ℕ
judgement_names rules place (Shadowed by) = names rules by
judgement_names rules place (Needless by) = names (behind rules place) by
judgement_names rules place judgement = []

abbrev pub judgement_words : List Rule → ℕ → Judgement → List ℕ
judgement_words rules place judgement = judgement_front judgement ++ judgement_names rules place judgement

-- ---- refusals

abbrev pub refusal_word : PolicyError → List ℕ
refusal_word NotJson = codes "not-json"
refusal_word (BadKey path) = codes "unknown-key"
refusal_word (BadValue path) = codes "bad-value"
refusal_word TooMany = codes "too-many-rules"

abbrev pub refusal_place : PolicyError → List ℕ
refusal_place NotJson = top_place
refusal_place (BadKey path) = path
refusal_place (BadValue path) = path
refusal_place TooMany = codes "rules"

-- ---- hints

abbrev pub hint_word : Hint → List ℕ
hint_word GoneAround = codes "gone-around"
hint_word WideDevice = codes "wide-device"
hint_word BothKinds = codes "wide-device"
hint_word NotAsLxd = codes "not-as-lxd"
hint_word RiskyType = codes "risky-type"

abbrev pub hint_words : Hint → List ℕ
hint_words GoneAround = codes "what this denies is granted under another path"
hint_words WideDevice = codes "this grants a device that gives the machine away"
hint_words BothKinds = codes "without a kind this grants both devices of these numbers"
hint_words NotAsLxd = codes "without the profile this grants what LXD doesn't"
hint_words RiskyType = codes "this grants a mount that reads an image whose maker isn't trusted"

abbrev pub note_word : Note → List ℕ
note_word RepeatedKey = codes "repeated-key"
note_word MisspeltKey = codes "misspelt-key"

-- ---- lines

abbrev pub fault_word : Fault → List ℕ
fault_word (Refused error cure) = refusal_word error
fault_word (Judged place judgement) = judgement_word judgement
fault_word (Granted hint place by call) = hint_word hint
fault_word (Passed place by call against other) = codes "pass-by-memory"
fault_word (Unsure place) = codes "undecided"
fault_word (Noted note place cure) = note_word note
fault_word (NoEffect place front) = codes "no-effect"

abbrev pub fault_place : Fault → List ℕ
fault_place (Refused error cure) = refusal_place error
fault_place (Judged place judgement) = codes "rules[" ++ decimal place ++ codes "]" ++ within_rule judgement
fault_place (Granted hint place by call) = place
fault_place (Passed place by call against other) = place
fault_place (Unsure place) = place
fault_place (Noted note place cure) = place
fault_place (NoEffect place front) = place

-- what is said of a key that makes no rule, before the front of its rules' names
abbrev pub no_effect_front : List ℕ
no_effect_front = codes "no rule has a name that begins with "

-- what is said of a rule that passes a call of which other texts would be denied
abbrev pub passed_front : List ℕ
passed_front = codes "this passes a call that is denied if other bytes stand in its memory by="

-- the rule that passes a call, and the call
abbrev pub passed_text : List Rule → ℕ → Request → List ℕ
passed_text rules by call = passed_front ++ rule_name rules by ++ codes " call=" ++ asked_text call

-- the rule that denies the other call, and that call
abbrev pub denied_text : List Rule → ℕ → Request → List ℕ
denied_text rules against other = codes " denied=" ++ rule_name rules against ++ codes " other=" ++ asked_text other

abbrev pub unsure_words : List ℕ
unsure_words = codes "it wasn't found whether another passed call is denied if other bytes stand in its memory"

abbrev pub fault_words : List Rule → Fault → List ℕ
fault_words rules (Refused error cure) = cure
fault_words rules (Judged place judgement) = judgement_words rules place judgement
fault_words rules (Granted hint place by call) = hint_words hint ++ codes " by=" ++ rule_name rules by ++ codes " call=" ++ asked_text call
fault_words rules (Passed place by call against other) = passed_text rules by call ++ denied_text rules against other
fault_words rules (Unsure place) = unsure_words
fault_words rules (Noted note place cure) = cure
fault_words rules (NoEffect place front) = no_effect_front ++ front

abbrev pub line_text : List Rule → Finding → List ℕ
line_text rules f = fault_word f.fault ++ codes " " ++ fault_place f.fault
    ++ codes " " ++ decimal f.line ++ codes ":" ++ decimal f.column ++ codes " " ++ fault_words rules f.fault ++ codes "\n"

-- all lines, behind their number
abbrev pub report : List Rule → List Finding → List ℕ
report rules [] = codes "clean\n"
report rules (f ∷ fs) = codes "findings=" ++ decimal (length (f ∷ fs)) ++ codes "\n" ++ flat_map (line_text rules) (f ∷ fs)

-- ---- the ending

abbrev pub is_open : Judgement → Bool
is_open Useful = false
is_open Never = false
is_open (Shadowed by) = false
is_open (Needless by) = false
is_open Undecided = true

-- it says that nothing was found out
abbrev pub is_undecided : Fault → Bool
is_undecided (Refused error cure) = false
is_undecided (Judged place judgement) = is_open judgement
is_undecided (Granted hint place by call) = false
is_undecided (Passed place by call against other) = false
is_undecided (Unsure place) = true
is_undecided (Noted note place cure) = false
is_undecided (NoEffect place front) = false

-- it leaves the status as it is: the kernel asks for no such policy, and a job may go on
abbrev pub is_aside : Fault → Bool
is_aside (Refused error cure) = false
is_aside (Judged place judgement) = false
is_aside (Granted hint place by call) = false
is_aside (Passed place by call against other) = true
is_aside (Unsure place) = false
is_aside (Noted note place cure) = false
is_aside (NoEffect place front) = false

-- nothing is found but that calls are passed which other texts would deny; nothing was found out; or something is found
abbrev pub ending_of : List Finding → Ending
ending_of findings =
    if list_all (λ (f : Finding). is_aside f.fault) findings then ending.Alike
    else if list_all (λ (f : Finding). is_aside f.fault || is_undecided f.fault) findings then ending.Undecided
    else ending.Otherwise
