-- What a rule answers.
use Rattle.std.specs.Prelude.{ℕ, List, [], ◌∷◌, ◌++◌, Option, Some, None, option_and_then, Ok, Err, codes}
use Rattle.hist_model.specs.ReportWords.{quoted}
use Rattle.hist_model.specs.declared.policy.Verdict.{Verdict}
use Rattle.hist_model.specs.declared.policy.Verdict.TheVariants.{Grant, Deny, Pass, Inject}
use Rattle.serde_json.specs.Data.{Data, null, boolean, number, string, array, object}
use Rattle.serde_json.specs.Find.{as_str}
use Rattle.sys_abi.specs.Errnos.{errno_of_name}
use Rattle.policy_reader.specs.declared.error.PolicyError.TheVariants.{BadKey, BadValue}
use Rattle.policy_reader.specs.declared.verdicts.Answer.{Answer}
use Rattle.policy_reader.specs.declared.verdicts.AnswerKey.{AnswerKey}
use Rattle.policy_reader.specs.declared.verdicts.AnswerKey.TheVariants as key
use Rattle.policy_reader.specs.Readings.{Reading, and_then, good, walk, named, rule_place}
use Rattle.policy_reader.specs.Texts.{whole_from}

-- the answers that are one word
abbrev pub verdict_words : List (List ℕ × Verdict)
verdict_words = (codes "grant", Grant) ∷ (codes "pass", Pass) ∷ []

-- the keys of the others
abbrev pub answer_keys : List (List ℕ × AnswerKey)
answer_keys = (codes "at", key.At) ∷ (codes "deny", key.Deny) ∷ (codes "inject", key.Inject) ∷ []

-- no key yet
abbrev pub no_answer : Answer
no_answer = record { at = None; deny = None; inject = None }

abbrev pub answer_at : ℕ → Option AnswerKey → List ℕ → Data → Answer → Reading Answer
answer_at n None name d a = Err (BadKey (rule_place n (codes ".then." ++ quoted name)))
answer_at n (Some key.At) name d a =
    and_then (good (rule_place n (codes ".then.at")) (whole_from 0 d)) (λ number. Ok (record a { at = Some number }))
answer_at n (Some key.Deny) name d a = and_then (good (rule_place n (codes ".then.deny")) (option_and_then errno_of_name (as_str d)))
    (λ error. Ok (record a { deny = Some error }))
answer_at n (Some key.Inject) name d a =
    and_then (good (rule_place n (codes ".then.inject")) (whole_from 0 d)) (λ number. Ok (record a { inject = Some number }))

-- a member of the answer of the n-th rule: an error by its name, or the number of a file of the broker and the number that it gets
abbrev pub answer_member : ℕ → List ℕ → Data → Answer → Reading Answer
answer_member n name d a = answer_at n (named answer_keys name) name d a

-- exactly one of an error and a file; only a file gets a number
abbrev pub verdict_from : Option ℕ → Option ℕ → Option ℕ → Option Verdict
verdict_from (Some error) None None = Some (Deny error)
verdict_from None (Some src) at = Some (Inject src at)
verdict_from _ _ _ = None

-- the answer of the n-th rule: a word, or an object whose keys are read before it is tested
abbrev pub verdict_of : ℕ → Data → Reading Verdict
verdict_of n (string text) = good (rule_place n (codes ".then")) (named verdict_words text)
verdict_of n (object ms) =
    and_then (walk (answer_member n) ms no_answer) (λ a. good (rule_place n (codes ".then")) (verdict_from a.deny a.inject a.at))
verdict_of n null = Err (BadValue (rule_place n (codes ".then")))
verdict_of n (boolean b) = Err (BadValue (rule_place n (codes ".then")))
verdict_of n (number x) = Err (BadValue (rule_place n (codes ".then")))
verdict_of n (array ds) = Err (BadValue (rule_place n (codes ".then")))
