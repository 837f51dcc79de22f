-- The comparison of two policies, as text.
use Rattle.std.specs.Prelude.{ℕ, Bool, true, false, ◌&&◌, ◌==◌, List, [], ◌∷◌, ◌++◌, length, slice_get, take, find}
use Rattle.std.specs.Prelude.{Option, Some, None, is_some, codes, decimal, if◌then◌else◌}
use Rattle.std.specs.List.{flat_map}
use Rattle.hist_model.specs.ReportWords.{errno_text, quoted}
use Rattle.hist_model.specs.declared.policy.Rule.{Rule}
use Rattle.hist_model.specs.declared.policy.Verdict.{Verdict}
use Rattle.hist_model.specs.declared.policy.Verdict.TheVariants.{Grant, Deny, Pass, Inject}
use Rattle.hist_model.specs.declared.request.Request.{Request}
use Rattle.hist_model.specs.declared.script.FilterLine.{FilterLine}
use Rattle.policy_classes.specs.declared.ending.Ending.{Ending}
use Rattle.policy_classes.specs.declared.ending.Ending.TheVariants.{Alike, Otherwise, Undecided}
use Rattle.policy_classes.specs.declared.found.Class.{Class}
use Rattle.policy_explain.specs.Asked.{asked_text}
use Rattle.policy_explain.specs.Blocks.{place_text}
use Rattle.policy_compare.specs.declared.answers.Way.{Way}
use Rattle.policy_compare.specs.declared.answers.Way.TheVariants.{Wider, Narrower, Other}
use Rattle.policy_compare.specs.Answers.{Answer, answer_of, is_same, way_of}
use Rattle.policy_compare.specs.Notified.{is_notified}

-- ---- answers

abbrev pub verdict_text : Verdict → List ℕ
verdict_text Grant = codes "grant"
verdict_text (Deny error) = codes "deny,error=" ++ errno_text error
verdict_text Pass = codes "pass"
verdict_text (Inject src at) = codes "inject,src=" ++ decimal src ++ codes ",at=" ++ place_text at

abbrev pub via_text : List ℕ → List ℕ
via_text [] = []
via_text (b ∷ bytes) = codes ",via=" ++ quoted (b ∷ bytes)

abbrev pub shift_text : Bool → List ℕ
shift_text true = codes ",shift"
shift_text false = []

abbrev pub times_text : Option ℕ → List ℕ
times_text (Some n) = codes ",times=" ++ decimal n
times_text None = []

abbrev pub answer_text : Answer → List ℕ
answer_text a = verdict_text a.verdict ++ via_text a.via ++ shift_text a.shift ++ times_text a.times

abbrev pub name_text : Option Rule → List ℕ
name_text (Some rule) = rule.name
name_text None = codes "-"

-- ---- classes that are answered otherwise

abbrev pub way_text : Way → List ℕ
way_text Wider = codes "wider "
way_text Narrower = codes "narrower "
way_text Other = codes "other "

-- a rule and what it answers, each behind a word
abbrev pub side_text : List ℕ → List ℕ → Option Rule → List ℕ
side_text rule_word answer_word rule = rule_word ++ name_text rule ++ answer_word ++ answer_text (answer_of rule)

-- that calls aren't notified
abbrev pub notified_text : Bool → List ℕ
notified_text true = []
notified_text false = codes " notified=no"

-- two rules and what they answer
abbrev pub sides_text : Option Rule → Option Rule → List ℕ
sides_text old new = side_text (codes " old-rule=") (codes " old=") old ++ side_text (codes " new-rule=") (codes " new=") new

-- a call, what two rules answer it, and whether it is notified
abbrev pub change_text : Option Rule → Option Rule → Request → Bool → List ℕ
change_text old new q notified =
    way_text (way_of (answer_of old) (answer_of new)) ++ asked_text q ++ sides_text old new ++ notified_text notified ++ codes "\n"

module _ (old new : List Rule) where
  abbrev pub old_rule : Class → Option Rule
  old_rule c = slice_get old c.old_place

  abbrev pub new_rule : Class → Option Rule
  new_rule c = slice_get new c.new_place

  -- the rules answer the calls of the class alike
  abbrev pub is_alike : Class → Bool
  is_alike c = is_same (answer_of (old_rule c)) (answer_of (new_rule c))

module _ (old new : List Rule) (filters : Option (List FilterLine)) where
  -- the line of a class
  abbrev pub line_of : Class → List ℕ
  line_of c = change_text (old_rule old new c) (new_rule old new c) c.witness (is_notified filters c.witness)

  -- that of one that is answered otherwise
  abbrev pub change_lines : Class → List (List ℕ)
  change_lines c = if is_alike old new c then [] else (line_of c ∷ [])

  abbrev pub class_lines : List Class → List (List ℕ)
  class_lines classes = flat_map change_lines classes

-- ---- classes that are counted otherwise

-- calls of both classes are counted together by one policy, and apart by the other; both calls are notified, or not
abbrev pub count_text : Class → Class → List ℕ → Bool → List ℕ
count_text c d how notified =
    codes "counts " ++ asked_text c.witness ++ codes " and " ++ asked_text d.witness ++ how ++ notified_text notified ++ codes "\n"

module _ (filters : Option (List FilterLine)) where
  -- the filters notify the calls of both classes that are shown
  abbrev pub are_notified : Class → Class → Bool
  are_notified c d = is_notified filters c.witness && is_notified filters d.witness

  -- the first class of the same old rule is of another new one
  abbrev pub apart_lines : Option Class → Class → List (List ℕ)
  apart_lines (Some c) d =
      if c.new_place == d.new_place then [] else (count_text c d (codes " old=together new=apart") (are_notified c d) ∷ [])
  apart_lines None d = []

  -- the first class of the same new rule is of another old one
  abbrev pub together_lines : Option Class → Class → List (List ℕ)
  together_lines (Some c) d =
      if c.old_place == d.old_place then [] else (count_text c d (codes " old=apart new=together") (are_notified c d) ∷ [])
  together_lines None d = []

module _ (old new : List Rule) where
  -- its calls are answered alike, and it is limited how often: all calls of a rule together
  abbrev pub is_counted : Class → Bool
  is_counted c = is_some (answer_of (old_rule old new c)).times && is_alike old new c

  -- the first of these classes that an old rule counts, and that a new rule counts
  abbrev pub first_of_old : List Class → ℕ → Option Class
  first_of_old classes place = find (λ c. (c.old_place == place) && is_counted c) classes

  abbrev pub first_of_new : List Class → ℕ → Option Class
  first_of_new classes place = find (λ c. (c.new_place == place) && is_counted c) classes

module _ (old new : List Rule) (filters : Option (List FilterLine)) where
  -- the lines of a class beside the first ones of its rules
  abbrev pub share_lines : List Class → Class → List (List ℕ)
  share_lines classes d =
      if is_counted old new d
      then (apart_lines filters (first_of_old old new classes d.old_place) d
      ++ together_lines filters (first_of_new old new classes d.new_place) d)
      else []

  abbrev pub count_lines : List Class → List (List ℕ)
  count_lines classes = flat_map (share_lines classes) classes

-- ---- the whole

-- whether all classes are known
abbrev pub whole_text : Bool → List ℕ
whole_text true = codes "yes"
whole_text false = codes "no"

-- a number behind a word
abbrev pub sum_text : List ℕ → ℕ → List ℕ
sum_text word n = word ++ decimal n

abbrev pub end_text : Bool → List ℕ
end_text whole = codes " whole=" ++ whole_text whole ++ codes "\n"

-- how many classes are answered otherwise, how many pairs are counted otherwise, and whether these are all
unfoldable pub head_text : ℕ → ℕ → Bool → List ℕ
head_text changes counts whole = sum_text (codes "differ classes=") changes ++ sum_text (codes " counts=") counts ++ end_text whole

-- how many lines are told at most behind that one
abbrev pub most_lines : ℕ
most_lines = 1000

-- how the comparison ends: what the lines tell, or that there are none
abbrev pub ending_of : List (List ℕ) → Bool → Ending
ending_of (line ∷ lines) whole = Otherwise
ending_of [] true = Alike
ending_of [] false = Undecided

-- the first line, and those behind it that are told
abbrev pub differences : List ℕ → List (List ℕ) → List ℕ
differences head lines = head ++ flat_map (λ line. line) (take most_lines lines)

abbrev pub text_of : Ending → List ℕ → List (List ℕ) → List ℕ
text_of Alike head lines = codes "equal\n"
text_of Otherwise head lines = differences head lines
text_of Undecided head lines = codes "undecided\n"

module _ (old new : List Rule) (filters : Option (List FilterLine)) where
  -- all lines: first the classes that are answered otherwise
  abbrev pub all_lines : List Class → List (List ℕ)
  all_lines classes = class_lines old new filters classes ++ count_lines old new filters classes

  abbrev pub ending : List Class → Bool → Ending
  ending classes whole = ending_of (all_lines classes) whole

  abbrev pub head : List Class → Bool → List ℕ
  head classes whole = head_text (length (class_lines old new filters classes)) (length (count_lines old new filters classes)) whole

  abbrev pub comparison : List Class → Bool → List ℕ
  comparison classes whole =
      text_of (ending classes whole) (head classes whole) (all_lines classes)
