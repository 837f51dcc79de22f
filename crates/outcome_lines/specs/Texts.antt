-- The text of lines, by the tree at the end.
use Rattle.std.specs.Prelude.{◌≡◌, ℕ, Bool, false, not, ◌||◌, List, ◌++◌, is_some, Option, Some, None, codes, if◌then◌else◌}
use Rattle.std.specs.List.{flat_map}
use Rattle.hist_model.specs.Legal.{tree}
use Rattle.hist_model.specs.ReportAudit.{Judging, arrival_of, arrival_text, finding_text, rule_of, rule_text}
use Rattle.hist_model.specs.Trees.{Tree, attr, mount_on}
use Rattle.hist_model.specs.declared.event.Event.{Event}
use Rattle.hist_model.specs.declared.script.Script.{Script}
use Rattle.mount_tree.specs.Looks.{has_value}
use Rattle.outcome_text.specs.Outcomes.{entry_text, result_of}
use Rattle.outcome_lines.specs.Lines.{lines_in}
use Rattle.outcome_lines.specs.declared.line.Line.{Line}
use Rattle.outcome_lines.specs.declared.line.Sight.{Sight}
use Rattle.outcome_lines.specs.declared.line.Sight.TheVariants.{OnAttr, OnRoot}
use Rattle.outcome_lines.specs.declared.line.Told.{Told}

-- in this tree the effect is out of sight: another mount stands on its root, or its attribute has another value
abbrev pub is_unseen : Tree → Option Sight → Bool
is_unseen T None = false
is_unseen T (Some (OnRoot n)) = is_some (mount_on T.mounts n.ordinal)
is_unseen T (Some (OnAttr n name value)) = not (has_value (attr T n.ordinal name) value)

-- the words of a session for whose call a descriptor was installed or wasn't, and of what it did
abbrev pub told_text : Judging → Tree → Bool → Option Told → List ℕ
told_text J T installed None = codes " rule=- verdict=- reply=-\n"
told_text J T installed (Some t) =
    codes " rule=" ++ rule_text J (rule_of t.finding) ++ codes " verdict=" ++ finding_text t.finding
    ++ codes " reply=" ++ arrival_text (arrival_of (t.sent || installed) t.lost) ++ codes "\n"
    ++ (if is_unseen T t.sight then t.did_unseen else t.did)

abbrev pub line_text : Judging → Tree → Line → List ℕ
line_text J T l = entry_text l.name l.number l.nr l.verdict l.came ++ told_text J T l.installed l.session

abbrev pub lines_text : Judging → Tree → List Line → List ℕ
lines_text J T lines = flat_map (line_text J T) lines

-- they tell what a history comes to
abbrev pub TellOutcomes : Type 0
TellOutcomes = (S : Script) (J : Judging) (H : List Event) → result_of S J H ≡ lines_text J (tree S H) (lines_in S J H)
