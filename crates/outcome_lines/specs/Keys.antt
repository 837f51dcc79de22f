-- The key of lines: of each its parts, one after another. What has cases is told by a number, and by what the case has.
use Rattle.std.specs.Prelude.{ℕ, true, false, List, ◌++◌, ℤ, pos}
use Rattle.hist_model.specs.declared.event.Entered.{Entered}
use Rattle.hist_model.specs.declared.event.Entered.TheVariants.{Allow, Fails, Kill, Log, NoSys, Notify}
use Rattle.hist_model.specs.declared.report.Finding.{Finding}
use Rattle.hist_model.specs.declared.report.Finding.TheVariants.{Denied, Fault, Gone, Granted, Injected, Open as Undecided, Passed, Spent}
use Rattle.hist_model.specs.declared.report.Outcome.{Outcome}
use Rattle.hist_model.specs.declared.report.Outcome.TheVariants.{Ended, Failed, Open, Restarted, Returned}
use Rattle.key_bytes.specs.Parts.{flag_part, list_part, number_part, option_part, pair_part, signed_part, text_part}
use Rattle.outcome_lines.specs.declared.line.Line.{Line}
use Rattle.outcome_lines.specs.declared.line.Sight.{Sight}
use Rattle.outcome_lines.specs.declared.line.Sight.TheVariants.{OnAttr, OnRoot}
use Rattle.outcome_lines.specs.declared.line.Told.{Told}

abbrev pub verdict_code : Entered → ℕ × ℕ
verdict_code (Notify id) = (0, id)
verdict_code Allow = (1, 0)
verdict_code Log = (2, 0)
verdict_code NoSys = (3, 0)
verdict_code Kill = (4, 0)
verdict_code (Fails e) = (5, e)

abbrev pub came_code : Outcome → ℕ × ℤ
came_code Open = (0, pos 0)
came_code Restarted = (1, pos 0)
came_code Ended = (2, pos 0)
came_code (Returned v) = (3, v)
came_code (Failed e) = (4, pos e)

abbrev pub finding_code : Finding → ℕ × ℕ
finding_code Gone = (0, 0)
finding_code Undecided = (1, 0)
finding_code Fault = (2, 0)
finding_code (Spent i) = (3, i)
finding_code (Granted i) = (4, i)
finding_code (Denied i) = (5, i)
finding_code (Passed i) = (6, i)
finding_code (Injected i) = (7, i)

abbrev pub verdict_part : Entered → List ℕ
verdict_part v = pair_part number_part number_part (verdict_code v)

abbrev pub came_part : Outcome → List ℕ
came_part o = pair_part number_part signed_part (came_code o)

abbrev pub finding_part : Finding → List ℕ
finding_part f = pair_part number_part number_part (finding_code f)

-- by the root, or by the node with the attribute's name and value
abbrev pub sight_part : Sight → List ℕ
sight_part (OnRoot n) = flag_part false ++ number_part n.ordinal
sight_part (OnAttr n name value) = flag_part true ++ (number_part n.ordinal ++ text_part name ++ text_part value)

abbrev pub told_part : Told → List ℕ
told_part t =
    option_part number_part t.worker ++ finding_part t.finding ++ flag_part t.sent ++ flag_part t.lost ++ text_part t.did
    ++ text_part t.did_unseen ++ option_part sight_part t.sight

abbrev pub line_part : Line → List ℕ
line_part l =
    list_part number_part l.name ++ number_part l.number ++ signed_part l.nr ++ verdict_part l.verdict ++ came_part l.came
    ++ flag_part l.installed ++ option_part told_part l.session

-- all lines
abbrev pub lines_part : List Line → List ℕ
lines_part = list_part line_part
