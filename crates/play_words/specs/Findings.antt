-- What is printed of a report that is one: whether its history is finished, and the trail of its calls.
use Rattle.std.specs.Prelude.{ℕ, Bool, true, false, List, ◌++◌, length, codes, decimal}
use Rattle.hist_model.specs.ReportAudit.{Judging}
use Rattle.hist_model.specs.declared.event.Event.{Event}
use Rattle.audit_check.specs.Trail.{trail}

abbrev pub finished_text : Bool → List ℕ
finished_text true = codes " finished=yes\n"
finished_text false = codes " finished=no\n"

-- the first line: the number of events, and whether the history is finished
abbrev pub yes_line : ℕ → Bool → List ℕ
yes_line events finished = codes "yes events=" ++ (decimal events ++ finished_text finished)

-- the line, and then the trail
abbrev pub findings : Judging → List Event → Bool → List ℕ
findings J H finished = yes_line (length H) finished ++ trail J H
