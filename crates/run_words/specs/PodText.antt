-- What is printed of containers that were served side by side.
use Rattle.std.specs.Prelude.{ℕ, List, [], ◌∷◌, ◌++◌, suc, length, Option, codes, decimal}
use Rattle.audit_log.specs.Counts.{counts_of, counts_words, no_counts, plus}
use Rattle.audit_log.specs.declared.summary.Counts.{Counts}
use Rattle.handover.specs.Handing.{Handed}
use Rattle.hist_model.specs.ReportAudit.{judging_by}
use Rattle.worker_gate.specs.Replacing.{handed_if, handed_in}
use Rattle.worker_gate.specs.declared.served.Played.{Played}
use Rattle.play_words.specs.Handovers.{report_and}

-- the line above a container's report: its number, counted from 0
abbrev pub container_title : ℕ → List ℕ
container_title number = codes "container " ++ (decimal number ++ codes "\n")

-- the ledgers of a container's history, where workers are replaced after each so many of their steps
abbrev pub due_in : Option ℕ → Played → Option (List Handed)
due_in every p = handed_if every p.history.events

-- those that were kept
abbrev pub kept_in : Played → Option (List Handed)
kept_in p = handed_in p.handed

-- the part of a container: that line, its report, and its ledgers, where there are some
abbrev pub part : (Played → Option (List Handed)) → ℕ → Played → List ℕ
part ledgers number p = container_title number ++ report_and (judging_by p.policy.rules) p.history.events (ledgers p)

-- the parts of containers, of which the first has this number
abbrev pub parts : (Played → Option (List Handed)) → ℕ → List Played → List ℕ
parts ledgers number [] = []
parts ledgers number (p ∷ more) = part ledgers number p ++ parts ledgers (suc number) more

-- the counts of a container's history
abbrev pub counts_in : Played → Counts
counts_in p = counts_of (judging_by p.policy.rules) p.history.events

-- the counts of containers' histories on top of others
abbrev pub sums_on : Counts → List Played → Counts
sums_on before [] = before
sums_on before (p ∷ more) = sums_on (plus before (counts_in p)) more

-- the counts of all together
abbrev pub sums_of : List Played → Counts
sums_of ps = sums_on no_counts ps

-- the last line: how many containers there were, and the sums
abbrev pub pod_line : ℕ → Counts → List ℕ
pod_line containers c = codes "pod containers=" ++ (decimal containers ++ counts_words c)

-- all parts, and the last line
abbrev pub pod_text : (Played → Option (List Handed)) → List Played → List ℕ
pod_text ledgers ps = parts ledgers 0 ps ++ pod_line (length ps) (sums_of ps)
