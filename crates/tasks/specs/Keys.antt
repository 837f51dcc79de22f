-- The key of a table of tasks: of each task its parts, one after another.
use Rattle.std.specs.Prelude.{◌≡◌, ℕ, List, ◌++◌, length}
use Rattle.std.specs.List.{flat_map}
use Rattle.hist_model.specs.declared.event.Disposition.{Disposition}
use Rattle.hist_model.specs.declared.event.Disposition.TheVariants.{Default, Plain, Restart}
use Rattle.key_bytes.specs.Parts.{flag_part, list_part, number_part, option_part, signed_part}
use Rattle.tasks.specs.Table.{Member, member, table_of, view}
use Rattle.tasks.specs.declared.row.EnteredCall.{EnteredCall}
use Rattle.tasks.specs.declared.row.Progress.{Progress}
use Rattle.tasks.specs.declared.signals.BySignal.{BySignal}
use Rattle.tasks.specs.declared.table.Tasks.{Tasks}

abbrev pub disposition_code : Disposition → ℕ
disposition_code Default = 0
disposition_code Restart = 1
disposition_code Plain = 2

abbrev pub disposition_part : Disposition → List ℕ
disposition_part d = number_part (disposition_code d)

abbrev pub by_signal_part : {A : Type 0} → (A → List ℕ) → BySignal A → List ℕ
by_signal_part part b = part b.kill ++ part b.usr1 ++ part b.usr2 ++ part b.term

-- the call that a task entered last
abbrev pub call_part : EnteredCall → List ℕ
call_part c = signed_part c.nr ++ list_part number_part c.args

-- how far a task is
abbrev pub progress_part : Progress → List ℕ
progress_part p =
    number_part p.group ++ number_part p.program ++ number_part p.next ++ option_part number_part p.call ++ option_part call_part p.entered
    ++ flag_part p.owes ++ flag_part p.ended ++ flag_part p.waited ++ by_signal_part flag_part p.pending
    ++ by_signal_part disposition_part p.dispositions

abbrev pub member_part : Member → List ℕ
member_part t =
    list_part number_part t.name ++ number_part t.pid ++ option_part number_part t.parent ++ list_part (option_part number_part) t.children
    ++ list_part number_part t.waiting ++ progress_part t.progress

-- a whole table
abbrev pub table_part : Tasks → List ℕ
table_part T = number_part T.last ++ (number_part (length T.tasks.items) ++ flat_map (λ t. member_part (member t)) T.tasks.items)

-- where equal bytes begin with the keys of two tables, these are the same state, and what comes after them is equal
abbrev pub TellStates : Type 0
TellStates = (a b : Tasks) (r s : List ℕ) → table_part a ++ r ≡ table_part b ++ s
    → ((groups : ℕ) → view (table_of a) groups ≡ view (table_of b) groups) × (r ≡ s)
