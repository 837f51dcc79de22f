-- What the accepted lines above a line state, section by section, and the faults that a statement shows beside them.
use Rattle.std.specs.Prelude.{ℕ, Bool, true, false, if◌then◌else◌, List, [], ◌∷◌, ◌++◌, not, Option, Some, None, is_some}
use Rattle.lex_core.specs.declared.reason.Reason.TheVariants as reason
use Rattle.hist_model.specs.Filters.{notify_filter}
use Rattle.hist_model.specs.Totals.{is_exit}
use Rattle.hist_model.specs.declared.script.MapRange.{MapRange}
use Rattle.script_reader.specs.declared.error.Fault.{Fault}
use Rattle.script_reader.specs.declared.settings.Settings.{Settings}
use Rattle.script_reader.specs.declared.statement.Statement.{Statement}
use Rattle.script_reader.specs.declared.statement.Statement.TheVariants as states
use Rattle.script_reader.specs.declared.word.Section.{Section}
use Rattle.script_reader.specs.declared.word.Section.TheVariants as section
use Rattle.script_reader.specs.Blocks.{FiltersState, no_filters, with_filter, open_filter, with_insn}
use Rattle.script_reader.specs.Blocks.{close_filter, filter_fault, insns_fault, killable_fault}
use Rattle.script_reader.specs.Faults.{wrong_if, or_else, duplicate}
use Rattle.script_reader.specs.Programs.{ProgramsState, no_programs, open_program, with_instr, with_start, close_program}
use Rattle.script_reader.specs.Programs.{prog_fault, start_fault, instr_fault, totals_fault}
use Rattle.script_reader.specs.Ranges.{map_fault, broker_fault}
use Rattle.script_reader.specs.Schedule.{ScheduleState, no_steps, with_task, with_worker, with_request}
use Rattle.script_reader.specs.Schedule.{steps_fault, counts_fault, request_fault}
use Rattle.script_reader.specs.Settings.{no_settings, pidbase_fault, with_group}
use Rattle.script_reader.specs.Tree.{TreeState, bare_tree, node_at, with_node, with_attr, node_fault, attr_fault, leads_to_directory}

-- an accepted line: its number, and what it states
pub record Stated : Type 0 where
  pub line : ℕ
  pub what : Statement

-- what lines state, from the first line on
pub record Above : Type 0 where
  -- where the next line stands
  pub section : Section
  -- the line that opened the last block
  pub opened : ℕ
  pub settings : Settings
  pub tree : TreeState
  pub broker : List ℕ
  pub map : List MapRange
  pub filters : FiltersState
  pub programs : ProgramsState
  pub schedule : ScheduleState

-- before the first line
abbrev pub nothing_above : Above
nothing_above = record {
  section = section.Settings;
  opened = 0;
  settings = no_settings;
  tree = bare_tree;
  broker = [];
  map = [];
  filters = no_filters;
  programs = no_programs;
  schedule = no_steps;
}

-- ---- one more line

abbrev pub set : Settings → Above → Above
set settings A = record A { settings = settings }

abbrev pub with_tree : TreeState → Above → Above
with_tree tree A = record A { tree = tree }

abbrev pub with_filters : FiltersState → Above → Above
with_filters filters A = record A { filters = filters }

abbrev pub with_programs : ProgramsState → Above → Above
with_programs programs A = record A { programs = programs }

abbrev pub with_schedule : ScheduleState → Above → Above
with_schedule schedule A = record A { schedule = schedule }

abbrev pub in_part : Section → Above → Above
in_part section A = record A { section = section }

-- after `exit` only the end of the block may stand
abbrev pub section_after : Bool → Section → Section
section_after exits p = if exits then section.Exited else p

-- the block that is open is closed
abbrev pub close_block : Section → Above → Above
close_block section.Filter A = in_part section.Settings (with_filters (close_filter A.filters) A)
close_block section.Program A = in_part section.Programs (with_programs (close_program false A.programs) A)
close_block section.Exited A = in_part section.Programs (with_programs (close_program true A.programs) A)
close_block section.Schedule A = in_part section.Over A
close_block _ A = A

-- the section of a program's block
abbrev pub program_part : Bool → Section
program_part true = section.Exited
program_part false = section.Program

-- what is stated with one more statement after it
abbrev pub with_statement : Statement → Above → Above
with_statement (states.Pidmax n) A = set (record A.settings { pidmax = Some n }) A
with_statement (states.Pidbase n) A = set (record A.settings { pidbase = Some n }) A
with_statement (states.Firstid n) A = set (record A.settings { firstid = Some n }) A
with_statement (states.Rlimit n) A = set (record A.settings { rlimit = Some n }) A
with_statement states.Killable A = set (record A.settings { killable = true }) A
with_statement (states.Node path kind) A = with_tree (with_node path kind A.tree) A
with_statement (states.Attr path name value) A = with_tree (with_attr path name value A.tree) A
with_statement (states.Root path) A = set (record A.settings { root = Some (node_at A.tree path) }) A
with_statement (states.Broker n) A = record A { broker = A.broker ++ n ∷ [] }
with_statement (states.Map range) A = record A { map = A.map ++ range ∷ [] }
with_statement (states.Cgroup memory swap) A = set (record A.settings { limits = Some (with_group memory swap A.settings.limits) }) A
with_statement (states.Figures figures) A = set (record A.settings { figures = Some figures }) A
with_statement (states.Notify calls) A = with_filters (with_filter (notify_filter calls) true A.filters) A
with_statement (states.Filter listener) A = in_part section.Filter (with_filters (open_filter listener A.filters) A)
with_statement (states.Insn i) A = with_filters (with_insn i A.filters) A
with_statement (states.Prog name) A = in_part section.Program (with_programs (open_program name A.programs) A)
with_statement (states.Does i) A = in_part (section_after (is_exit i) A.section) (with_programs (with_instr i A.programs) A)
with_statement (states.Starts thread name) A = with_programs (with_start thread name A.programs) A
with_statement states.Schedule A = in_part section.Schedule A
with_statement (states.Steps task count) A = with_schedule (with_task task count A.schedule) A
with_statement (states.Counts worker count) A = with_schedule (with_worker worker count A.schedule) A
with_statement (states.Asks worker asked) A = with_schedule (with_request worker asked A.schedule) A
with_statement states.End A = close_block A.section A

-- the line opens a block
abbrev pub opens : Statement → Bool
opens (states.Filter listener) = true
opens (states.Prog name) = true
opens states.Schedule = true
opens _ = false

abbrev pub opened_by : Bool → ℕ → ℕ → ℕ
opened_by opens n before = if opens then n else before

-- with one more line
abbrev pub with_line : ℕ → Statement → Above → Above
with_line n s A = record (with_statement s A) { opened = opened_by (opens s) n A.opened }

-- what the lines above state, the newest line first
unfoldable pub above : List Stated → Above
above [] = nothing_above
above (s ∷ older) = with_line s.line s.what (above older)

-- ---- the fault of a statement beside the lines above

-- a directory that is stated, or `/`, once
abbrev pub root_fault : Above → List ℕ → Option Fault
root_fault A path =
    or_else (wrong_if (not (leads_to_directory A.tree path)) reason.BadPath) (duplicate (is_some A.settings.root))

-- of the block that ends
abbrev pub end_fault : Section → Above → Option Fault
end_fault section.Filter A = insns_fault A.filters.insns
end_fault section.Program A = totals_fault false A.programs
end_fault section.Exited A = totals_fault true A.programs
end_fault _ A = None

abbrev pub statement_fault : Statement → Above → Option Fault
statement_fault (states.Pidmax n) A = duplicate (is_some A.settings.pidmax)
statement_fault (states.Pidbase n) A = pidbase_fault A.settings n
statement_fault (states.Firstid n) A = duplicate (is_some A.settings.firstid)
statement_fault (states.Rlimit n) A = duplicate (is_some A.settings.rlimit)
statement_fault states.Killable A = killable_fault A.settings.killable A.filters
statement_fault (states.Node path kind) A = node_fault A.tree path
statement_fault (states.Attr path name value) A = attr_fault A.tree path
statement_fault (states.Root path) A = root_fault A path
statement_fault (states.Broker n) A = broker_fault A.broker n
statement_fault (states.Map range) A = map_fault A.map range
statement_fault (states.Cgroup memory swap) A = None
statement_fault (states.Figures figures) A = duplicate (is_some A.settings.figures)
statement_fault (states.Notify calls) A = filter_fault A.filters true
statement_fault (states.Filter listener) A = filter_fault A.filters listener
statement_fault (states.Insn i) A = None
statement_fault (states.Prog name) A = prog_fault A.programs name
statement_fault (states.Does i) A = instr_fault A.map i
statement_fault (states.Starts thread name) A = start_fault A.programs name
statement_fault states.Schedule A = None
statement_fault (states.Steps task count) A = steps_fault A.schedule count
statement_fault (states.Counts worker count) A = counts_fault A.schedule worker count
statement_fault (states.Asks worker asked) A = request_fault A.schedule worker
statement_fault states.End A = end_fault A.section A
