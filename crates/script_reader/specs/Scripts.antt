-- The script that a file states and the turns of its schedule, or why it is refused.
use Rattle.std.specs.Prelude.{ℕ, if◌then◌else◌, List, [], ◌∷◌, unwrap_or, Result, Ok, Err}
use Rattle.lex_core.specs.Lexical.{tokens}
use Rattle.lex_core.specs.Lines.{Numbered, lines_after}
use Rattle.lex_core.specs.declared.reason.Reason.TheVariants as reason
use Rattle.hist_model.specs.declared.script.Script.{Script}
use Rattle.script_reader.specs.declared.error.Fault.{Fault}
use Rattle.script_reader.specs.declared.error.Fault.TheVariants as fault
use Rattle.script_reader.specs.declared.error.ScriptError.{ScriptError}
use Rattle.script_reader.specs.declared.error.ScriptError.TheVariants as refused
use Rattle.script_reader.specs.declared.file.ScriptFile.{ScriptFile}
use Rattle.script_reader.specs.declared.statement.Statement.{Statement}
use Rattle.script_reader.specs.Above.{Above, Stated, above}
use Rattle.script_reader.specs.Lines.{line_statement}
pub use Rattle.script_reader.specs.Lists.{has_items}
use Rattle.script_reader.specs.Ranges.{in_force}
use Rattle.script_reader.specs.Settings.{figures_of, pidmax_of}
use Rattle.script_reader.specs.Tree.{node_ref}
use Rattle.script_reader.specs.Words.{in_block}

-- ---- the script

-- what accepted lines make, each setting that isn't stated having its default
abbrev pub script_of : Above → Script
script_of A = record {
  pidbase = unwrap_or A.settings.pidbase 0;
  pidmax = pidmax_of A.settings;
  firstid = unwrap_or A.settings.firstid 1;
  rlimit = unwrap_or A.settings.rlimit 1024;
  killable = A.settings.killable;
  root = unwrap_or A.settings.root (node_ref 0);
  figures = figures_of A.settings;
  tree = A.tree.lines;
  broker = A.broker;
  map = in_force A.map;
  filters = A.filters.closed;
  programs = A.programs.bodies;
  schedule = A.schedule.lines;
}

-- and with it the lines of a schedule that has a worker's request
abbrev pub file_of : Above → ScriptFile
file_of A = record { script = script_of A; turns = A.schedule.turns }

-- ---- the end of the file

-- a block that isn't closed, at the line that opened it, and then a script without programs
abbrev pub file_at_end : Above → Result ScriptFile ScriptError
file_at_end A =
    if in_block A.section then Err (refused.BadLine A.opened reason.NotClosed)
    else (if has_items A.programs.bodies then Ok (file_of A) else Err (refused.BadLine 0 reason.NoProgram))

-- ---- the lines

abbrev pub refusal : ℕ → Fault → ScriptError
refusal n (fault.Wrong reason) = refused.BadLine n reason
refusal n fault.TooLarge = refused.TooLarge n

-- an accepted line joins those above; the first that isn't decides
abbrev pub after_line : ℕ → Result Statement Fault → List Stated → (List Stated → Result ScriptFile ScriptError)
    → Result ScriptFile ScriptError
after_line n (Ok s) older rest = rest (record { line = n; what = s } ∷ older)
after_line n (Err fault) older rest = Err (refusal n fault)

-- the lines that are left, after accepted ones
unfoldable pub reading : List Numbered → List Stated → Result ScriptFile ScriptError
reading [] older = file_at_end (above older)
reading (line ∷ lines) older = after_line line.number (line_statement (above older) (tokens line.bytes)) older (reading lines)

-- what the bytes of a file state, or why it is refused
abbrev pub script_file : List ℕ → Result ScriptFile ScriptError
script_file bytes = reading (lines_after 0 bytes) []

-- ---- the script alone

abbrev pub script_in : Result ScriptFile ScriptError → Result Script ScriptError
script_in (Ok file) = Ok file.script
script_in (Err error) = Err error

-- the script that the bytes of a file state, or why it is refused
abbrev pub script : List ℕ → Result Script ScriptError
script bytes = script_in (script_file bytes)
