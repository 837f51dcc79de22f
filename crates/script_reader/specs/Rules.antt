-- What lines keep, so that every script that is read keeps the rules of its type.
use Rattle.std.specs.Prelude.{◌≡◌, ℕ, ◌+◌, ◌≤◌, ◌<◌, Bool, true, false, ◌&&◌, ◌||◌, not, if◌then◌else◌, nat_le, nat_lt, List, [], length}
use Rattle.std.specs.Prelude.{◌++◌, get_or, slice_get, sum_by, Option, Some, None, unwrap_or, bytes_eq, ⊤}
use Rattle.std.specs.List.{list_all, list_any, count_by, filter_map}
use Rattle.hist_model.specs.Names.{is_task_name}
use Rattle.hist_model.specs.Ranges.{are_all_apart, is_page_address, is_range, pages_of}
use Rattle.hist_model.specs.ScriptRules.{are_different, can_be_scheduled, exits_last, gives_listener, has_flag_listener, is_accepted}
use Rattle.hist_model.specs.ScriptRules.{is_instruction, starts_below, start_earlier, steps_of, stores_mapped}
use Rattle.hist_model.specs.Totals.{are_too_many, is_exit, totals_of_all}
use Rattle.hist_model.specs.TreeLines.{are_lines, have_own_names, have_short_paths, is_node, is_stated_directory}
use Rattle.hist_model.specs.TreeLines.{is_text, makes, nodes_of, path_lengths}
use Rattle.hist_model.specs.declared.script.FilterLine.{FilterLine}
use Rattle.hist_model.specs.declared.script.Instr.{Instr}
use Rattle.hist_model.specs.declared.script.Instr.TheVariants.{Spawn, Thread}
use Rattle.hist_model.specs.declared.script.MapRange.{MapRange}
use Rattle.hist_model.specs.declared.script.Step.{Step}
use Rattle.step_requests.specs.declared.request.Turn.{Turn}
use Rattle.step_requests.specs.declared.request.Turn.TheVariants as turn
use Rattle.step_requests.specs.Turns.{AreApart}
use Rattle.script_reader.specs.declared.schedule.WorkerLines.{WorkerLines}
use Rattle.script_reader.specs.declared.settings.PathTarget.{PathTarget}
use Rattle.script_reader.specs.declared.settings.Limits.{Limits}
use Rattle.script_reader.specs.declared.statement.Statement.{Statement}
use Rattle.script_reader.specs.declared.statement.Statement.TheVariants as states
use Rattle.script_reader.specs.declared.word.Section.{Section}
use Rattle.script_reader.specs.declared.word.Section.TheVariants as section
use Rattle.script_reader.specs.Above.{Above}
use Rattle.script_reader.specs.Blocks.{FiltersState, has_listener}
use Rattle.script_reader.specs.Paths.{is_path, name_of, parent_of, root_path}
use Rattle.script_reader.specs.Programs.{ProgramsState}
use Rattle.script_reader.specs.Ranges.{in_force}
use Rattle.script_reader.specs.Schedule.{ScheduleState, are_counts, are_requests, turn_of}
use Rattle.script_reader.specs.Settings.{first_limits}
use Rattle.script_reader.specs.Tree.{TreeState, is_stated, node_at, node_ref}
use Rattle.script_reader.specs.Words.{among_settings, in_program}

-- ---- what a line states by itself

-- the instruction starts no program
abbrev pub starts_nothing : Instr → Bool
starts_nothing (Spawn place) = false
starts_nothing (Thread place) = false
starts_nothing _ = true

-- 1 to 64 pages from a page's address on
abbrev pub has_pages : MapRange → Bool
has_pages range = is_page_address range.start && nat_le 1 range.pages && nat_le range.pages 64

-- what the operands of a line showed of its statement, and where it stands: in which section, and whether below a `pidbase`
abbrev pub IsSound : Section → Bool → Statement → Type 0
IsSound p base_is_stated (states.Pidmax n) = (base_is_stated ≡ false) × (1 ≤ n) × (n ≤ 4194304)
IsSound p base_is_stated (states.Rlimit n) = n ≤ 4096
IsSound p base_is_stated (states.Node path kind) = (is_path path ≡ true) × (is_node kind ≡ true)
IsSound p base_is_stated (states.Attr path name value) = (is_text 1 255 name ≡ true) × (nat_le (length value) 4096 ≡ true)
IsSound p base_is_stated (states.Broker n) = nat_le n 1023 ≡ true
IsSound p base_is_stated (states.Map range) = (among_settings p ≡ true) × (has_pages range ≡ true)
-- at most 64 calls are named
IsSound p base_is_stated (states.Notify calls) = (among_settings p ≡ true) × (length calls ≤ 64)
IsSound p base_is_stated (states.Filter listener) = among_settings p ≡ true
-- instructions that start a program are stated by its name
IsSound p base_is_stated (states.Does i) = (in_program p ≡ true) × (starts_nothing i ≡ true) × (is_instruction i ≡ true)
IsSound p base_is_stated (states.Starts thread name) = in_program p ≡ true
IsSound p base_is_stated (states.Steps task count) = (is_task_name task ≡ true) × (nat_le 1 count ≡ true)
IsSound p base_is_stated (states.Counts worker count) = (nat_lt worker 16 ≡ true) × (nat_le 1 count ≡ true)
IsSound p base_is_stated (states.Asks worker asked) = nat_lt worker 16 ≡ true
IsSound p base_is_stated _ = ⊤

-- ---- what accepted lines come to, section by section

abbrev pub limits_or_none : Option Limits → Limits
limits_or_none limits = unwrap_or limits (first_limits 0 0)

pub record HasNumbers (count base limit : Option ℕ) (limits : Option Limits) : Type 0 where
  pub numbers : 1 ≤ unwrap_or count 32768
  pub pids : unwrap_or base 0 + unwrap_or count 32768 ≤ 4194304
  pub rlimit : unwrap_or limit 1024 ≤ 4096
  pub memory : (limits_or_none limits).memory ≤ (limits_or_none limits).host_memory
  pub swap : (limits_or_none limits).swap ≤ (limits_or_none limits).host_swap

-- what a path leads to is a node that is stated, and a directory where it is said to be one
abbrev pub is_found : List Bool → Option PathTarget → Bool
is_found nodes None = true
is_found nodes (Some found) = nat_lt found.node.ordinal (length nodes) && (not found.directory || is_stated_directory nodes found.node)

-- how many bytes a path has, without the slash where it is `/`
abbrev pub bytes_of_path : List ℕ → ℕ
bytes_of_path path = if bytes_eq path root_path then 0 else length path

-- by its ordinal, what a path leads to has a path of so many bytes
abbrev pub has_length : List ℕ → List ℕ → Option PathTarget → Type 0
has_length lengths path None = ⊤
has_length lengths path (Some found) = slice_get lengths found.node.ordinal ≡ Some (bytes_of_path path)

pub record HasTree (T : TreeState) : Type 0 where
  pub lines : are_lines T.lines ≡ true
  pub few : length T.lines ≤ 10000
  pub nodes : T.nodes ≡ length (nodes_of T.lines)
  pub found : (path : List ℕ) → is_found (nodes_of T.lines) (T.found path) ≡ true
  pub names : have_own_names T.lines ≡ true
  -- one path alone leads to a node
  pub once : (path other : List ℕ) → is_stated T path ≡ true → is_stated T other ≡ true
      → (node_at T path).ordinal ≡ (node_at T other).ordinal → path ≡ other
  -- a node that is made where a path leads is stated by that path
  pub stated : (path : List ℕ) → is_path path ≡ true → is_stated T (parent_of path) ≡ true
      → list_any (makes (node_at T (parent_of path)) (name_of path)) T.lines ≡ true → is_stated T path ≡ true
  -- the lengths of paths are those of the paths that lead to the nodes
  pub short : have_short_paths T.lines ≡ true
  pub counted : length (path_lengths T.lines) ≡ T.nodes
  pub measured : (path : List ℕ) → has_length (path_lengths T.lines) path (T.found path)

pub record HasDescriptors (broker : List ℕ) : Type 0 where
  pub range : list_all (λ n. nat_le n 1023) broker ≡ true
  pub once : are_different broker ≡ true
  pub few : length broker ≤ 64

pub record HasRanges (map : List MapRange) : Type 0 where
  pub ranges : list_all is_range map ≡ true
  pub apart : are_all_apart map ≡ true
  pub few : pages_of map ≤ 64

pub record HasFilters (closed : List FilterLine) : Type 0 where
  pub accepted : list_all is_accepted closed ≡ true
  pub few : length closed ≤ 16
  pub listener : count_by gives_listener closed ≤ 1

-- a name that stands for a place stands for one below this
abbrev pub is_placed_below : ℕ → Option ℕ → Bool
is_placed_below n None = true
is_placed_below n (Some place) = nat_lt place n

-- an instruction of a program with this many programs above it, in this map
abbrev pub is_sound_instruction : List MapRange → ℕ → Instr → Bool
is_sound_instruction map n i = starts_below n i && (is_instruction i && stores_mapped map i)

pub record HasPrograms (map : List MapRange) (P : ProgramsState) : Type 0 where
  -- the closed programs
  pub earlier : start_earlier 0 P.bodies ≡ true
  pub instructions : list_all (list_all is_instruction) P.bodies ≡ true
  pub mapped : list_all (list_all (stores_mapped map)) P.bodies ≡ true
  pub exits : list_all exits_last P.bodies ≡ true
  pub few : length P.bodies ≤ 4096
  -- what they come to
  pub counted : P.totals ≡ totals_of_all P.bodies
  pub totals : list_all (λ t. not (are_too_many t)) P.totals ≡ true
  -- the program that is open
  pub current : list_all (is_sound_instruction map (length P.bodies)) P.body ≡ true
  -- each name stands for a closed program
  pub named : (name : List ℕ) → is_placed_below (length P.bodies) (P.place name) ≡ true

-- a task or a worker steps once at least, and a worker's number is one of 0 to 15
abbrev pub is_turn : Turn → Bool
is_turn (turn.Steps task count) = is_task_name task && nat_le 1 count
is_turn (turn.Serves worker count) = nat_lt worker 16 && nat_le 1 count
is_turn (turn.Asks worker asked) = nat_lt worker 16

-- how many steps a turn is
abbrev pub turn_steps : Turn → ℕ
turn_steps (turn.Steps task count) = count
turn_steps (turn.Serves worker count) = count
turn_steps (turn.Asks worker asked) = 1

-- what the turns of a file keep: at most 200000 steps are scheduled, and a worker has counts or requests
pub record AreTurns (turns : List Turn) : Type 0 where
  pub each : list_all is_turn turns ≡ true
  pub few : sum_by turn_steps turns ≤ 200000
  pub apart : AreApart turns

-- the line is of the kind that the table has for its worker
abbrev pub is_as_others : List (Option WorkerLines) → Turn → Bool
is_as_others workers (turn.Steps task count) = true
is_as_others workers (turn.Serves worker count) = are_counts (get_or workers worker None)
is_as_others workers (turn.Asks worker asked) = are_requests (get_or workers worker None)

pub record HasSchedule (S : ScheduleState) : Type 0 where
  -- the steps of all lines are counted
  pub counted : steps_of S.lines + sum_by turn_steps S.turns ≤ S.steps
  pub few : S.steps ≤ 200000
  pub scheduled : list_all (λ (s : Step). can_be_scheduled s.who) S.lines ≡ true
  pub counts : list_all (λ (s : Step). nat_le 1 s.count) S.lines ≡ true
  pub turns : list_all is_turn S.turns ≡ true
  -- the lines of a worker are of one kind
  pub workers : length S.workers ≡ 16
  pub alike : list_all (is_as_others S.workers) (S.turns ++ filter_map turn_of S.lines) ≡ true

abbrev pub HasNoPrograms : ProgramsState → Type 0
HasNoPrograms P = (P.bodies ≡ []) × (P.body ≡ [])

-- what the section says of blocks: no program stands before the last setting, and what an open block may still state
abbrev pub FitsSection : Section → FiltersState → ProgramsState → Type 0
FitsSection section.Settings F P = HasNoPrograms P
FitsSection section.Filter F P = HasNoPrograms P × (length F.closed < 16) × ((F.listener && has_listener F) ≡ false)
FitsSection section.Program F P = (list_any is_exit P.body ≡ false) × (length P.bodies < 4096)
FitsSection section.Exited F P = (list_any is_exit P.body ≡ true) × (exits_last P.body ≡ true) × (length P.bodies < 4096)
FitsSection _ F P = ⊤

-- what lines state together keeps the rules of a script, as far as they have come
pub record IsKept (A : Above) : Type 0 where
  pub settings : HasNumbers A.settings.pidmax A.settings.pidbase A.settings.rlimit A.settings.limits
  pub tree : HasTree A.tree
  pub root : is_stated_directory (nodes_of A.tree.lines) (unwrap_or A.settings.root (node_ref 0)) ≡ true
  pub descriptors : HasDescriptors A.broker
  pub map : HasRanges A.map
  pub filters : HasFilters A.filters.closed
  pub killable : has_flag_listener A.settings.killable A.filters.closed ≡ true
  pub programs : HasPrograms (in_force A.map) A.programs
  pub schedule : HasSchedule A.schedule
  pub block : FitsSection A.section A.filters A.programs
