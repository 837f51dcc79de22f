-- What every script keeps: the ranges, limits and references of its settings, its programs and its schedule. Each test computes.
use Rattle.std.specs.Prelude.{ℕ, ◌+◌, ◌≤◌, ◌^◌, ◌≡◌, Bool, true, false, ◌&&◌, ◌||◌, not, ◌==◌, nat_le, nat_lt, List, [], ◌∷◌, length}
use Rattle.std.specs.Prelude.{sum_by, ℤ, pos, int_le, int_lt, is_some}
use Rattle.std.specs.List.{list_all, list_any, count_by}
use Rattle.hist_model.specs.Filters.{first_fault}
use Rattle.hist_model.specs.Names.{is_child_number, is_task_name}
use Rattle.hist_model.specs.Ranges.{are_all_apart, are_mapped, is_range, pages_of}
use Rattle.hist_model.specs.Records.{ScriptRecord}
use Rattle.hist_model.specs.Totals.{are_too_many, is_exit, totals_of_all}
use Rattle.hist_model.specs.TreeLines.{are_lines, have_own_names, have_short_paths, is_stated_directory, nodes_of}
use Rattle.hist_model.specs.declared.event.Actor.{Actor}
use Rattle.hist_model.specs.declared.event.Actor.TheVariants.{Task, Worker}
use Rattle.hist_model.specs.declared.script.FilterLine.{FilterLine}
use Rattle.hist_model.specs.declared.script.Instr.{Instr}
use Rattle.hist_model.specs.declared.script.Instr.TheVariants.{Poke, Fill, Call, Spawn, Thread, Kill, Handler}
use Rattle.hist_model.specs.declared.script.MapRange.{MapRange}
use Rattle.hist_model.specs.declared.script.Step.{Step}
use Rattle.hist_model.specs.declared.script.Whom.{Whom}
use Rattle.hist_model.specs.declared.script.Whom.TheVariants.{Child, Pid}

-- ---- settings

-- no descriptor stands twice
abbrev pub are_different : List ℕ → Bool
are_different [] = true
are_different (n ∷ more) = not (list_any (λ m. m == n) more) && are_different more

-- the filter is accepted
abbrev pub is_accepted : FilterLine → Bool
is_accepted filter = not (is_some (first_fault filter.insns))

abbrev pub gives_listener : FilterLine → Bool
gives_listener filter = filter.listener

-- SECCOMP_FILTER_FLAG_WAIT_KILLABLE_RECV goes with the listener (seccomp(2))
abbrev pub has_flag_listener : Bool → List FilterLine → Bool
has_flag_listener killable filters = not killable || list_any gives_listener filters

-- ---- programs

-- SIGKILL, SIGUSR1, SIGUSR2 or SIGTERM
abbrev pub may_be_sent : ℕ → Bool
may_be_sent n = (n == 9) || (n == 10) || (n == 12) || (n == 15)

-- SIGUSR1, SIGUSR2 or SIGTERM
abbrev pub may_be_handled : ℕ → Bool
may_be_handled n = (n == 10) || (n == 12) || (n == 15)

-- 0 to 2^31 - 1
abbrev pub is_call_number : ℤ → Bool
is_call_number nr = int_le (pos 0) nr && int_lt nr (pos (2 ^ 31))

-- a child that a task may have, or a number of 32 bits
abbrev pub may_be_signalled : Whom → Bool
may_be_signalled (Child k) = is_child_number k
may_be_signalled (Pid n) = nat_lt n (2 ^ 32)
may_be_signalled _ = true

-- the numbers and texts of the instruction keep their ranges
abbrev pub is_instruction : Instr → Bool
is_instruction (Poke addr bytes) = nat_le 1 (length bytes) && nat_le (length bytes) 65536
is_instruction (Fill addr len byte) = nat_le 1 len && nat_le len 65536
is_instruction (Call nr args) = is_call_number nr
is_instruction (Kill whom sig) = may_be_signalled whom && may_be_sent sig
is_instruction (Handler sig disposition) = may_be_handled sig
is_instruction _ = true

-- every byte that the instruction stores is mapped
abbrev pub stores_mapped : List MapRange → Instr → Bool
stores_mapped map (Poke addr bytes) = are_mapped map addr (length bytes)
stores_mapped map (Fill addr len byte) = are_mapped map addr len
stores_mapped map _ = true

-- behind `exit` no instruction stands
abbrev pub is_last : List Instr → Bool
is_last [] = true
is_last (i ∷ more) = false

abbrev pub exits_last : List Instr → Bool
exits_last [] = true
exits_last (i ∷ more) = (not (is_exit i) || is_last more) && exits_last more

-- the instruction starts only programs with a place below this one
abbrev pub starts_below : ℕ → Instr → Bool
starts_below n (Spawn p) = nat_lt p n
starts_below n (Thread p) = nat_lt p n
starts_below n _ = true

-- each program, of which the first has place n, starts only earlier ones
abbrev pub start_earlier : ℕ → List (List Instr) → Bool
start_earlier n [] = true
start_earlier n (p ∷ more) = list_all (λ i. starts_below n i) p && start_earlier (n + 1) more

-- ---- the schedule

-- the actor may be scheduled: a task by its name, or a worker with a number from 0 to 15
abbrev pub can_be_scheduled : Actor → Bool
can_be_scheduled (Task name) = is_task_name name
can_be_scheduled (Worker w) = nat_lt w 16
can_be_scheduled _ = false

-- how many steps a schedule has
abbrev pub steps_of : List Step → ℕ
steps_of schedule = sum_by (λ (s : Step). s.count) schedule

-- ---- the rules

pub record IsScript (S : ScriptRecord) : Type 0 where
  -- there is a PID
  pub numbers : 1 ≤ S.pidmax
  -- PIDs are at most 4194304
  pub pids : S.pidbase + S.pidmax ≤ 4194304
  -- descriptors are installed below a number that is at most 4096
  pub rlimit : S.rlimit ≤ 4096
  -- the container's memory and swap are at most the host's
  pub memory : S.figures.memory ≤ S.figures.host_memory
  pub swap : S.figures.swap ≤ S.figures.host_swap
  -- each node lies in a directory above it and each attribute on a node above it; names, texts and devices keep their ranges
  pub tree : are_lines S.tree ≡ true
  -- no name stands twice in a directory
  pub names : have_own_names S.tree ≡ true
  -- no path to a node has more than 4095 bytes
  pub paths : have_short_paths S.tree ≡ true
  -- at most 10000 lines make the tree
  pub few_lines : length S.tree ≤ 10000
  -- the container's root is a directory of the tree, or `/`
  pub root : is_stated_directory (nodes_of S.tree) S.root ≡ true
  -- the broker's descriptors are at most 1023, stand once, and are at most 64
  pub descriptors : list_all (λ n. nat_le n 1023) S.broker ≡ true
  pub once : are_different S.broker ≡ true
  pub few_descriptors : length S.broker ≤ 64
  -- each range is one of pages that ends low enough, and is apart from the others
  pub map : list_all is_range S.map ≡ true
  pub apart : are_all_apart S.map ≡ true
  -- 1 to 64 pages are mapped
  pub some_page : 1 ≤ pages_of S.map
  pub few_pages : pages_of S.map ≤ 64
  -- each filter is accepted, and there are at most 16
  pub filters : list_all is_accepted S.filters ≡ true
  pub few_filters : length S.filters ≤ 16
  -- at most one filter has the listener, and there is one where calls wait killably
  pub listener : count_by gives_listener S.filters ≤ 1
  pub killable : has_flag_listener S.killable S.filters ≡ true
  -- there are 1 to 4096 programs
  pub some_program : 1 ≤ length S.programs
  pub few_programs : length S.programs ≤ 4096
  -- a program starts only programs that are written above it
  pub programs : start_earlier 0 S.programs ≡ true
  -- the numbers and texts of instructions keep their ranges
  pub instructions : list_all (list_all is_instruction) S.programs ≡ true
  -- what a program stores itself is mapped
  pub mapped : list_all (list_all (stores_mapped S.map)) S.programs ≡ true
  -- behind `exit` only the end stands
  pub exits : list_all exits_last S.programs ≡ true
  -- no program, with all that it starts, executes, calls, starts, stores or nests too much
  pub totals : list_all (λ t. not (are_too_many t)) (totals_of_all S.programs) ≡ true
  -- the schedule names tasks and workers alone
  pub schedule : list_all (λ (s : Step). can_be_scheduled s.who) S.schedule ≡ true
  -- each line of it is one step or more
  pub counts : list_all (λ (s : Step). nat_le 1 s.count) S.schedule ≡ true
  -- at most 200000 steps are scheduled
  pub steps : steps_of S.schedule ≤ 200000
