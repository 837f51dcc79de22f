-- The script of generated input: calls of the numbers from 0 on, each made by a task of its own, which the first task starts
-- and waits for. There are two PIDs, so each call's task has the number that the one before it had.
use Rattle.std.specs.Prelude.{ℕ, ℤ, zero, suc, ◌+◌, ◌%◌, false, if◌then◌else◌, ◌==◌, List, [], ◌∷◌, ◌++◌, pos, codes, decimal, true}
use Rattle.hist_model.specs.Filters.{notify_filter}
use Rattle.hist_model.specs.Records.{ScriptRecord}
use Rattle.hist_model.specs.Sysinfo.{no_figures}
use Rattle.hist_model.specs.declared.event.Actor.TheVariants.{Task, Worker}
use Rattle.hist_model.specs.declared.script.FilterLine.{FilterLine}
use Rattle.hist_model.specs.declared.script.Instr.{Instr}
use Rattle.hist_model.specs.declared.script.Instr.TheVariants.{Poke, Call, Spawn, Kill, Wait}
use Rattle.hist_model.specs.declared.script.MapRange.{MapRange}
use Rattle.hist_model.specs.declared.script.Step.{Step}
use Rattle.hist_model.specs.declared.script.Whom.TheVariants.{Child}
use Rattle.sys_abi.specs.Calls.{nr_mknod, nr_sysinfo}
use Rattle.generated_input.specs.declared.fate.Fate.{Fate}
use Rattle.generated_input.specs.declared.fate.Fate.TheVariants.{Granted, Denied, Passed, Informed, Killed}

-- ---- What comes of a call

abbrev pub fate_numbered : ℕ → Fate
fate_numbered c =
    if c == 0 then Granted
    else (if c == 1 then Denied
    else (if c == 2 then Passed
    else (if c == 3 then Informed
    else Killed)))

-- the fates come in turn, and the number that the input is generated from says with which they begin
abbrev pub fate_of : ℕ → ℕ → Fate
fate_of from i = fate_numbered ((from % 5 + i) % 5)

-- ---- The program of a call's task

-- the path that it makes a node at, with the zero byte that ends it
abbrev pub path_of : ℕ → List ℕ
path_of i = codes "/a" ++ (decimal i ++ 0 ∷ [])

-- where the path stands, and where the figures of sysinfo go
abbrev pub path_address : ℕ
path_address = 65536

abbrev pub figures_address : ℕ
figures_address = 69632

-- the mode of a character device with 0666, and that of a FIFO (mknod(2))
abbrev pub device_mode : ℕ
device_mode = 8630

abbrev pub fifo_mode : ℕ
fifo_mode = 4534

-- the devices 1:3 and 1:1, as mknod has them
abbrev pub null_device : ℕ
null_device = 259

abbrev pub memory_device : ℕ
memory_device = 257

abbrev pub mknod_arguments : ℕ → ℕ → List ℕ
mknod_arguments mode dev = path_address ∷ mode ∷ dev ∷ 0 ∷ 0 ∷ 0 ∷ []

-- the number of the call, and its arguments
abbrev pub number_of : Fate → ℤ
number_of Informed = pos nr_sysinfo
number_of _ = pos nr_mknod

abbrev pub arguments_of : Fate → List ℕ
arguments_of Granted = mknod_arguments device_mode null_device
arguments_of Denied = mknod_arguments device_mode memory_device
arguments_of Passed = mknod_arguments fifo_mode 0
arguments_of Informed = figures_address ∷ 0 ∷ 0 ∷ 0 ∷ 0 ∷ 0 ∷ []
arguments_of Killed = mknod_arguments device_mode null_device

abbrev pub call_of : Fate → Instr
call_of fate = Call (number_of fate) (arguments_of fate)

-- it stores the path and makes the call
abbrev pub caller : ℕ → ℕ → List Instr
caller from i = Poke path_address (path_of i) ∷ call_of (fate_of from i) ∷ []

-- ---- The first task

-- it starts the call's task, kills it where that is its fate, and waits for its end
abbrev pub starts : Fate → ℕ → List Instr
starts Killed i = Spawn i ∷ Kill (Child (i + 1)) 9 ∷ Wait ∷ []
starts _ i = Spawn i ∷ Wait ∷ []

-- ---- The schedule

-- the first task, a call's task and the worker step
abbrev pub first_steps : ℕ → Step
first_steps count = record { who = Task (0 ∷ []); count = count }

abbrev pub caller_steps : ℕ → ℕ → Step
caller_steps i count = record { who = Task (0 ∷ (i + 1) ∷ []); count = count }

abbrev pub worker_steps : ℕ → Step
worker_steps count = record { who = Worker 0; count = count }

-- the worker answers the call, in so many deeds, and its task goes on for so many steps up to its end
abbrev pub answered : ℕ → ℕ → ℕ → List Step
answered i deeds steps = first_steps 1 ∷ caller_steps i 2 ∷ worker_steps deeds ∷ caller_steps i steps ∷ first_steps 1 ∷ []

-- the worker receives the call, its task is killed and reaped, and the worker finds that out
abbrev pub interrupted : ℕ → List Step
interrupted i = first_steps 1 ∷ caller_steps i 2 ∷ worker_steps 1 ∷ first_steps 1 ∷ caller_steps i 1 ∷ first_steps 1 ∷ worker_steps 2 ∷ []

abbrev pub turns : Fate → ℕ → List Step
turns Granted i = answered i 9 2
turns Denied i = answered i 8 2
turns Passed i = answered i 8 3
turns Informed i = answered i 7 2
turns Killed i = interrupted i

-- ---- The script

-- what each of the first so many calls adds, in their order
unfoldable pub of_each : {A : Type 0} → (ℕ → List A) → ℕ → List A
of_each adds zero = []
of_each adds (suc i) = of_each adds i ++ adds i

abbrev pub callers : ℕ → ℕ → List (List Instr)
callers from count = of_each (λ i. caller from i ∷ []) count

abbrev pub first_program : ℕ → ℕ → List Instr
first_program from count = of_each (λ i. starts (fate_of from i) i) count

abbrev pub all_turns : ℕ → ℕ → List Step
all_turns from count = of_each (λ i. turns (fate_of from i) i) count

-- the first task's program stands last
abbrev pub programs_of : ℕ → ℕ → List (List Instr)
programs_of from count = callers from count ++ first_program from count ∷ []

-- at the end the first task ends
abbrev pub schedule_of : ℕ → ℕ → List Step
schedule_of from count = all_turns from count ++ first_steps 1 ∷ []

-- the filter with the listener: it notifies on mknod and sysinfo
abbrev pub listener_filter : FilterLine
listener_filter = record { insns = notify_filter (pos nr_mknod ∷ pos nr_sysinfo ∷ []); listener = true }

-- 16 pages from 65536 on
abbrev pub default_map : List MapRange
default_map = record { start = 65536; pages = 16 } ∷ []

-- all settings but the PIDs and the filter are the defaults
abbrev pub generated_script : ℕ → ℕ → ScriptRecord
generated_script from count = record {
  pidbase = 0;
  pidmax = 2;
  firstid = 1;
  rlimit = 1024;
  killable = false;
  root = record { ordinal = 0 };
  figures = no_figures;
  tree = [];
  broker = [];
  map = default_map;
  filters = listener_filter ∷ [];
  programs = programs_of from count;
  schedule = schedule_of from count;
}
