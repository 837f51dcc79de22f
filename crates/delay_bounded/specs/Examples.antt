-- The explored histories of a small script, written out: each by its schedule, the newest line first.
use Rattle.std.specs.Prelude.{◌≡◌, ℕ, true, false, [], ◌∷◌, map, pos}
use Rattle.hist_model.specs.Decisions.{default_rules}
use Rattle.hist_model.specs.Filters.{notify_filter}
use Rattle.hist_model.specs.Sysinfo.{no_figures}
use Rattle.hist_model.specs.declared.event.Actor.TheVariants.{Task, Worker}
use Rattle.hist_model.specs.declared.policy.Policy.{Policy}
use Rattle.hist_model.specs.declared.script.Instr.TheVariants.{Call, Spawn}
use Rattle.hist_model.specs.declared.script.Script.{Script}
use Rattle.hist_model.specs.declared.script.Step.{Step}
use Rattle.sys_abi.specs.Calls.{nr_getpid}
use Rattle.delay_bounded.specs.Explored.{explored}
use Rattle.delay_bounded.specs.Schedules.{schedule_of}

-- a policy that passes each call, and a script of two tasks, each of which asks for its PID, which is notified
unfoldable pub passing : Policy
passing = record { rules = default_rules }

unfoldable pub two_tasks : Script
two_tasks = record {
  pidbase = 0;
  pidmax = 32768;
  firstid = 1;
  rlimit = 1024;
  killable = false;
  root = record { ordinal = 0 };
  figures = no_figures;
  tree = [];
  broker = [];
  map = record { start = 65536; pages = 16 } ∷ [];
  filters = record { insns = notify_filter (pos nr_getpid ∷ []); listener = true } ∷ [];
  programs =
      (Call (pos nr_getpid) (0 ∷ 0 ∷ 0 ∷ 0 ∷ 0 ∷ 0 ∷ []) ∷ []) ∷ (Spawn 0 ∷ Call (pos nr_getpid) (0 ∷ 0 ∷ 0 ∷ 0 ∷ 0 ∷ 0 ∷ []) ∷ []) ∷ [];
  schedule = [];
}

-- the lines of a schedule
abbrev pub first : ℕ → Step
first n = record { who = Task (0 ∷ []); count = n }

abbrev pub second : ℕ → Step
second n = record { who = Task (0 ∷ 1 ∷ []); count = n }

abbrev pub worker : ℕ → Step
worker n = record { who = Worker 0; count = n }

-- without delays each goes on as long as it can: the first task calls, then the second one, the worker serves both, and they return
abbrev pub WithoutDelays : Type 0
WithoutDelays = map schedule_of (explored passing two_tasks 0 0) ≡ (second 3 ∷ first 3 ∷ worker 12 ∷ second 1 ∷ first 2 ∷ []) ∷ []

-- with a delay: of the first task on its return, of the worker once the first answer was sent, of the second task before its call,
-- and of the first before its own
abbrev pub WithOneDelay : Type 0
WithOneDelay = map schedule_of (explored passing two_tasks 0 1) ≡
    (second 3 ∷ first 3 ∷ worker 12 ∷ second 1 ∷ first 2 ∷ [])
    ∷ (first 1 ∷ second 3 ∷ first 2 ∷ worker 12 ∷ second 1 ∷ first 2 ∷ [])
    ∷ (first 2 ∷ second 3 ∷ first 1 ∷ worker 12 ∷ second 1 ∷ first 2 ∷ [])
    ∷ (first 3 ∷ second 3 ∷ worker 12 ∷ second 1 ∷ first 2 ∷ [])
    ∷ (worker 1 ∷ second 3 ∷ first 3 ∷ worker 11 ∷ second 1 ∷ first 2 ∷ [])
    ∷ (second 3 ∷ worker 2 ∷ first 3 ∷ worker 10 ∷ second 1 ∷ first 2 ∷ [])
    ∷ (second 3 ∷ worker 3 ∷ first 3 ∷ worker 9 ∷ second 1 ∷ first 2 ∷ [])
    ∷ (second 3 ∷ worker 4 ∷ first 3 ∷ worker 8 ∷ second 1 ∷ first 2 ∷ [])
    ∷ (second 3 ∷ worker 5 ∷ first 3 ∷ worker 7 ∷ second 1 ∷ first 2 ∷ [])
    ∷ (second 3 ∷ worker 6 ∷ first 3 ∷ worker 6 ∷ second 1 ∷ first 2 ∷ [])
    ∷ (second 3 ∷ worker 7 ∷ first 3 ∷ worker 5 ∷ second 1 ∷ first 2 ∷ [])
    ∷ (second 3 ∷ worker 6 ∷ second 1 ∷ first 3 ∷ worker 6 ∷ first 2 ∷ [])
    ∷ (first 3 ∷ worker 6 ∷ second 3 ∷ first 1 ∷ worker 6 ∷ second 1 ∷ first 1 ∷ [])
    ∷ []
