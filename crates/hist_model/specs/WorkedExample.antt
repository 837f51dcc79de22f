-- One policy and one script that the worked examples play: a device node is made.
use Rattle.std.specs.Prelude.{ℕ, true, false, List, [], ◌∷◌, ◌++◌, codes, pos}
use Rattle.hist_model.specs.Decisions.{lxd_mknod_rules, default_rules}
use Rattle.hist_model.specs.Filters.{notify_filter}
use Rattle.hist_model.specs.Sysinfo.{no_figures}
use Rattle.hist_model.specs.declared.event.Actor.TheVariants.{Task, Worker}
use Rattle.hist_model.specs.declared.policy.Policy.{Policy}
use Rattle.hist_model.specs.declared.policy.Profile.TheVariants.{Plain}
use Rattle.hist_model.specs.declared.script.Instr.TheVariants.{Poke, Call}
use Rattle.hist_model.specs.declared.script.Script.{Script}
use Rattle.hist_model.specs.declared.script.Step.{Step}
use Rattle.sys_abi.specs.Calls.{nr_mknod}

-- the policy whose one switch is mknod: the devices that a container may make, and the defaults
abbrev pub mknod_policy : Policy
mknod_policy = record { rules = lxd_mknod_rules Plain ++ default_rules }

-- the arguments of the call: where the path stands, the mode of a character device with 0666, and the device
abbrev pub mknod_args : ℕ → List ℕ
mknod_args dev = 65536 ∷ 8630 ∷ dev ∷ 0 ∷ 0 ∷ 0 ∷ []

-- a script with one program that stores a path and makes a device node there, and with a schedule; its settings are the defaults
abbrev pub script_making : List ℕ → ℕ → List Step → Script
script_making path dev schedule = record {
  pidbase = 0;
  pidmax = 32768;
  firstid = 1;
  rlimit = 1024;
  killable = false;
  root = record { ordinal = 0 };
  figures = no_figures;
  tree = [];
  broker = [];
  map = record { start = 65536; pages = 16 } ∷ [];
  filters = record { insns = notify_filter (pos nr_mknod ∷ []); listener = true } ∷ [];
  programs = (Poke 65536 (path ++ 0 ∷ []) ∷ Call (pos nr_mknod) (mknod_args dev) ∷ []) ∷ [];
  schedule = schedule;
}

-- the task steps, then the worker, then the task
abbrev pub three_turns : ℕ → ℕ → ℕ → List Step
three_turns a b c =
    record { who = Task (0 ∷ []); count = a } ∷ record { who = Worker 0; count = b } ∷ record { who = Task (0 ∷ []); count = c } ∷ []

-- the script that makes /null, in the order in which the node is made and the call returns
abbrev pub mknod_script : Script
mknod_script = script_making (codes "/null") 259 (three_turns 2 9 2)
