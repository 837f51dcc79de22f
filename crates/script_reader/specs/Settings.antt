-- The settings that are single values.
use Rattle.std.specs.Prelude.{ℕ, ◌+◌, min, false, nat_lt, Option, Some, None, is_some, unwrap_or}
use Rattle.lex_core.specs.declared.reason.Reason.TheVariants as reason
use Rattle.hist_model.specs.Sysinfo.{no_figures}
use Rattle.hist_model.specs.declared.script.Figures.{Figures}
use Rattle.script_reader.specs.declared.error.Fault.{Fault}
use Rattle.script_reader.specs.declared.settings.Limits.{Limits}
use Rattle.script_reader.specs.declared.settings.Settings.{Settings}
use Rattle.script_reader.specs.Faults.{wrong_if, or_else, duplicate}

abbrev pub no_settings : Settings
no_settings = record {
  pidmax = None;
  pidbase = None;
  firstid = None;
  rlimit = None;
  killable = false;
  root = None;
  figures = None;
  limits = None;
}

-- the PIDs from the base on, where no line states how many: 32768
abbrev pub pidmax_of : Settings → ℕ
pidmax_of settings = unwrap_or settings.pidmax 32768

-- the numbers from the base on end at most at 4194304, the greatest PID
abbrev pub pidbase_fault : Settings → ℕ → Option Fault
pidbase_fault settings n =
    or_else (wrong_if (nat_lt 4194304 (n + pidmax_of settings)) reason.OutOfRange) (duplicate (is_some settings.pidbase))

abbrev pub first_limits : ℕ → ℕ → Limits
first_limits memory swap = record { memory = memory; swap = swap; host_memory = memory; host_swap = swap }

-- the first line is the host's, and of each limit the smallest counts
abbrev pub with_group : ℕ → ℕ → Option Limits → Limits
with_group memory swap None = first_limits memory swap
with_group memory swap (Some limits) = record limits { memory = min limits.memory memory; swap = min limits.swap swap }

-- ---- what sysinfo(2) tells

abbrev pub with_limits : Figures → Limits → Figures
with_limits figures limits = record figures {
  memory = limits.memory;
  swap = limits.swap;
  host_memory = limits.host_memory;
  host_swap = limits.host_swap;
}

-- the figures of the container, those of its control groups among them
abbrev pub figures_of : Settings → Figures
figures_of settings = with_limits (unwrap_or settings.figures no_figures) (unwrap_or settings.limits (first_limits 0 0))
