-- What sysinfo(2) tells.
use Rattle.std.specs.Prelude.{ℕ, ◌-◌, List, [], ◌∷◌}
use Rattle.sys_abi.specs.declared.wire.Sysinfo.{Sysinfo}
use Rattle.sys_abi.specs.Wire.{sysinfo_bytes}
use Rattle.hist_model.specs.declared.script.Figures.{Figures}

-- nothing is used, and no limit is set
abbrev pub no_figures : Figures
no_figures =
    record { uptime = 0; used = 0; shared = 0; buffers = 0; swap_used = 0; memory = 0; swap = 0; host_memory = 0; host_swap = 0; procs = 0 }

-- the structure for these totals of memory and swap: the free amounts are what isn't used of them, and not below 0;
-- the three loads, the high memory and the free high memory are 0, and the unit is one byte
abbrev pub told : Figures → ℕ → ℕ → Sysinfo
told f memory swap = record {
  uptime = f.uptime;
  loads = 0 ∷ 0 ∷ 0 ∷ [];
  totalram = memory;
  freeram = memory - f.used;
  sharedram = f.shared;
  bufferram = f.buffers;
  totalswap = swap;
  freeswap = swap - f.swap_used;
  procs = f.procs;
  totalhigh = 0;
  freehigh = 0;
  mem_unit = 1;
}

-- what a container is told: its own limits
unfoldable pub container_sysinfo : Figures → List ℕ
container_sysinfo f = sysinfo_bytes (told f f.memory f.swap)

-- what the host tells: its limits
unfoldable pub host_sysinfo : Figures → List ℕ
host_sysinfo f = sysinfo_bytes (told f f.host_memory f.host_swap)
