-- Memory of groups: a group is one address space together with one descriptor table, and is named by the place
-- of the spawn that made it (clone(2), mmap(2)).
use Rattle.std.specs.Prelude.{ℕ, zero, suc, ◌+◌, ◌-◌, ◌*◌, Bool, true, false, ◌&&◌, ◌||◌, if◌then◌else◌, ◌==◌, List, [], ◌∷◌, length}
use Rattle.std.specs.Prelude.{slice_get, Option, Some, None, Result, Ok, Err, ℤ, pos, negsuc, nat_le, nat_lt}
use Rattle.hist_model.specs.Kinds.{enters, copies}
use Rattle.hist_model.specs.Look.{Name, is_task, task_name, is_place}
use Rattle.hist_model.specs.Steps.{task_place, opened, mem, place_or, number_entered, entered}
use Rattle.hist_model.specs.Sysinfo.{host_sysinfo}
use Rattle.hist_model.specs.declared.event.Event.{Event}
use Rattle.hist_model.specs.declared.event.Actor.{Actor}
use Rattle.hist_model.specs.declared.event.Actor.TheVariants.{Task, Worker}
use Rattle.hist_model.specs.declared.event.What.{What}
use Rattle.hist_model.specs.declared.event.What.TheVariants.{Poke, Native, Plant, Skip}
use Rattle.hist_model.specs.declared.script.MapRange.{MapRange}
use Rattle.hist_model.specs.declared.script.Script.{Script}
use Rattle.sys_abi.specs.Calls.{nr_sysinfo}
use Rattle.sys_abi.specs.Errnos.{efault}

-- the address lies in one of the ranges
abbrev pub is_mapped : List MapRange → ℕ → Bool
is_mapped [] a = false
is_mapped (r ∷ more) a = (nat_le r.start a && nat_lt a (r.start + 4096 * r.pages)) || is_mapped more a

-- each of the n addresses from one on is mapped
abbrev pub all_mapped : List MapRange → ℕ → ℕ → Bool
all_mapped map a zero = true
all_mapped map a (suc n) = is_mapped map a && all_mapped map (a + 1) n

-- the bytes of the answer of sysinfo(2)
abbrev pub sysinfo_size : ℕ
sysinfo_size = 112

-- the group of the task of this name, if there is one
abbrev pub group_named : List Event → Name → Option ℕ
group_named K n = opened K (task_place K n)

-- the call that a task entered last; Skip where there is none
unfoldable pub last_call : List Event → Name → What
last_call [] n = Skip
last_call (e ∷ K) n = if is_task e.who n && enters e.what then e.what else last_call K n

abbrev pub is_number : ℤ → ℕ → Bool
is_number (pos m) n = m == n
is_number (negsuc m) n = false

abbrev pub number_or_zero : Option ℕ → ℕ
number_or_zero (Some n) = n
number_or_zero None = 0

-- an argument of a call; 0 where there is none
abbrev pub argument : What → ℕ → ℕ
argument call i = number_or_zero (slice_get (entered call) i)

-- what a native call stores, and where: sysinfo alone stores anything
abbrev pub stored_by_call : Script → What → Option (ℕ × List ℕ)
stored_by_call S call = if is_number (number_entered call) nr_sysinfo then Some (argument call 0, host_sysinfo S.figures) else None

-- what the event stores, and where
abbrev pub stored : Script → List Event → Actor → What → Option (ℕ × List ℕ)
stored S K a (Poke addr bytes) = Some (addr, bytes)
stored S K a (Plant addr bytes cap (Ok u)) = Some (addr, bytes)
stored S K a (Native (Ok n)) = stored_by_call S (last_call K (task_name a))
stored S K a _ = None

-- in whose memory the actor stores: its own group's, or that which the worker has opened
abbrev pub storing_group : List Event → Actor → Option ℕ
storing_group K (Task n) = group_named K n
storing_group K (Worker w) = mem K w
storing_group K _ = None

-- the byte that bytes stored somewhere leave at an address
abbrev pub byte_stored : Option (ℕ × List ℕ) → ℕ → Option ℕ
byte_stored None a = None
byte_stored (Some s) a = if nat_le s.0 a then slice_get s.1 (a - s.0) else None

abbrev pub written_to : List Event → Actor → ℕ → Option ℕ → Option ℕ
written_to K who m None = None
written_to K who m (Some b) = if is_place (storing_group K who) m then Some b else None

-- the byte that the event leaves at an address of a group, if it writes one
abbrev pub written : Script → List Event → Event → ℕ → ℕ → Option ℕ
written S K e m a = written_to K e.who m (byte_stored (stored S K e.who e.what) a)

-- the group of the task that takes the step
abbrev pub own_group : List Event → Actor → ℕ
own_group K a = place_or (group_named K (task_name a))

abbrev pub byte_or : Option ℕ → ℕ → ℕ
byte_or (Some b) c = b
byte_or None c = c

-- the byte at an address of a group's memory: what the last event wrote there; a copied group begins with its parent's, a new one with 0
unfoldable pub byte : Script → List Event → ℕ → ℕ → ℕ
byte S [] m a = 0
byte S (e ∷ K) m a =
    if m == length K then (if copies e.what then byte S K (own_group K e.who) a else 0)
    else byte_or (written S K e m a) (byte S K m a)

-- the byte at an address of a group's memory, where it is mapped
abbrev pub mapped_byte : Script → List Event → ℕ → ℕ → Option ℕ
mapped_byte S K m a = if is_mapped S.map a then Some (byte S K m a) else None

-- the bytes from an address on, up to the first that isn't mapped, and at most n
unfoldable pub mapped_bytes : Script → List Event → ℕ → ℕ → ℕ → List ℕ
mapped_bytes S K m a zero = []
mapped_bytes S K m a (suc n) = if is_mapped S.map a then byte S K m a ∷ mapped_bytes S K m (a + 1) n else []

-- the answer of a read of n bytes: EFAULT where the first isn't mapped
abbrev pub bytes_read : Script → List Event → ℕ → ℕ → ℕ → Result (List ℕ) ℕ
bytes_read S K m a n = if is_mapped S.map a then Ok (mapped_bytes S K m a n) else Err efault
