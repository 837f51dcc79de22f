-- Nodes, as modes with device numbers, that are made of the devices that are asked for.
use Rattle.std.specs.Prelude.{ℕ, ◌+◌, Bool, ◌&&◌, ◌==◌, not, List, [], ◌∷◌, ◌++◌, Option, Some, None, if◌then◌else◌, nat_lt, map}
use Rattle.std.specs.List.{filter_map, flat_map, list_any}
use Rattle.std.specs.Option.{option_to_list}
use Rattle.policy_classes.specs.declared.atoms.Atom.{Atom}
use Rattle.policy_classes.specs.declared.atoms.Atom.TheVariants as atom
use Rattle.policy_classes.specs.Chosen.{once_behind}
use Rattle.policy_classes.specs.Fresh.{least}
use Rattle.sys_abi.specs.Devices.{device_number}

-- the number of a device, if one of 32 bits stands for it: a major number has 12 of these, and a minor number 20
abbrev pub number_of : ℕ → ℕ → Option ℕ
number_of major minor =
    if nat_lt major 4096 then (if nat_lt minor 1048576 then Some (device_number major minor) else None) else None

abbrev pub device_asked : Atom → Option ℕ
device_asked (atom.Dev major minor) = number_of major minor
device_asked _ = None

-- the numbers of the devices that atoms ask for, each once
abbrev pub devices_asked : List Atom → List ℕ
devices_asked atoms = once_behind (λ m n. m == n) [] (filter_map device_asked atoms)

-- the least number for which no atom asks is 0, or next to one for which an atom asks
abbrev pub is_fresh_device : List ℕ → ℕ → Bool
is_fresh_device asked n = nat_lt n 4294967296 && not (list_any (λ m. n == m) asked)

abbrev pub fresh_device : List ℕ → Option ℕ
fresh_device asked = least nat_lt (is_fresh_device asked) None (0 ∷ map (λ n. n + 1) asked)

-- nodes of a mode with each of these device numbers, with and without a bit above the 32nd
abbrev pub nodes_for : ℕ → List ℕ → List (ℕ × ℕ)
nodes_for mode devices = flat_map (λ dev. (mode, dev) ∷ (mode, dev + 4294967296) ∷ []) devices

-- the least modes of the kinds that have no devices, reg, fifo, dir, bad and sock, and of those that have, chr and blk
abbrev pub plain_modes : List ℕ
plain_modes = 0 ∷ 4096 ∷ 16384 ∷ 12288 ∷ 49152 ∷ []

abbrev pub device_modes : List ℕ
device_modes = 8192 ∷ 24576 ∷ []

-- nodes of each kind: where the kind has no devices with the least device number, and else with each of these
abbrev pub nodes_of : List ℕ → List (ℕ × ℕ)
nodes_of devices =
    flat_map (λ mode. nodes_for mode (0 ∷ [])) plain_modes ++ flat_map (λ mode. nodes_for mode devices) device_modes

-- those of the devices that atoms ask for, and of the least other one
abbrev pub node_values : List Atom → List (ℕ × ℕ)
node_values atoms = nodes_of (devices_asked atoms ++ option_to_list (fresh_device (devices_asked atoms)))
