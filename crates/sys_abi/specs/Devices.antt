use Rattle.std.specs.Prelude.{ℕ, ◌+◌, ◌*◌, ◌/◌, ◌%◌}

-- a device number (makedev(3)): the low 8 bits of the minor number, the 12 of the major, then the high 12 of the minor
abbrev pub device_number : ℕ → ℕ → ℕ
device_number major minor = minor % 256 + major * 256 + minor / 256 * 1048576

-- the kind of driver that a device number names
abbrev pub major_of : ℕ → ℕ
major_of dev = dev / 256 % 4096

-- the device of that driver that a device number names
abbrev pub minor_of : ℕ → ℕ
minor_of dev = dev % 256 + dev / 1048576 * 256
