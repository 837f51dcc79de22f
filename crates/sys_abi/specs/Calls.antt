use Rattle.std.specs.Prelude.{ℕ, ℤ, pos, negsuc, Option, None, List, [], ◌∷◌, codes}
use Rattle.std.specs.Option.{option_map}
use Rattle.sys_abi.specs.Names.{name_in, number_in}

-- the numbers of calls on x86-64 (syscalls(2))
abbrev pub nr_close : ℕ
nr_close = 3

abbrev pub nr_getpid : ℕ
nr_getpid = 39

abbrev pub nr_sysinfo : ℕ
nr_sysinfo = 99

abbrev pub nr_mknod : ℕ
nr_mknod = 133

abbrev pub nr_mount : ℕ
nr_mount = 165

abbrev pub nr_setxattr : ℕ
nr_setxattr = 188

abbrev pub nr_openat : ℕ
nr_openat = 257

abbrev pub nr_mknodat : ℕ
nr_mknodat = 259

-- each call that policies and programs name, by its number and its name
abbrev pub calls : List (ℕ × List ℕ)
calls =
    (nr_close, codes "close") ∷
    (nr_getpid, codes "getpid") ∷
    (nr_sysinfo, codes "sysinfo") ∷
    (nr_mknod, codes "mknod") ∷
    (nr_mount, codes "mount") ∷
    (nr_setxattr, codes "setxattr") ∷
    (nr_openat, codes "openat") ∷
    (nr_mknodat, codes "mknodat") ∷
    []

-- the name of the call with this number
abbrev pub call_name_of : ℤ → Option (List ℕ)
call_name_of (pos n) = name_in calls n
call_name_of (negsuc n) = None

-- the number of the call with this name
abbrev pub call_number_of : List ℕ → Option ℤ
call_number_of name = option_map pos (number_in calls name)
