-- Worked examples of requests, decisions and the figures of sysinfo, computed by the definitions.
-- By `refl`: both sides of each equation compute to the same value.
use Rattle.std.proofs.Common.{◌≡◌, ℕ, true, false, List, [], ◌∷◌, ◌++◌, Some, None, refl}
use Rattle.std.specs.Prelude.{ℤ, pos, negsuc, codes, replicate, map}
use Rattle.std.specs.Fmt.{digits}
use Rattle.sys_abi.specs.Wire.{sysinfo_bytes}
use Rattle.hist_model.specs.Requests.{request, base_dirfd, kind_of, major_of, minor_of, granted}
use Rattle.hist_model.specs.Decisions.{Switches, fits, decide, decide_from, rule_name, cap_of, lies_under, lxd_mknod_rules, lxd_mount_rules, default_rules, all_rules, plain_rule}
use Rattle.hist_model.specs.ReportWords.{program_text}
use Rattle.hist_model.specs.Sysinfo.{container_sysinfo, host_sysinfo}
use Rattle.hist_model.specs.declared.policy.Calls.TheVariants.{Named}
use Rattle.hist_model.specs.declared.policy.Cond.TheVariants.{Dev}
use Rattle.hist_model.specs.declared.policy.Profile.TheVariants.{Plain, Lxd}
use Rattle.hist_model.specs.declared.policy.Rule.{Rule}
use Rattle.hist_model.specs.declared.policy.Verdict.TheVariants.{Grant, Deny, Pass}
use Rattle.hist_model.specs.declared.request.Kind.TheVariants.{Reg, Chr, Blk, Fifo, Sock, Dir, Bad}
use Rattle.hist_model.specs.declared.request.Request.{Request}
use Rattle.hist_model.specs.declared.request.Request.TheVariants.{Mknod, Mount, SetXattr, OpenAt, Sysinfo, Other}
use Rattle.hist_model.specs.declared.script.Figures.{Figures}

-- ---- Requests

null_args : List ℕ
null_args = 65536 ∷ 8630 ∷ 259 ∷ 0 ∷ 0 ∷ 0 ∷ []

-- mknod of /null, a character device 1:3
mknod_null : request (pos 133) null_args (codes "/null" ∷ []) ≡ Mknod None (codes "/null") 8630 259
unfolding request null_args
mknod_null = refl

-- the bits above the low 16 of the mode are dropped; those of the device stay in the request
mknod_low : request (pos 133) (65536 ∷ 74166 ∷ 4294967555 ∷ 0 ∷ 0 ∷ 0 ∷ []) (codes "/null" ∷ []) ≡ Mknod None (codes "/null") 8630 4294967555
unfolding request
mknod_low = refl

-- -100, as a register of 32 and of 64 bits has it
mknodat_null : request (pos 259) (4294967196 ∷ 65536 ∷ 8630 ∷ 259 ∷ 0 ∷ 0 ∷ []) (codes "null" ∷ []) ≡ Mknod (Some (negsuc 99)) (codes "null") 8630 259
unfolding request
mknodat_null = refl

base_mknodat : base_dirfd (pos 259) (18446744073709551516 ∷ 65536 ∷ 8630 ∷ 259 ∷ 0 ∷ 0 ∷ []) ≡ Some (negsuc 99)
unfolding base_dirfd
base_mknodat = refl

base_openat : base_dirfd (pos 257) (5 ∷ []) ≡ Some (pos 5)
unfolding base_dirfd
base_openat = refl

base_setxattr : base_dirfd (pos 188) (5 ∷ []) ≡ Some (negsuc 99)
unfolding base_dirfd
base_setxattr = refl

base_sysinfo : base_dirfd (pos 99) (5 ∷ []) ≡ None
unfolding base_dirfd
base_sysinfo = refl

mount_ext4 : request (pos 165) (1 ∷ 2 ∷ 3 ∷ 4 ∷ 5 ∷ 6 ∷ []) (codes "/dev/sda1" ∷ codes "/mnt" ∷ codes "ext4" ∷ codes "ro" ∷ []) ≡ Mount (codes "/dev/sda1") (codes "/mnt") (codes "ext4") (codes "ro") [] 4 false
unfolding request
mount_ext4 = refl

set_opaque : request (pos 188) (1 ∷ 2 ∷ 3 ∷ 1 ∷ 4294967297 ∷ 6 ∷ []) (codes "/d" ∷ codes "trusted.overlay.opaque" ∷ codes "y" ∷ []) ≡ SetXattr (codes "/d") (codes "trusted.overlay.opaque") (codes "y") 1
unfolding request
set_opaque = refl

open_data : request (pos 257) (5 ∷ 2 ∷ 524288 ∷ 0 ∷ 0 ∷ 0 ∷ []) (codes "/data" ∷ []) ≡ OpenAt (pos 5) (codes "/data") 524288
unfolding request
open_data = refl

ask_sysinfo : request (pos 99) (69632 ∷ 0 ∷ 0 ∷ 0 ∷ 0 ∷ 0 ∷ []) [] ≡ Sysinfo 69632
unfolding request
ask_sysinfo = refl

negative_call : request (negsuc 0) [] [] ≡ Other (negsuc 0)
unfolding request
negative_call = refl

-- the kinds of regular files, character and block devices, pipes, sockets and directories, and of a mode without one
kinds : map kind_of (0o666 ∷ 0o100666 ∷ 0o020666 ∷ 0o060666 ∷ 0o010666 ∷ 0o140666 ∷ 0o040777 ∷ 0o120777 ∷ []) ≡ Reg ∷ Reg ∷ Chr ∷ Blk ∷ Fifo ∷ Sock ∷ Dir ∷ Bad ∷ []
kinds = refl

-- 1:3, 5:0, 4095:1048575, and 8:4097, whose minor number has bits above the low eight
majors : map major_of (259 ∷ 1280 ∷ 4294967295 ∷ 16779265 ∷ []) ≡ 1 ∷ 5 ∷ 4095 ∷ 8 ∷ []
majors = refl

minors : map minor_of (259 ∷ 1280 ∷ 4294967295 ∷ 16779265 ∷ []) ≡ 3 ∷ 0 ∷ 1048575 ∷ 4097 ∷ []
minors = refl

-- ---- Decisions

mknod_policy : List Rule
mknod_policy = lxd_mknod_rules Plain ++ default_rules

mknod : ℕ → ℕ → Request
mknod mode dev = Mknod None (codes "/d") mode dev

-- 1:3 is granted by the fourth rule, and so is mknodat
grants_null : decide mknod_policy (mknod 8630 259) ≡ (3, Grant)
unfolding decide decide_from fits mknod_policy mknod
grants_null = refl

grants_null_at : decide mknod_policy (Mknod (Some (pos 7)) (codes "/d") 8630 259) ≡ (3, Grant)
unfolding decide decide_from fits mknod_policy
grants_null_at = refl

-- 1:1 is memory, and passes by the default of its call
passes_memory : decide mknod_policy (mknod 8630 257) ≡ (11, Pass)
unfolding decide decide_from fits mknod_policy mknod
passes_memory = refl

-- a block device 1:3 isn't the character device
passes_block : decide mknod_policy (mknod 25014 259) ≡ (11, Pass)
unfolding decide decide_from fits mknod_policy mknod
passes_block = refl

passes_other : decide mknod_policy (Other (pos 60)) ≡ (16, Pass)
unfolding decide decide_from fits mknod_policy
passes_other = refl

names : map (rule_name mknod_policy) (0 ∷ 1 ∷ 2 ∷ 3 ∷ 4 ∷ 5 ∷ 6 ∷ 7 ∷ 8 ∷ 11 ∷ 15 ∷ 16 ∷ 17 ∷ [])
    ≡ codes "lxd.mknod.0:0" ∷ codes "lxd.mknod.5:1" ∷ codes "lxd.mknod.1:7" ∷ codes "lxd.mknod.1:3" ∷ codes "lxd.mknod.1:8" ∷ codes "lxd.mknod.5:0" ∷ codes "lxd.mknod.1:9" ∷ codes "lxd.mknod.1:5"
    ∷ codes "default.close" ∷ codes "default.mknod" ∷ codes "default.mknodat" ∷ codes "default.other" ∷ [] ∷ []
unfolding mknod_policy digits
names = refl

-- below /dev: not /dev itself, nor what only begins alike, nor a path that goes up; `..a` is a name
below : map (λ p. lies_under (Some p) (codes "/dev")) (codes "/dev/null" ∷ codes "/dev/" ∷ codes "/dev" ∷ codes "/device" ∷ codes "dev/null" ∷ codes "/dev/../x" ∷ codes "/dev/x/.." ∷ codes "/dev/..a/a.." ∷ codes "/dev/./..." ∷ [])
    ≡ true ∷ true ∷ false ∷ false ∷ false ∷ false ∷ false ∷ true ∷ true ∷ []
below = refl

boot : Switches
boot = record { profile = Plain; mknod = true; mount = true; shift = true; setxattr = true; sysinfo = true; fuse = (codes "ext4", codes "fuse2fs") ∷ []; allowed = codes "ext4" ∷ codes "xfs" ∷ [] }

-- an own rule comes first, then those of the switches; of a type in both lists the program's rule comes first
deny_memory : Rule
deny_memory = plain_rule (codes "no-mem") (Named (pos 133 ∷ [])) (Dev 1 1 ∷ []) (Deny 1)

boot_policy : List Rule
boot_policy = all_rules (deny_memory ∷ []) boot

mount : List ℕ → ℕ → Request
mount fstype flags = Mount (codes "/dev/sda1") (codes "/mnt") fstype [] [] flags false

ext4 : ℕ → Request
ext4 flags = mount (codes "ext4") flags

boot_decides : map (decide boot_policy) (mknod 8630 257 ∷ mknod 8630 259 ∷ ext4 0 ∷ ext4 4096 ∷ SetXattr (codes "/d") (codes "trusted.overlay.opaque") [] 0 ∷ SetXattr (codes "/d") (codes "user.a") [] 0 ∷ Sysinfo 0 ∷ [])
    ≡ (0, Deny 1) ∷ (4, Grant) ∷ (9, Grant) ∷ (18, Pass) ∷ (12, Grant) ∷ (19, Pass) ∷ (13, Grant) ∷ []
unfolding decide decide_from fits boot boot_policy deny_memory mknod mount ext4
boot_decides = refl

boot_names : map (rule_name boot_policy) (0 ∷ 9 ∷ 10 ∷ 11 ∷ 12 ∷ 13 ∷ []) ≡ codes "no-mem" ∷ codes "lxd.mount.fuse.ext4" ∷ codes "lxd.mount.ext4" ∷ codes "lxd.mount.xfs" ∷ codes "lxd.setxattr.opaque" ∷ codes "lxd.sysinfo" ∷ []
unfolding boot boot_policy deny_memory
boot_names = refl

-- LXD grants no node from the directory of a descriptor, and none whose device number has a bit above the 32nd; with the flag
-- PRIVATE the kernel mounts nothing, and the value n isn't the mark; a program mounts with each flag, and the magic number of old
-- programs is no flag
opaque : List ℕ → Request
opaque value = SetXattr (codes "/d") (codes "trusted.overlay.opaque") value 0

null_from : ℤ → Request
null_from fd = Mknod (Some fd) (codes "/d") 8630 259

differing : List Request
differing = null_from (pos 3) ∷ mknod 8630 4294967555 ∷ mount (codes "xfs") 262144 ∷ opaque (codes "n") ∷ []

alike : List Request
alike = null_from (negsuc 99) ∷ mknod 8630 259 ∷ ext4 262144 ∷ ext4 3236757505 ∷ opaque (codes "y") ∷ Sysinfo 0 ∷ []

boot_grants : map (decide boot_policy) (differing ++ alike) ≡ (4, Grant) ∷ (4, Grant) ∷ (11, Grant) ∷ (12, Grant) ∷ (4, Grant) ∷ (4, Grant) ∷ (9, Grant) ∷ (9, Grant) ∷ (12, Grant) ∷ (13, Grant) ∷ []
unfolding decide decide_from fits boot boot_policy deny_memory mknod mount ext4 opaque null_from differing alike
boot_grants = refl

lxd_policy : List Rule
lxd_policy = all_rules (deny_memory ∷ []) (record boot { profile = Lxd })

lxd_grants : map (decide lxd_policy) (differing ++ alike) ≡ (15, Pass) ∷ (14, Pass) ∷ (20, Pass) ∷ (24, Pass) ∷ (4, Grant) ∷ (4, Grant) ∷ (9, Grant) ∷ (9, Grant) ∷ (12, Grant) ∷ (13, Grant) ∷ []
unfolding decide decide_from fits boot lxd_policy deny_memory mknod mount ext4 opaque null_from differing alike
lxd_grants = refl

-- what LXD passes has a reason's name; other calls have their defaults
reason_of : Request → List ℕ
reason_of q = rule_name lxd_policy (decide lxd_policy q).0

device_reasons : map reason_of (mknod 8630 267 ∷ mknod 25014 259 ∷ mknod 4534 0 ∷ null_from (pos 3) ∷ Mknod (Some (negsuc 99)) (codes "/d") 8630 267 ∷ [])
    ≡ codes "lxd.mknod.not-a-known-device" ∷ codes "lxd.mknod.not-a-known-device" ∷ codes "lxd.mknod.not-a-known-device" ∷ codes "lxd.mknodat.directory-descriptor" ∷ codes "lxd.mknod.not-a-known-device" ∷ []
unfolding decide decide_from fits boot lxd_policy deny_memory mknod null_from reason_of
device_reasons = refl

mount_reasons : map reason_of (ext4 32 ∷ ext4 4096 ∷ ext4 8192 ∷ mount (codes "xfs") 131072 ∷ mount (codes "xfs") 262144 ∷ mount (codes "xfs") 524288 ∷ mount (codes "xfs") 1048576 ∷ mount (codes "btrfs") 0 ∷ mount [] 4096 ∷ [])
    ≡ codes "lxd.mount.remount" ∷ codes "lxd.mount.bind" ∷ codes "lxd.mount.move" ∷ codes "lxd.mount.propagation" ∷ codes "lxd.mount.propagation" ∷ codes "lxd.mount.propagation" ∷ codes "lxd.mount.propagation" ∷ codes "lxd.mount.type" ∷ codes "lxd.mount.bind" ∷ []
unfolding decide decide_from fits boot lxd_policy deny_memory mount ext4 reason_of
mount_reasons = refl

other_reasons : map reason_of (opaque (codes "n") ∷ SetXattr (codes "/d") (codes "user.a") [] 0 ∷ OpenAt (negsuc 99) (codes "/d") 0 ∷ Other (pos 60) ∷ [])
    ≡ codes "lxd.setxattr.value" ∷ codes "lxd.setxattr.name" ∷ codes "default.openat" ∷ codes "default.other" ∷ []
unfolding decide decide_from fits boot lxd_policy deny_memory opaque reason_of
other_reasons = refl

-- types as they stand, in names of rules as reports write them: a program mounts any of them, and the kernel those that are names;
-- what the empty program serves is the kernel's
odd : Switches
odd = record boot { profile = Lxd; fuse = (codes "tmpfs ", codes "P") ∷ ([], codes "p") ∷ (codes "NTFS", []) ∷ (codes "tmpfs", []) ∷ []; allowed = codes "EXT4" ∷ codes "xfs" ∷ [] }

odd_names : map (λ (rule : Rule). rule.name) (lxd_mount_rules odd) ≡ codes "lxd.mount.fuse.tmpfs\\x20" ∷ codes "lxd.mount.fuse." ∷ codes "lxd.mount.tmpfs" ∷ codes "lxd.mount.xfs" ∷ []
unfolding boot odd
odd_names = refl

odd_programs : map (λ (rule : Rule). rule.via) (lxd_mount_rules odd) ≡ codes "P" ∷ codes "p" ∷ [] ∷ [] ∷ []
unfolding boot odd
odd_programs = refl

programs : map program_text ([] ∷ codes "-" ∷ codes "fuse-2.fs" ∷ codes "/bin/P" ∷ (97 ∷ 10 ∷ 255 ∷ []) ∷ [])
    ≡ codes "-" ∷ codes "\\x2d" ∷ codes "fuse-2.fs" ∷ codes "\\x2fbin\\x2f\\x50" ∷ codes "a\\x0a\\xff" ∷ []
programs = refl

once : Rule
once = record { name = codes "one"; calls = Named (pos 133 ∷ []); conds = Dev 1 3 ∷ []; verdict = Grant; via = codes "fuse2fs"; shift = true; times = Some 1 }

caps : map (cap_of (deny_memory ∷ once ∷ [])) (0 ∷ 1 ∷ 2 ∷ []) ≡ None ∷ Some (record { rule = 1; times = 1 }) ∷ None ∷ []
unfolding deny_memory once
caps = refl

grants_by_program : granted once (ext4 1) ≡ Mount (codes "/dev/sda1") (codes "/mnt") (codes "ext4") [] (codes "fuse2fs") 1 true
unfolding once mount ext4
grants_by_program = refl

grants_as_asked : granted once (mknod 8630 259) ≡ mknod 8630 259
unfolding once mknod
grants_as_asked = refl

-- ---- Figures

figures : Figures
figures = record { uptime = 60; used = 150000; shared = 10; buffers = 20; swap_used = 100000; memory = 400000; swap = 500000; host_memory = 1000000; host_swap = 500000; procs = 7 }

container : container_sysinfo figures
    ≡ 60 ∷ replicate 31 0 ++ 0x80 ∷ 0x1a ∷ 6 ∷ replicate 5 0 ++ 0x90 ∷ 0xd0 ∷ 3 ∷ replicate 5 0 ++ 10 ∷ replicate 7 0 ++ 20 ∷ replicate 7 0
    ++ 0x20 ∷ 0xa1 ∷ 7 ∷ replicate 5 0 ++ 0x80 ∷ 0x1a ∷ 6 ∷ replicate 5 0 ++ 7 ∷ replicate 23 0 ++ 1 ∷ replicate 7 0
unfolding container_sysinfo sysinfo_bytes figures
container = refl

host : host_sysinfo figures
    ≡ 60 ∷ replicate 31 0 ++ 0x40 ∷ 0x42 ∷ 0x0f ∷ replicate 5 0 ++ 0x50 ∷ 0xf8 ∷ 0x0c ∷ replicate 5 0 ++ 10 ∷ replicate 7 0 ++ 20 ∷ replicate 7 0
    ++ 0x20 ∷ 0xa1 ∷ 7 ∷ replicate 5 0 ++ 0x80 ∷ 0x1a ∷ 6 ∷ replicate 5 0 ++ 7 ∷ replicate 23 0 ++ 1 ∷ replicate 7 0
unfolding host_sysinfo sysinfo_bytes figures
host = refl

-- more is used than there is: nothing is free
spent : container_sysinfo (record figures { memory = 100 }) ≡ 60 ∷ replicate 31 0 ++ 100 ∷ replicate 15 0 ++ 10 ∷ replicate 7 0 ++ 20 ∷ replicate 7 0
    ++ 0x20 ∷ 0xa1 ∷ 7 ∷ replicate 5 0 ++ 0x80 ∷ 0x1a ∷ 6 ∷ replicate 5 0 ++ 7 ∷ replicate 23 0 ++ 1 ∷ replicate 7 0
unfolding container_sysinfo sysinfo_bytes figures
spent = refl
