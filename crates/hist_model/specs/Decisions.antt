-- Which rule of a policy decides a request, and the rules that the interception switches make
-- (seccomp_unotify(2); LXD's "System call interception"). Conditions see the copied arguments alone, and follow no links.
use Rattle.std.specs.Prelude.{ℕ, ◌+◌, ◌%◌, Bool, true, false, ◌&&◌, not, if◌then◌else◌, ◌==◌, List, [], ◌∷◌, ◌++◌, map, Option, Some, None}
use Rattle.std.specs.Prelude.{option_map, slice_get, ℤ, pos, negsuc, bit_and, bytes_eq, nat_eq, nat_lt, codes, decimal}
use Rattle.std.specs.Ordering.{int_eq}
use Rattle.std.specs.List.{flat_map, list_any, list_all, slice_split, starts_with}
use Rattle.hist_model.specs.Paths.{is_dot_dot}
use Rattle.hist_model.specs.ReportWords.{escaped}
use Rattle.hist_model.specs.Requests.{call_of_request, granted, kind_of, low_32, major_of, minor_of}
use Rattle.hist_model.specs.ShortNames.{is_short_name}
use Rattle.hist_model.specs.declared.policy.Calls.{Calls}
use Rattle.hist_model.specs.declared.policy.Calls.TheVariants.{Named, Other as OtherCalls}
use Rattle.hist_model.specs.declared.policy.Cap.{Cap}
use Rattle.hist_model.specs.declared.policy.Cond.{Cond}
use Rattle.hist_model.specs.declared.policy.Cond.TheVariants.{Path, Under, Kind as OfKind, Dev, Fstype, Source, Name, Value}
use Rattle.hist_model.specs.declared.policy.Cond.TheVariants.{Dirfd, Flags, ShortDevice, PlainFlags}
use Rattle.hist_model.specs.declared.policy.Flag.{Flag}
use Rattle.hist_model.specs.declared.policy.Flag.TheVariants as flag
use Rattle.hist_model.specs.declared.policy.Profile.{Profile}
use Rattle.hist_model.specs.declared.policy.Profile.TheVariants.{Plain, Lxd}
use Rattle.hist_model.specs.declared.policy.Rule.{Rule}
use Rattle.hist_model.specs.declared.policy.Verdict.{Verdict}
use Rattle.hist_model.specs.declared.policy.Verdict.TheVariants.{Grant, Pass}
use Rattle.hist_model.specs.declared.request.Kind.{Kind}
use Rattle.hist_model.specs.declared.request.Kind.TheVariants.{Reg, Chr, Blk, Fifo, Sock, Dir, Bad}
use Rattle.hist_model.specs.declared.request.Request.{Request}
use Rattle.hist_model.specs.declared.request.Request.TheVariants.{Mknod, Mount, SetXattr, OpenAt}
use Rattle.call_table.specs.Table.{Row, table}
use Rattle.sys_abi.specs.Calls.{nr_close, nr_getpid, nr_sysinfo, nr_mknod, nr_mount, nr_setxattr, nr_openat, nr_mknodat}

-- ---- Conditions

-- a text that may be absent is this one
abbrev pub is_text : Option (List ℕ) → List ℕ → Bool
is_text (Some t) text = bytes_eq t text
is_text None text = false

-- the path of a request, which for a mount is its target
abbrev pub path_of : Request → Option (List ℕ)
path_of (Mknod dirfd path mode dev) = Some path
path_of (Mount source target fstype options via flags shift) = Some target
path_of (SetXattr path name value flags) = Some path
path_of (OpenAt dirfd path flags) = Some path
path_of _ = None

-- the path has a component `..` between its slashes
abbrev pub has_dot_dot : List ℕ → Bool
has_dot_dot path = list_any is_dot_dot (slice_split (λ b. b == 47) path)

-- the path begins with the directory and a slash, and never goes up
abbrev pub lies_under : Option (List ℕ) → List ℕ → Bool
lies_under (Some path) dir = starts_with nat_eq path (dir ++ 47 ∷ []) && not (has_dot_dot path)
lies_under None dir = false

-- two kinds are one
abbrev pub kind_eq : Kind → Kind → Bool
kind_eq Reg Reg = true
kind_eq Chr Chr = true
kind_eq Blk Blk = true
kind_eq Fifo Fifo = true
kind_eq Sock Sock = true
kind_eq Dir Dir = true
kind_eq Bad Bad = true
kind_eq _ _ = false

-- the node that is asked for is of this kind
abbrev pub asks_kind : Request → Kind → Bool
asks_kind (Mknod dirfd path mode dev) kind = kind_eq (kind_of mode) kind
asks_kind _ kind = false

-- the kind has device numbers
abbrev pub is_device : Kind → Bool
is_device Chr = true
is_device Blk = true
is_device _ = false

-- the device that is asked for, character or block, has these numbers in the 32 bits of its argument that mknod takes
abbrev pub asks_device : Request → ℕ → ℕ → Bool
asks_device (Mknod dirfd path mode dev) major minor =
    is_device (kind_of mode) && ((major_of (low_32 dev) == major) && (minor_of (low_32 dev) == minor))
asks_device _ major minor = false

-- the type of file system of a mount, and its source
abbrev pub fstype_of : Request → Option (List ℕ)
fstype_of (Mount source target fstype options via flags shift) = Some fstype
fstype_of _ = None

abbrev pub source_of : Request → Option (List ℕ)
source_of (Mount source target fstype options via flags shift) = Some source
source_of _ = None

-- the name of the attribute that is set, and its value
abbrev pub attribute_of : Request → Option (List ℕ)
attribute_of (SetXattr path name value flags) = Some name
attribute_of _ = None

abbrev pub value_of : Request → Option (List ℕ)
value_of (SetXattr path name value flags) = Some value
value_of _ = None

-- the descriptor of a mknod: without one it is AT_FDCWD
abbrev pub dirfd_or_cwd : Option ℤ → ℤ
dirfd_or_cwd (Some fd) = fd
dirfd_or_cwd None = negsuc 99

-- the descriptor of the directory from which the path of a node or a file goes, where it is relative
abbrev pub dirfd_of : Request → Option ℤ
dirfd_of (Mknod dirfd path mode dev) = Some (dirfd_or_cwd dirfd)
dirfd_of (OpenAt dirfd path flags) = Some dirfd
dirfd_of _ = None

-- a descriptor that may be absent is this one
abbrev pub is_descriptor : Option ℤ → ℤ → Bool
is_descriptor (Some fd) number = int_eq fd number
is_descriptor None number = false

-- the flags of a mount: where bits 16 to 31 are the magic number of old programs, only those below them are flags (mount(2))
abbrev pub mount_flags : ℕ → ℕ
mount_flags flags = if bit_and flags 4294901760 == 3236757504 then flags % 65536 else flags

-- the flag is one of the request's call, and is set
abbrev pub has_flag : Request → Flag → Bool
has_flag (Mount source target fstype options via flags shift) (flag.Mount bit) = not (bit_and (mount_flags flags) bit == 0)
has_flag (SetXattr path name value flags) (flag.Attribute bit) = not (bit_and flags bit == 0)
has_flag _ _ = false

-- each of the first flags is set, and none of the others
abbrev pub has_flags : Request → List Flag → List Flag → Bool
has_flags q all none = list_all (λ f. has_flag q f) all && not (list_any (λ f. has_flag q f) none)

-- the request isn't a node whose device number has a bit above the 32nd
abbrev pub has_short_device : Request → Bool
has_short_device (Mknod dirfd path mode dev) = nat_lt dev 4294967296
has_short_device _ = true

-- the request isn't a mount that remounts (32), binds (4096) or moves (8192)
abbrev pub has_plain_flags : Request → Bool
has_plain_flags (Mount source target fstype options via flags shift) =
    (bit_and flags 32 == 0) && ((bit_and flags 4096 == 0) && (bit_and flags 8192 == 0))
has_plain_flags _ = true

-- the request meets the condition
abbrev pub meets : Cond → Request → Bool
meets (Path text) q = is_text (path_of q) text
meets (Under dir) q = lies_under (path_of q) dir
meets (OfKind kind) q = asks_kind q kind
meets (Dev major minor) q = asks_device q major minor
meets (Fstype text) q = is_text (fstype_of q) text
meets (Source text) q = is_text (source_of q) text
meets (Name text) q = is_text (attribute_of q) text
meets (Value text) q = is_text (value_of q) text
meets (Dirfd number) q = is_descriptor (dirfd_of q) number
meets (Flags all none) q = has_flags q all none
meets ShortDevice q = has_short_device q
meets PlainFlags q = has_plain_flags q

-- ---- Rules

-- the calls that have names: those of the table
abbrev pub named_calls : List ℤ
named_calls = map (λ (row : Row). pos row.nr) table

-- the number is in the list
abbrev pub is_among : List ℤ → ℤ → Bool
is_among numbers nr = list_any (λ n. int_eq n nr) numbers

-- the rule's calls include this number
abbrev pub covers : Calls → ℤ → Bool
covers (Named numbers) nr = is_among numbers nr
covers OtherCalls nr = not (is_among named_calls nr)

-- the request is one of the rule's calls, and meets all its conditions
unfoldable pub fits : Rule → Request → Bool
fits rule q = covers rule.calls (call_of_request q) && list_all (λ c. meets c q) rule.conds

-- the first rule that fits, where the first of the list has place n, and its verdict; past the end, and pass, where none fits
unfoldable pub decide_from : ℕ → List Rule → Request → ℕ × Verdict
decide_from n [] q = (n, Pass)
decide_from n (rule ∷ rules) q = if fits rule q then (n, rule.verdict) else decide_from (n + 1) rules q

-- the place of the first rule that fits, and its verdict
unfoldable pub decide : List Rule → Request → ℕ × Verdict
decide rules q = decide_from 0 rules q

-- the rule's name
abbrev pub name_or_none : Option Rule → List ℕ
name_or_none (Some rule) = rule.name
name_or_none None = []

-- the name of the rule at a place
abbrev pub rule_name : List Rule → ℕ → List ℕ
rule_name rules i = name_or_none (slice_get rules i)

abbrev pub times_of : Option Rule → Option ℕ
times_of (Some rule) = rule.times
times_of None = None

-- how often effects of the rule at a place may be done, where that is limited
abbrev pub cap_of : List Rule → ℕ → Option Cap
cap_of rules i = option_map (λ n. record { rule = i; times = n }) (times_of (slice_get rules i))

abbrev pub granted_where : Option Rule → Request → Request
granted_where (Some rule) q = granted rule q
granted_where None q = q

-- the request that the rule at a place grants
abbrev pub granted_by : List Rule → ℕ → Request → Request
granted_by rules i q = granted_where (slice_get rules i) q

-- ---- The rules that switches make

-- a rule without a program, a shift or a limit
abbrev pub plain_rule : List ℕ → Calls → List Cond → Verdict → Rule
plain_rule name calls conds verdict =
    record { name = name; calls = calls; conds = conds; verdict = verdict; via = []; shift = false; times = None }

-- the devices that a container may make: each is harmless to the host, and 0:0 is the whiteout of an overlay
abbrev pub safe_devices : List (ℕ × ℕ)
safe_devices = (0, 0) ∷ (5, 1) ∷ (1, 7) ∷ (1, 3) ∷ (1, 8) ∷ (5, 0) ∷ (1, 9) ∷ (1, 5) ∷ []

-- what stands under LXD's profile alone
abbrev pub in_profile : {A : Type 0} → Profile → List A → List A
in_profile Plain xs = []
in_profile Lxd xs = xs

-- the conditions of one of them, a character device; LXD grants none from the directory of a descriptor, and reads 64 bits of
-- the device number
abbrev pub device_conditions : Profile → ℕ → ℕ → List Cond
device_conditions profile major minor = OfKind Chr ∷ Dev major minor ∷ in_profile profile (Dirfd (negsuc 99) ∷ ShortDevice ∷ [])

-- the rule that grants one of them, named lxd.mknod.MAJOR:MINOR
abbrev pub lxd_mknod_rule : Profile → ℕ × ℕ → Rule
lxd_mknod_rule profile (major, minor) = plain_rule (codes "lxd.mknod." ++ decimal major ++ codes ":" ++ decimal minor)
    (Named (pos nr_mknod ∷ pos nr_mknodat ∷ [])) (device_conditions profile major minor) Grant

abbrev pub lxd_mknod_rules : Profile → List Rule
lxd_mknod_rules profile = map (λ p. lxd_mknod_rule profile p) safe_devices

-- the flags by which mount(2) changes how an existing mount propagates: UNBINDABLE, PRIVATE, SLAVE and SHARED
abbrev pub propagation_flags : List Flag
propagation_flags = flag.Mount 131072 ∷ flag.Mount 262144 ∷ flag.Mount 524288 ∷ flag.Mount 1048576 ∷ []

-- the conditions of a mount of one type of file system by a program, which LXD runs whatever flags of propagation there are
abbrev pub fuse_conditions : List ℕ → List Cond
fuse_conditions fstype = Fstype fstype ∷ PlainFlags ∷ []

-- those of a mount by the kernel: with these flags it mounts nothing, and LXD hands them on
abbrev pub mount_conditions : Profile → List ℕ → List Cond
mount_conditions profile fstype = Fstype fstype ∷ PlainFlags ∷ in_profile profile (Flags [] propagation_flags ∷ [])

-- a grant of mounts of one type of file system, whose name has a front and the type as reports write it
abbrev pub mount_rule : List ℕ → List ℕ → List Cond → List ℕ → Bool → Rule
mount_rule front fstype conds program shift = record {
  name = front ++ escaped fstype;
  calls = Named (pos nr_mount ∷ []);
  conds = conds;
  verdict = Grant;
  via = program;
  shift = shift;
  times = None;
}

-- the rule that grants a mount of one type of file system by a program, named lxd.mount.fuse.TYPE
abbrev pub lxd_fuse_rule : Bool → List ℕ → List ℕ → Rule
lxd_fuse_rule shift fstype program = mount_rule (codes "lxd.mount.fuse.") fstype (fuse_conditions fstype) program shift

-- the rule that grants a mount of one type of file system by the kernel, named lxd.mount.TYPE
abbrev pub lxd_mount_rule : Profile → Bool → List ℕ → Rule
lxd_mount_rule profile shift fstype = mount_rule (codes "lxd.mount.") fstype (mount_conditions profile fstype) [] shift

-- the rules of a type that the kernel mounts: a text that is no name is the type of no file system, and makes none
abbrev pub type_rules : Profile → Bool → List ℕ → List Rule
type_rules profile shift fstype = if is_short_name fstype then lxd_mount_rule profile shift fstype ∷ [] else []

-- the rules of a type with a program: with an empty one the kernel mounts it, as if the type stood in the other list
abbrev pub pair_rules : Profile → Bool → List ℕ × List ℕ → List Rule
pair_rules profile shift (fstype, []) = type_rules profile shift fstype
pair_rules profile shift (fstype, b ∷ program) = lxd_fuse_rule shift fstype (b ∷ program) ∷ []

-- the conditions of the mark of an opaque directory of an overlay; LXD sets it to the value y alone
abbrev pub opaque_conditions : Profile → List Cond
opaque_conditions profile = Name (codes "trusted.overlay.opaque") ∷ in_profile profile (Value (codes "y") ∷ [])

-- the rule that grants it
abbrev pub lxd_setxattr_rule : Profile → Rule
lxd_setxattr_rule profile = plain_rule (codes "lxd.setxattr.opaque") (Named (pos nr_setxattr ∷ [])) (opaque_conditions profile) Grant

-- the rule that grants sysinfo
abbrev pub lxd_sysinfo_rule : Rule
lxd_sysinfo_rule = plain_rule (codes "lxd.sysinfo") (Named (pos nr_sysinfo ∷ [])) [] Grant

-- by whose rules the keys are read, the switches, and the two lists of types of file systems, of which the first has a program with
-- each. Under LXD's profile types and programs are texts of any bytes, and a program may be empty
pub record Switches : Type 0 where
  pub profile : Profile
  pub mknod : Bool
  pub mount : Bool
  pub shift : Bool
  pub setxattr : Bool
  pub sysinfo : Bool
  pub fuse : List (List ℕ × List ℕ)
  pub allowed : List (List ℕ)

-- the rules of a switch that is on
abbrev pub where_on : Bool → List Rule → List Rule
where_on true rules = rules
where_on false rules = []

abbrev pub lxd_mount_rules : Switches → List Rule
lxd_mount_rules s = flat_map (pair_rules s.profile s.shift) s.fuse ++ flat_map (type_rules s.profile s.shift) s.allowed

-- the rules by which the switches grant, in the order in which they are tried
abbrev pub lxd_grants : Switches → List Rule
lxd_grants s = where_on s.mknod (lxd_mknod_rules s.profile)
    ++ (where_on s.mount (lxd_mount_rules s)
    ++ (where_on s.setxattr (lxd_setxattr_rule s.profile ∷ []) ++ where_on s.sysinfo (lxd_sysinfo_rule ∷ [])))

-- ---- Why LXD passes a call. These rules are tried behind the grants, so that each has what these and the rules before it leave.

-- a rule that passes calls, named for the cause
abbrev pub reason : List ℕ → List ℤ → List Cond → Rule
reason name calls conds = plain_rule name (Named calls) conds Pass

-- from AT_FDCWD what is left is none of the devices; and what is left then goes from a directory's descriptor
abbrev pub mknod_reasons : List Rule
mknod_reasons = reason (codes "lxd.mknod.not-a-known-device") (pos nr_mknod ∷ pos nr_mknodat ∷ []) (Dirfd (negsuc 99) ∷ [])
    ∷ reason (codes "lxd.mknodat.directory-descriptor") (pos nr_mknodat ∷ []) [] ∷ []

-- the flags that make mount(2) another operation, each with the reason's name: REMOUNT, BIND, MOVE, and those of propagation
abbrev pub flag_reasons : List (List ℕ × ℕ)
flag_reasons = (codes "lxd.mount.remount", 32) ∷ (codes "lxd.mount.bind", 4096) ∷ (codes "lxd.mount.move", 8192)
    ∷ (codes "lxd.mount.propagation", 131072) ∷ (codes "lxd.mount.propagation", 262144)
    ∷ (codes "lxd.mount.propagation", 524288) ∷ (codes "lxd.mount.propagation", 1048576) ∷ []

abbrev pub flag_reason : List ℕ × ℕ → Rule
flag_reason (name, bit) = reason name (pos nr_mount ∷ []) (Flags (flag.Mount bit ∷ []) [] ∷ [])

-- one of these flags; and what is left then has a type that isn't mounted
abbrev pub mount_reasons : List Rule
mount_reasons = map flag_reason flag_reasons ++ reason (codes "lxd.mount.type") (pos nr_mount ∷ []) [] ∷ []

-- the mark with another value; and what is left then has another name
abbrev pub setxattr_reasons : List Rule
setxattr_reasons = reason (codes "lxd.setxattr.value") (pos nr_setxattr ∷ []) (Name (codes "trusted.overlay.opaque") ∷ [])
    ∷ reason (codes "lxd.setxattr.name") (pos nr_setxattr ∷ []) [] ∷ []

-- the reasons of the calls whose switches are on
abbrev pub lxd_reasons : Switches → List Rule
lxd_reasons s =
    in_profile s.profile (where_on s.mknod mknod_reasons ++ (where_on s.mount mount_reasons ++ where_on s.setxattr setxattr_reasons))

-- the rules that the switches make
abbrev pub lxd_rules : Switches → List Rule
lxd_rules s = lxd_grants s ++ lxd_reasons s

-- the rule that passes one call, named default.CALL
abbrev pub default_rule : List ℕ → ℤ → Rule
default_rule name nr = plain_rule (codes "default." ++ name) (Named (nr ∷ [])) [] Pass

-- the rules that pass what no other rule decides: one for each call that has a name, and one for all others
abbrev pub default_rules : List Rule
default_rules = default_rule (codes "close") (pos nr_close) ∷ default_rule (codes "getpid") (pos nr_getpid)
    ∷ default_rule (codes "sysinfo") (pos nr_sysinfo) ∷ default_rule (codes "mknod") (pos nr_mknod)
    ∷ default_rule (codes "mount") (pos nr_mount) ∷ default_rule (codes "setxattr") (pos nr_setxattr)
    ∷ default_rule (codes "openat") (pos nr_openat) ∷ default_rule (codes "mknodat") (pos nr_mknodat)
    ∷ plain_rule (codes "default.other") OtherCalls [] Pass ∷ []

-- the whole list of a policy's rules: its own, those of the switches, and the defaults
abbrev pub all_rules : List Rule → Switches → List Rule
all_rules own s = own ++ (lxd_rules s ++ default_rules)
