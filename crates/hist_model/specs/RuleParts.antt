-- What the parts of a policy's rules may be: names, calls, conditions, answers, and how often a rule grants. Each test computes.
use Rattle.std.specs.Prelude.{ℕ, ◌-◌, ◌^◌, Bool, true, false, ◌&&◌, ◌||◌, not, nat_le, nat_eq, List, [], ◌∷◌, length, Option, Some, None}
use Rattle.std.specs.Prelude.{is_some, ℤ, pos, bytes_eq, codes}
use Rattle.std.specs.List.{list_any, list_all, starts_with, ends_with}
use Rattle.std.specs.Ordering.{int_eq}
use Rattle.hist_model.specs.Decisions.{is_among, named_calls}
pub use Rattle.hist_model.specs.ShortNames.{is_filled, is_lower_or_digit, is_one_of, is_short_name, is_short_name_byte}
use Rattle.hist_model.specs.declared.policy.Calls.{Calls}
use Rattle.hist_model.specs.declared.policy.Calls.TheVariants.{Named, Other}
use Rattle.hist_model.specs.declared.policy.Cond.{Cond}
use Rattle.hist_model.specs.declared.policy.Cond.TheVariants.{Path, Under, Kind as OfKind, Dev, Fstype, Source, Name, Value}
use Rattle.hist_model.specs.declared.policy.Cond.TheVariants.{Dirfd, Flags, ShortDevice, PlainFlags}
use Rattle.hist_model.specs.declared.policy.Flag.{Flag}
use Rattle.hist_model.specs.declared.policy.Flag.TheVariants as flag
use Rattle.hist_model.specs.declared.policy.Verdict.{Verdict}
use Rattle.hist_model.specs.declared.policy.Verdict.TheVariants.{Grant, Deny, Pass, Inject}
use Rattle.hist_model.specs.declared.request.Kind.{Kind}
use Rattle.hist_model.specs.declared.request.Kind.TheVariants.{Reg, Chr, Blk, Fifo, Sock, Dir, Bad}
use Rattle.call_table.specs.Table.{has_path, is_call_with, makes_node, may_be_granted}
use Rattle.sys_abi.specs.Calls.{nr_mknod, nr_mount, nr_setxattr, nr_openat, nr_mknodat}
use Rattle.sys_abi.specs.Errnos.{errno_name}

-- ---- Names

abbrev pub is_rule_name_byte : ℕ → Bool
is_rule_name_byte b = is_lower_or_digit b || is_one_of (codes "._:-") b

-- the names that rules may have: 1 to 64 bytes; those of the switches and the defaults are taken
abbrev pub is_rule_name : List ℕ → Bool
is_rule_name name = is_filled name
    && (nat_le (length name) 64
    && (list_all is_rule_name_byte name && not (starts_with nat_eq name (codes "lxd.") || starts_with nat_eq name (codes "default."))))

-- one of the items has this name
abbrev pub has_named : {A : Type 0} → (A → List ℕ) → List A → List ℕ → Bool
has_named name items text = list_any (λ x. bytes_eq (name x) text) items

-- no two of the items have one name
abbrev pub named_once : {A : Type 0} → (A → List ℕ) → List A → Bool
named_once name [] = true
named_once name (x ∷ xs) = not (has_named name xs (name x)) && named_once name xs

-- ---- Numbers

-- the number is from low to 2^32 - 1
abbrev pub is_from : ℕ → ℕ → Bool
is_from low n = nat_le low n && nat_le n (2 ^ 32 - 1)

-- so is one that may be left out
abbrev pub is_from_if_some : ℕ → Option ℕ → Bool
is_from_if_some low (Some n) = is_from low n
is_from_if_some low None = true

-- the greatest major and minor number of a device, of 12 and 20 bits (makedev(3))
abbrev pub major_max : ℕ
major_max = 4095

abbrev pub minor_max : ℕ
minor_max = 1048575

-- ---- Calls

-- one or more calls, each of which has a name
abbrev pub are_named : List ℤ → Bool
are_named numbers = is_filled numbers && list_all (is_among named_calls) numbers

-- the calls that a policy's own rules may be for
abbrev pub are_own_calls : Calls → Bool
are_own_calls (Named numbers) = are_named numbers
are_own_calls Other = false

-- the test passes each call with a number here, and there is no other
abbrev pub each_call : (ℤ → Bool) → Calls → Bool
each_call test (Named numbers) = list_all test numbers
each_call test Other = false

-- ---- Conditions

-- a directory that paths may lie under: it begins with a slash and doesn't end with one
abbrev pub is_directory : List ℕ → Bool
is_directory text = starts_with nat_eq text (codes "/") && not (ends_with nat_eq text (codes "/"))

-- the kinds of nodes that mknod makes
abbrev pub is_node_kind : Kind → Bool
is_node_kind Reg = true
is_node_kind Chr = true
is_node_kind Blk = true
is_node_kind Fifo = true
is_node_kind Sock = true
is_node_kind Dir = false
is_node_kind Bad = false

-- the condition has a kind, numbers or a directory that may stand in it; one on all bits of a device number is stated by none
abbrev pub is_condition : Cond → Bool
is_condition (Under dir) = is_directory dir
is_condition (OfKind kind) = is_node_kind kind
is_condition (Dev major minor) = nat_le major major_max && nat_le minor minor_max
is_condition (Path text) = true
is_condition (Fstype text) = true
is_condition (Source text) = true
is_condition (Name text) = true
is_condition (Value text) = true
is_condition (Dirfd number) = true
is_condition (Flags all none) = true
is_condition ShortDevice = false
is_condition PlainFlags = true

-- the calls with the descriptor of a directory; mknod's is always AT_FDCWD
abbrev pub dirfd_calls : List ℤ
dirfd_calls = pos nr_mknod ∷ pos nr_mknodat ∷ pos nr_openat ∷ []

-- the calls with flags that conditions name
abbrev pub flag_calls : List ℤ
flag_calls = pos nr_mount ∷ pos nr_setxattr ∷ []

-- the call that a flag is of
abbrev pub call_of_flag : Flag → ℤ
call_of_flag (flag.Mount bit) = pos nr_mount
call_of_flag (flag.Attribute bit) = pos nr_setxattr

-- the flags are of this call
abbrev pub are_flags_of : ℤ → List Flag → Bool
are_flags_of nr flags = list_all (λ f. int_eq (call_of_flag f) nr) flags

-- a condition is for this call
abbrev pub is_for : Cond → ℤ → Bool
is_for (Path text) nr = is_call_with has_path nr
is_for (Under dir) nr = is_call_with has_path nr
is_for (OfKind kind) nr = is_call_with makes_node nr
is_for (Dev major minor) nr = is_call_with makes_node nr
is_for (Fstype text) nr = is_among (pos nr_mount ∷ []) nr
is_for (Source text) nr = is_among (pos nr_mount ∷ []) nr
is_for (Name text) nr = is_among (pos nr_setxattr ∷ []) nr
is_for (Value text) nr = is_among (pos nr_setxattr ∷ []) nr
is_for (Dirfd number) nr = is_among dirfd_calls nr
is_for (Flags all none) nr = is_among flag_calls nr && (are_flags_of nr all && are_flags_of nr none)
is_for ShortDevice nr = is_call_with makes_node nr
is_for PlainFlags nr = true

abbrev pub is_plain_flags : Cond → Bool
is_plain_flags PlainFlags = true
is_plain_flags _ = false

-- ---- Answers

abbrev pub is_grant : Verdict → Bool
is_grant Grant = true
is_grant (Deny error) = false
is_grant Pass = false
is_grant (Inject src at) = false

-- a denial has an error that has a name; the numbers of a file of the broker and of its place in the caller have 32 bits
abbrev pub is_answer : Verdict → Bool
is_answer Grant = true
is_answer Pass = true
is_answer (Deny error) = is_some (errno_name error)
is_answer (Inject src at) = is_from 0 src && is_from_if_some 0 at

-- a call may be answered so: some calls are granted, openat alone gets files, and every call may be denied and passed
abbrev pub may_answer : Verdict → ℤ → Bool
may_answer Grant nr = is_call_with may_be_granted nr
may_answer (Inject src at) nr = is_among (pos nr_openat ∷ []) nr
may_answer (Deny error) nr = true
may_answer Pass nr = true

-- the answer grants mounts, among other calls or alone
abbrev pub grants_mount : Calls → Verdict → Bool
grants_mount (Named numbers) verdict = is_grant verdict && is_among numbers (pos nr_mount)
grants_mount Other verdict = false

-- how often a rule grants: as often as it is asked, or 1 to 2^32 - 1 times, which only a grant says
abbrev pub may_be_limited : Verdict → Option ℕ → Bool
may_be_limited verdict None = true
may_be_limited verdict (Some n) = is_grant verdict && is_from 1 n
