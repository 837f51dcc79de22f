-- Which requests are calls: those that are made of a call's arguments and of the texts that were read for it.
use Rattle.std.specs.Prelude.{◌≡◌, ℕ, Bool, true, false, ◌&&◌, not, ◌==◌, nat_le, nat_lt, List, [], ◌∷◌, length}
use Rattle.std.specs.Prelude.{ℤ, pos, negsuc, ⊤, Some, None}
use Rattle.std.specs.List.{list_all, list_any}
use Rattle.hist_model.specs.Decisions.{is_among}
use Rattle.hist_model.specs.declared.request.Request.{Request}
use Rattle.hist_model.specs.declared.request.Request.TheVariants.{Mknod, Mount, SetXattr, OpenAt, Sysinfo, Other}
use Rattle.sys_abi.specs.Calls.{nr_sysinfo, nr_mknod, nr_mount, nr_setxattr, nr_openat, nr_mknodat}

-- a byte is a number below 256
abbrev pub are_bytes : List ℕ → Bool
are_bytes text = list_all (λ b. nat_lt b 256) text

-- a text that ends with a zero, which isn't counted: at most so many bytes, none of them zero
abbrev pub is_text_within : ℕ → List ℕ → Bool
is_text_within most text = nat_le (length text) most && (not (list_any (λ b. b == 0) text) && are_bytes text)

-- a value: at most so many bytes
abbrev pub is_value_within : ℕ → List ℕ → Bool
is_value_within most text = nat_le (length text) most && are_bytes text

-- the greatest lengths of a path, of the other texts of a mount, of an attribute's name, and of its value
abbrev pub path_max : ℕ
path_max = 4095

abbrev pub name_max : ℕ
name_max = 255

abbrev pub value_max : ℕ
value_max = 4096

-- a descriptor is a number of 32 bits, one of which is its sign
abbrev pub is_descriptor_number : ℤ → Bool
is_descriptor_number (pos n) = nat_lt n 2147483648
is_descriptor_number (negsuc n) = nat_lt n 2147483648

-- the calls that have requests of their own
abbrev pub calls_with_requests : List ℤ
calls_with_requests =
    pos nr_mknod ∷ pos nr_mknodat ∷ pos nr_mount ∷ pos nr_setxattr ∷ pos nr_openat ∷ pos nr_sysinfo ∷ []

abbrev pub IsCall : Request → Type 0
IsCall (Mknod None path mode dev) = is_text_within path_max path ≡ true
IsCall (Mknod (Some fd) path mode dev) = (is_text_within path_max path ≡ true) × (is_descriptor_number fd ≡ true)
IsCall (Mount source target fstype options via flags shift) =
    (is_text_within path_max source ≡ true)
    × (is_text_within path_max target ≡ true)
    × (is_text_within path_max fstype ≡ true)
    × (is_text_within path_max options ≡ true)
    × (via ≡ [])
    × (shift ≡ false)
IsCall (SetXattr path name value flags) =
    (is_text_within path_max path ≡ true) × (is_text_within name_max name ≡ true) × (is_value_within value_max value ≡ true)
IsCall (OpenAt dirfd path flags) = (is_text_within path_max path ≡ true) × (is_descriptor_number dirfd ≡ true)
IsCall (Sysinfo addr) = ⊤
IsCall (Other nr) = is_among calls_with_requests nr ≡ false
