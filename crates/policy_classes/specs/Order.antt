-- An order of calls: fewer bytes that differ from plain values come first, and then one field after another decides.
use Rattle.std.specs.Prelude.{ℕ, ◌+◌, ◌-◌, Bool, ◌&&◌, ◌==◌, List, [], ◌∷◌, length, map, codes, bytes_eq, nat_le, if◌then◌else◌}
use Rattle.std.specs.Prelude.{Some, None, ℤ, pos, negsuc}
use Rattle.std.specs.Cmp.Lexicographic.{slice_cmp}
use Rattle.std.specs.Int.{bit_at}
use Rattle.std.specs.List.{flat_map, range_with_len, sum_by}
use Rattle.std.specs.Ordering.{is_le, is_lt, nat_cmp}
use Rattle.hist_model.specs.declared.request.Request.{Request}
use Rattle.hist_model.specs.declared.request.Request.TheVariants.{Mknod, Mount, SetXattr, OpenAt, Sysinfo, Other}

-- ---- texts

-- a byte's rank: first letters from a to z, then the other bytes that can be printed, and then the rest
abbrev pub rank_of : ℕ → ℕ
rank_of b =
    if nat_le 97 b && nat_le b 122 then b - 97
    else if nat_le 32 b && nat_le b 126 then b
    else b + 256

-- shorter texts come first, and of two as long ones the first byte that differs decides
abbrev pub text_rank : List ℕ → List ℕ
text_rank t = length t ∷ map rank_of t

abbrev pub comes_before : List ℕ → List ℕ → Bool
comes_before t u = is_lt (slice_cmp nat_cmp (text_rank t) (text_rank u))

-- ---- fields

-- what a field costs, and its rank among those that cost as much
pub record Part : Type 0 where
  pub cost : ℕ
  pub rank : List ℕ

-- a text where another is the plain one
abbrev pub text_part : List ℕ → List ℕ → Part
text_part plain t =
    if bytes_eq t plain then record { cost = 0; rank = 0 ∷ [] }
    else record { cost = length t + 1; rank = 1 ∷ text_rank t }

-- 0 is the plain number
abbrev pub number_part : ℕ → Part
number_part n = record { cost = if n == 0 then 0 else 1; rank = n ∷ [] }

-- -100, the container's root, is the plain descriptor; then come 0, 1 and so on, and then -1, -2 and so on
abbrev pub descriptor_rank : ℤ → ℕ
descriptor_rank (pos n) = n + 1
descriptor_rank (negsuc n) = if n == 99 then 0 else n + 2147483649

abbrev pub descriptor_part : ℤ → Part
descriptor_part d = number_part (descriptor_rank d)

-- each flag costs as much as a byte
unfoldable pub flags_cost : ℕ → ℕ
flags_cost n = sum_by (bit_at n) (range_with_len 0 64)

abbrev pub flags_part : ℕ → Part
flags_part n = record { cost = flags_cost n; rank = n ∷ [] }

-- what costs nothing
abbrev pub free_part : ℕ → Part
free_part n = record { cost = 0; rank = n ∷ [] }

-- a call's own number; read(2), which stands for the calls without names, comes first
abbrev pub call_rank : ℤ → ℕ
call_rank (pos n) = n
call_rank (negsuc n) = n + 2147483648

-- the plain texts
abbrev pub plain_path : List ℕ
plain_path = codes "/x"

abbrev pub plain_word : List ℕ
plain_word = codes "x"

-- ---- calls

-- which call it is, and its fields
abbrev pub parts : Request → List Part
parts (Other nr) = free_part 0 ∷ free_part (call_rank nr) ∷ []
parts (Sysinfo addr) = free_part 1 ∷ number_part addr ∷ []
parts (Mknod None path mode dev) = free_part 2 ∷ text_part plain_path path ∷ number_part mode ∷ number_part dev ∷ []
parts (Mount source target fstype options via flags shift) =
    free_part 3 ∷ text_part plain_path target ∷ text_part plain_word fstype ∷ text_part plain_word source
    ∷ text_part [] options ∷ flags_part flags ∷ []
parts (SetXattr path name value flags) =
    free_part 4 ∷ text_part plain_path path ∷ text_part plain_word name ∷ text_part [] value ∷ flags_part flags ∷ []
parts (OpenAt dirfd path flags) = free_part 5 ∷ text_part plain_path path ∷ descriptor_part dirfd ∷ flags_part flags ∷ []
parts (Mknod (Some dirfd) path mode dev) =
    free_part 6 ∷ text_part plain_path path ∷ number_part mode ∷ number_part dev ∷ descriptor_part dirfd ∷ []

-- what all parts cost
abbrev pub cost_of : List Part → ℕ
cost_of ps = sum_by (λ (p : Part). p.cost) ps

-- their ranks, one behind the other
abbrev pub ranks_of : List Part → List ℕ
ranks_of ps = flat_map (λ (p : Part). p.rank) ps

-- a call's rank
abbrev pub rank : Request → List ℕ
rank q = cost_of (parts q) ∷ ranks_of (parts q)

-- the one call doesn't come behind the other
abbrev pub is_at_most : Request → Request → Bool
is_at_most p q = is_le (slice_cmp nat_cmp (rank p) (rank q))
