-- The conditions of a rule: their keys, the values that they have, and the calls that they are for.
use Rattle.std.specs.Prelude.{ℕ, ◌≤◌, ⊤, not, if◌then◌else◌, List, [], ◌∷◌, ◌++◌, find, Option, Some, None, option_map, option_and_then}
use Rattle.std.specs.Prelude.{Ok, Err, ℤ, pos, negsuc, ◌||◌, ◌&&◌, codes}
use Rattle.std.specs.List.{list_all}
use Rattle.std.specs.Int.Signed.{le_z}
use Rattle.std.specs.Ordering.{int_eq}
use Rattle.hist_model.specs.RuleParts.{is_directory, is_for, major_max, minor_max}
use Rattle.hist_model.specs.declared.policy.Cond.{Cond}
use Rattle.hist_model.specs.declared.policy.Cond.TheVariants.{Path, Under, Kind as OfKind, Dev, Fstype, Source, Name, Value}
use Rattle.hist_model.specs.declared.policy.Cond.TheVariants.{Dirfd, Flags, ShortDevice, PlainFlags}
use Rattle.hist_model.specs.declared.policy.Profile.{Profile}
use Rattle.hist_model.specs.declared.policy.Profile.TheVariants.{Plain, Lxd}
use Rattle.hist_model.specs.declared.request.Kind.{Kind}
use Rattle.hist_model.specs.declared.request.Kind.TheVariants.{Reg, Chr, Blk, Fifo, Sock}
use Rattle.serde_json.specs.Data.{Data}
use Rattle.serde_json.specs.Find.{as_i64, as_number, as_str, as_object}
use Rattle.policy_reader.specs.declared.conditions.CondKey.{CondKey}
use Rattle.policy_reader.specs.declared.conditions.CondKey.TheVariants as key
use Rattle.policy_reader.specs.declared.conditions.TextKey.{TextKey}
use Rattle.policy_reader.specs.declared.conditions.TextKey.TheVariants as text_key
use Rattle.policy_reader.specs.Flags.{flags_of}
use Rattle.policy_reader.specs.declared.error.PolicyError.TheVariants.{BadKey}
use Rattle.hist_model.specs.ReportWords.{quoted}
use Rattle.policy_reader.specs.Readings.{Reading, and_then, good, walk, named, rule_place}
use Rattle.policy_reader.specs.Texts.{cut_at, decimal_up_to}

-- the keys of conditions
abbrev pub condition_keys : List (List ℕ × TextKey)
condition_keys = (codes "dev", text_key.Dev) ∷ (codes "fstype", text_key.Fstype) ∷ (codes "kind", text_key.Kind)
    ∷ (codes "name", text_key.Name) ∷ (codes "path", text_key.Path) ∷ (codes "source", text_key.Source)
    ∷ (codes "under", text_key.Under) ∷ []

-- those that a policy with a profile has besides
abbrev pub profile_keys : List (List ℕ × CondKey)
profile_keys = (codes "dirfd", key.Dirfd) ∷ (codes "flags", key.Flags) ∷ (codes "value", key.Text text_key.Value) ∷ []

abbrev pub or_else : Option CondKey → Option CondKey → Option CondKey
or_else (Some k) other = Some k
or_else None other = other

-- the key of this name
abbrev pub condition_key : Profile → List ℕ → Option CondKey
condition_key Plain name = option_map key.Text (named condition_keys name)
condition_key Lxd name = or_else (named profile_keys name) (option_map key.Text (named condition_keys name))

-- the kinds of nodes that mknod makes
abbrev pub kinds : List (List ℕ × Kind)
kinds = (codes "reg", Reg) ∷ (codes "chr", Chr) ∷ (codes "blk", Blk) ∷ (codes "fifo", Fifo) ∷ (codes "sock", Sock) ∷ []

abbrev pub device_condition : Option ℕ → Option ℕ → Option Cond
device_condition (Some major) (Some minor) = Some (Dev major minor)
device_condition _ _ = None

-- a device as MAJOR:MINOR, of at most 12 and 20 bits
abbrev pub device_parts : List ℕ × Option (List ℕ) → Option Cond
device_parts (major, None) = None
device_parts (major, Some minor) = device_condition (decimal_up_to major_max major) (decimal_up_to minor_max minor)

-- a device's numbers have at most 12 and 20 bits
abbrev pub HasSmallNumbers : Cond → Type 0
HasSmallNumbers (Dev major minor) = (major ≤ major_max) × (minor ≤ minor_max)
HasSmallNumbers _ = ⊤

-- the condition of a key and its text
abbrev pub condition_of : TextKey → List ℕ → Option Cond
condition_of text_key.Dev text = device_parts (cut_at 58 text)
condition_of text_key.Fstype text = Some (Fstype text)
condition_of text_key.Kind text = option_map OfKind (named kinds text)
condition_of text_key.Name text = Some (Name text)
condition_of text_key.Path text = Some (Path text)
condition_of text_key.Source text = Some (Source text)
condition_of text_key.Under text = if is_directory text then Some (Under text) else None
condition_of text_key.Value text = Some (Value text)

-- the number of a descriptor, from 0 to 2^31 - 1, or -100
abbrev pub descriptor : ℤ → Option ℤ
descriptor number = if int_eq number (negsuc 99) || (le_z (pos 0) number && le_z number (pos 2147483647)) then Some number else None

abbrev pub descriptor_of : Data → Option ℤ
descriptor_of d = option_and_then descriptor (option_and_then as_i64 (as_number d))

abbrev pub condition_at : ℕ → Option CondKey → List ℕ → Data → Reading Cond
condition_at n None name d = Err (BadKey (rule_place n (codes ".when." ++ quoted name)))
condition_at n (Some (key.Text k)) name d = good (rule_place n (codes ".when." ++ name)) (option_and_then (condition_of k) (as_str d))
condition_at n (Some key.Dirfd) name d = good (rule_place n (codes ".when." ++ name)) (option_map Dirfd (descriptor_of d))
condition_at n (Some key.Flags) name d = flags_of n d

-- the condition of one member of the conditions of the n-th rule
abbrev pub condition : Profile → ℕ → List ℕ → Data → Reading Cond
condition profile n name d = condition_at n (condition_key profile name) name d

-- it stands behind those before it
abbrev pub condition_member : Profile → ℕ → List ℕ → Data → List Cond → Reading (List Cond)
condition_member profile n name d conds = and_then (condition profile n name d) (λ c. Ok (conds ++ c ∷ []))

-- the conditions of the n-th rule, which are an object
abbrev pub conditions_of : Profile → ℕ → Data → Reading (List Cond)
conditions_of profile n d = and_then (good (rule_place n (codes ".when")) (as_object d)) (λ ms. walk (condition_member profile n) ms [])

-- ---- The calls that conditions are for

-- the first condition that isn't for all of the calls
abbrev pub misfit : List ℤ → List Cond → Option Cond
misfit calls conds = find (λ c. not (list_all (is_for c) calls)) conds

-- where a condition stands in its rule
abbrev pub condition_place : Cond → List ℕ
condition_place (Path text) = codes ".when.path"
condition_place (Under dir) = codes ".when.under"
condition_place (OfKind kind) = codes ".when.kind"
condition_place (Dev major minor) = codes ".when.dev"
condition_place (Fstype text) = codes ".when.fstype"
condition_place (Source text) = codes ".when.source"
condition_place (Name text) = codes ".when.name"
condition_place (Value text) = codes ".when.value"
condition_place (Dirfd number) = codes ".when.dirfd"
condition_place (Flags all none) = codes ".when.flags"
condition_place ShortDevice = codes ".when"
condition_place PlainFlags = codes ".when"
