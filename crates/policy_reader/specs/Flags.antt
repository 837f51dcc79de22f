-- The condition on a call's flags: names of flags that are set, and of flags that aren't (mount(2), setxattr(2)).
use Rattle.std.specs.Prelude.{ℕ, List, [], ◌∷◌, ◌++◌, length, Option, Some, None, option_and_then, Ok, Err, codes, decimal}
use Rattle.hist_model.specs.ReportWords.{quoted}
use Rattle.hist_model.specs.declared.policy.Cond.{Cond}
use Rattle.hist_model.specs.declared.policy.Cond.TheVariants.{Flags}
use Rattle.hist_model.specs.declared.policy.Flag.{Flag}
use Rattle.hist_model.specs.declared.policy.Flag.TheVariants.{Mount, Attribute}
use Rattle.serde_json.specs.Data.{Data}
use Rattle.serde_json.specs.Find.{as_str, as_array, as_object}
use Rattle.policy_reader.specs.declared.error.PolicyError.TheVariants.{BadKey}
use Rattle.policy_reader.specs.declared.flags.FlagLists.{FlagLists}
use Rattle.policy_reader.specs.declared.flags.FlagsKey.{FlagsKey}
use Rattle.policy_reader.specs.declared.flags.FlagsKey.TheVariants as key
use Rattle.policy_reader.specs.Readings.{Reading, and_then, good, walk, walk_items, named, rule_place}

-- the flags that have names
abbrev pub flag_names : List (List ℕ × Flag)
flag_names = (codes "RDONLY", Mount 1) ∷ (codes "NOSUID", Mount 2) ∷ (codes "NODEV", Mount 4) ∷ (codes "NOEXEC", Mount 8)
    ∷ (codes "SYNCHRONOUS", Mount 16) ∷ (codes "REMOUNT", Mount 32) ∷ (codes "MANDLOCK", Mount 64) ∷ (codes "DIRSYNC", Mount 128)
    ∷ (codes "NOSYMFOLLOW", Mount 256) ∷ (codes "NOATIME", Mount 1024) ∷ (codes "NODIRATIME", Mount 2048) ∷ (codes "BIND", Mount 4096)
    ∷ (codes "MOVE", Mount 8192) ∷ (codes "REC", Mount 16384) ∷ (codes "SILENT", Mount 32768) ∷ (codes "UNBINDABLE", Mount 131072)
    ∷ (codes "PRIVATE", Mount 262144) ∷ (codes "SLAVE", Mount 524288) ∷ (codes "SHARED", Mount 1048576) ∷ (codes "RELATIME", Mount 2097152)
    ∷ (codes "STRICTATIME", Mount 16777216) ∷ (codes "LAZYTIME", Mount 33554432) ∷ (codes "CREATE", Attribute 1)
    ∷ (codes "REPLACE", Attribute 2) ∷ []

-- the keys of the two lists
abbrev pub flags_keys : List (List ℕ × FlagsKey)
flags_keys = (codes "all", key.Set) ∷ (codes "none", key.Unset) ∷ []

-- the flag that a value names
abbrev pub flag_of : Data → Option Flag
flag_of d = option_and_then (named flag_names) (as_str d)

-- the list of this name in the condition of the n-th rule
abbrev pub flags_place : ℕ → List ℕ → List ℕ
flags_place n name = rule_place n (codes ".when.flags." ++ name)

-- a flag in that list, after those before it
abbrev pub flag_place : ℕ → List ℕ → ℕ → List ℕ
flag_place n name i = rule_place n (codes ".when.flags." ++ (name ++ (codes "[" ++ (decimal i ++ codes "]"))))

abbrev pub listed_flag : ℕ → List ℕ → List Flag → Data → Reading Flag
listed_flag n name found d = good (flag_place n name (length found)) (flag_of d)

-- the flags of one of the lists, which is an array
abbrev pub listed_flags : ℕ → List ℕ → Data → Reading (List Flag)
listed_flags n name d = and_then (good (flags_place n name) (as_array d)) (walk_items (listed_flag n name) [])

-- no list yet
abbrev pub no_flags : FlagLists
no_flags = record { all = []; none = [] }

abbrev pub flags_at : ℕ → Option FlagsKey → List ℕ → Data → FlagLists → Reading FlagLists
flags_at n None name d s = Err (BadKey (rule_place n (codes ".when.flags." ++ quoted name)))
flags_at n (Some key.Set) name d s = and_then (listed_flags n name d) (λ flags. Ok (record s { all = flags }))
flags_at n (Some key.Unset) name d s = and_then (listed_flags n name d) (λ flags. Ok (record s { none = flags }))

-- what one member of the condition says
abbrev pub flags_member : ℕ → List ℕ → Data → FlagLists → Reading FlagLists
flags_member n name d s = flags_at n (named flags_keys name) name d s

-- the condition on flags of the n-th rule, which is an object
abbrev pub flags_of : ℕ → Data → Reading Cond
flags_of n d = and_then (good (rule_place n (codes ".when.flags")) (as_object d))
    (λ ms. and_then (walk (flags_member n) ms no_flags) (λ s. Ok (Flags s.all s.none)))
