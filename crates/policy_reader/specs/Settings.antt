-- The configuration: the keys by which LXD intercepts system calls (LXD's "System call interception"), and what their texts
-- switch on.
use Rattle.std.specs.Prelude.{ℕ, Bool, true, false, ◌&&◌, if◌then◌else◌, List, [], ◌∷◌, ◌++◌, Option, Some, None, option_map}
use Rattle.std.specs.Prelude.{option_and_then, Ok, Err, codes}
use Rattle.std.specs.List.{list_any}
use Rattle.std.specs.Str.{str_eq_ignore_ascii_case}
use Rattle.hist_model.specs.Decisions.{Switches}
use Rattle.hist_model.specs.PolicyRules.{is_name_in}
use Rattle.hist_model.specs.RuleParts.{has_named, is_short_name}
use Rattle.hist_model.specs.declared.policy.Profile.{Profile}
use Rattle.hist_model.specs.declared.policy.Profile.TheVariants.{Plain, Lxd}
use Rattle.serde_json.specs.Data.{Data}
use Rattle.serde_json.specs.Find.{as_str, as_object}
use Rattle.policy_reader.specs.declared.error.PolicyError.TheVariants.{BadKey}
use Rattle.policy_reader.specs.LxdLists.{is_one_pair, lxd_items, unless_shared}
use Rattle.policy_reader.specs.declared.settings.ConfigKey.{ConfigKey}
use Rattle.policy_reader.specs.declared.settings.ConfigKey.TheVariants.{Ignored, Judged, Unknown, Known}
use Rattle.policy_reader.specs.declared.settings.Setting.{Setting}
use Rattle.policy_reader.specs.declared.settings.Setting.TheVariants.{Mknod, Mount, Shift, Allowed, Fuse, SetXattr, Sysinfo}
use Rattle.policy_reader.specs.Readings.{Reading, and_then, good, walk, named, config_place}
use Rattle.policy_reader.specs.Texts.{behind, cut_at, items_of, is_text_of}

-- ---- Switches

abbrev pub on_words : List (List ℕ)
on_words = codes "true" ∷ codes "1" ∷ codes "yes" ∷ codes "on" ∷ []

abbrev pub off_words : List (List ℕ)
off_words = codes "false" ∷ codes "0" ∷ codes "no" ∷ codes "off" ∷ [] ∷ []

-- the text is one of these words, with letters of either case
abbrev pub is_word_of : List (List ℕ) → List ℕ → Bool
is_word_of words text = list_any (λ word. str_eq_ignore_ascii_case word text) words

-- whether a switch with this text is on
abbrev pub switch_of : List ℕ → Option Bool
switch_of text = if is_word_of on_words text then Some true else (if is_word_of off_words text then Some false else None)

-- ---- Lists of file systems

-- the items of a list
abbrev pub items_in : Profile → List ℕ → List (List ℕ)
items_in Plain text = items_of text
items_in Lxd text = lxd_items text

-- a list of items is all that its parts are, where each is something
abbrev pub each : {A : Type 0} → (List ℕ → Option A) → List (List ℕ) → Option (List A)
each read [] = Some []
each read (text ∷ texts) = option_and_then (λ x. option_map (λ xs. x ∷ xs) (each read texts)) (read text)

-- the items after those that are kept; one whose name is there already is left out
abbrev pub kept : {A : Type 0} → (A → List ℕ) → List A → List A → List A
kept name before [] = before
kept name before (x ∷ xs) = kept name (if has_named name before (name x) then before else before ++ x ∷ []) xs

-- a file system
abbrev pub file_system : Profile → List ℕ → Option (List ℕ)
file_system profile item = if is_name_in profile item then Some item else None

-- file systems between commas, each named once
abbrev pub file_systems : Profile → List ℕ → Option (List (List ℕ))
file_systems profile text = option_map (kept (λ name. name) []) (each (file_system profile) (items_in profile text))

-- an item may have this file system and this program
abbrev pub is_pair_in : Profile → List ℕ → List ℕ → Bool
is_pair_in Plain name program = is_short_name name && is_short_name program
is_pair_in Lxd name program = is_one_pair program

-- a file system and its program, which stand before and behind the first `=`
abbrev pub pair_of : Profile → List ℕ × Option (List ℕ) → Option (List ℕ × List ℕ)
pair_of profile (name, None) = None
pair_of profile (name, Some program) = if is_pair_in profile name program then Some (name, program) else None

abbrev pub fuse_pair : Profile → List ℕ → Option (List ℕ × List ℕ)
fuse_pair profile item = pair_of profile (cut_at 61 item)

-- file systems with their programs between commas, each file system once
abbrev pub fuse_pairs : Profile → List ℕ → Option (List (List ℕ × List ℕ))
fuse_pairs profile text = option_map (kept (λ pair. pair.0) []) (each (fuse_pair profile) (items_in profile text))

-- those beside what the switches say so far, since the keys of `mount` and of the other list stand before theirs: LXD refuses a file
-- system in both lists
abbrev pub pairs_beside : Profile → Bool → List (List ℕ) → List ℕ → Option (List (List ℕ × List ℕ))
pairs_beside Plain mount allowed text = fuse_pairs Plain text
pairs_beside Lxd mount allowed text = option_and_then (unless_shared mount allowed) (fuse_pairs Lxd text)

-- ---- Keys

-- what keys of interception begin with
abbrev pub intercept_prefix : List ℕ
intercept_prefix = codes "security.syscalls.intercept."

-- the settings that are read, by what stands behind that
abbrev pub setting_names : List (List ℕ × Setting)
setting_names = (codes "mknod", Mknod) ∷ (codes "mount", Mount) ∷ (codes "mount.shift", Shift) ∷ (codes "mount.allowed", Allowed)
    ∷ (codes "mount.fuse", Fuse) ∷ (codes "setxattr", SetXattr) ∷ (codes "sysinfo", Sysinfo) ∷ []

-- settings that are known and say nothing here
abbrev pub ignored_names : List (List ℕ)
ignored_names = codes "bpf" ∷ codes "bpf.devices" ∷ codes "sched_setscheduler" ∷ []

abbrev pub known_or_not : Option Setting → ConfigKey
known_or_not (Some setting) = Known setting
known_or_not None = Unknown

abbrev pub is_ignored : List ℕ → Bool
is_ignored name = is_text_of ignored_names name

-- settings that say nothing here, and whose values LXD takes as switches
abbrev pub judged_names : List (List ℕ)
judged_names = codes "bpf" ∷ codes "bpf.devices" ∷ codes "sched_setscheduler" ∷ []

abbrev pub is_judged : List ℕ → Bool
is_judged name = is_text_of judged_names name

-- what a name behind the prefix is
abbrev pub plain_key : List ℕ → ConfigKey
plain_key name = if is_ignored name then Ignored else known_or_not (named setting_names name)

abbrev pub intercept_key : Profile → List ℕ → ConfigKey
intercept_key Plain name = plain_key name
intercept_key Lxd name = if is_judged name then Judged else plain_key name

abbrev pub behind_prefix : Profile → Option (List ℕ) → ConfigKey
behind_prefix profile (Some name) = intercept_key profile name
behind_prefix profile None = Ignored

-- what a key is: those of other matters are ignored
abbrev pub config_key : Profile → List ℕ → ConfigKey
config_key profile key = behind_prefix profile (behind intercept_prefix key)

-- ---- The configuration

-- all switches off, and no file system
abbrev pub all_off : Profile → Switches
all_off profile =
    record { profile = profile; mknod = false; mount = false; shift = false; setxattr = false; sysinfo = false; fuse = []; allowed = [] }

-- what the text at a key sets
abbrev pub set : List ℕ → Setting → List ℕ → Switches → Reading Switches
set key Mknod text s = and_then (good (config_place key) (switch_of text)) (λ on. Ok (record s { mknod = on }))
set key Mount text s = and_then (good (config_place key) (switch_of text)) (λ on. Ok (record s { mount = on }))
set key Shift text s = and_then (good (config_place key) (switch_of text)) (λ on. Ok (record s { shift = on }))
set key SetXattr text s = and_then (good (config_place key) (switch_of text)) (λ on. Ok (record s { setxattr = on }))
set key Sysinfo text s = and_then (good (config_place key) (switch_of text)) (λ on. Ok (record s { sysinfo = on }))
set key Allowed text s = and_then (good (config_place key) (file_systems s.profile text)) (λ names. Ok (record s { allowed = names }))
set key Fuse text s =
    and_then (good (config_place key) (pairs_beside s.profile s.mount s.allowed text)) (λ pairs. Ok (record s { fuse = pairs }))

abbrev pub config_member_of : ConfigKey → List ℕ → Data → Switches → Reading Switches
config_member_of Ignored key d s = Ok s
config_member_of Judged key d s = and_then (good (config_place key) (option_and_then switch_of (as_str d))) (λ on. Ok s)
config_member_of Unknown key d s = Err (BadKey (config_place key))
config_member_of (Known setting) key d s = and_then (good (config_place key) (as_str d)) (λ text. set key setting text s)

-- what one member of the configuration says: an ignored key says nothing, whatever its value, and the value of another is a text
abbrev pub config_member : List ℕ → Data → Switches → Reading Switches
config_member key d s = config_member_of (config_key s.profile key) key d s

-- what the configuration switches on; it is an object
abbrev pub config_of : Profile → Data → Reading Switches
config_of profile d = and_then (good (codes "config") (as_object d)) (λ ms. walk config_member ms (all_off profile))
