-- Switches that are read keep what those of every policy keep.
-- By cases on settings and texts, with the facts that each step of a reading keeps.
use Rattle.std.proofs.Common.{◌≡◌, ℕ, Bool, true, ◌&&◌, List, [], ◌∷◌, ◌++◌, Option, Some, None, option_and_then, option_map, if◌then◌else◌, false, Ok, IfOk, IfSome, codes, refl, inl, inr}
use Rattle.std.specs.Prelude.{⊤}
use Rattle.std.specs.List.{list_all}
use Rattle.std.proofs.lemmas.Bool.{and_from, and_parts, cases_Bool}
use Rattle.hist_model.specs.Decisions.{Switches}
use Rattle.hist_model.specs.PolicyRules.{AreSwitches, is_name_in}
use Rattle.hist_model.specs.RuleParts.{has_named, named_once}
use Rattle.hist_model.specs.declared.policy.Profile.{Profile}
use Rattle.hist_model.specs.declared.policy.Profile.TheVariants.{Plain, Lxd}
use Rattle.serde_json.specs.Data.{Data}
use Rattle.serde_json.specs.Find.{as_str, as_object}
use Rattle.policy_reader.specs.declared.settings.ConfigKey.{ConfigKey}
use Rattle.policy_reader.specs.declared.settings.ConfigKey.TheVariants.{Ignored, Judged, Unknown, Known}
use Rattle.policy_reader.specs.declared.settings.Setting.{Setting}
use Rattle.policy_reader.specs.declared.settings.Setting.TheVariants.{Mknod, Mount, Shift, Allowed, Fuse, SetXattr, Sysinfo}
use Rattle.policy_reader.specs.Readings.{and_then, config_place, good, walk}
use Rattle.policy_reader.specs.Settings.{all_off, config_key, config_member, config_member_of, config_of, each, file_system, file_systems, fuse_pair, fuse_pairs, is_pair_in, items_in, kept, pair_of, pairs_beside, set, switch_of}
use Rattle.policy_reader.specs.LxdLists.{shares, unless_shared}
use Rattle.policy_reader.specs.Texts.{cut_at}
use Rattle.policy_reader.proofs.Keeping.{all_push, anything, found_if, found_mapped, found_next, good_keeps, next_keeps, once_push, walk_keeps}

-- ---- Lists of file systems

each_kept : {A : Type 0} (p : A → Bool) (read : List ℕ → Option A) → ((text : List ℕ) → IfSome (read text) (λ x. p x ≡ true)) → (texts : List (List ℕ)) → IfSome (each read texts) (λ xs. list_all p xs ≡ true)
each_kept p read step [] = refl
each_kept p read step (text ∷ texts) = found_next (λ x. p x ≡ true) (λ xs. list_all p xs ≡ true) (λ x. option_map (λ xs. x ∷ xs) (each read texts)) (read text) (step text)
    (λ x h. found_mapped (λ xs. list_all p xs ≡ true) (λ xs. list_all p xs ≡ true) (λ xs. x ∷ xs) (each read texts) (each_kept p read step texts) (λ xs k. and_from (p x) (list_all p xs) h k))

-- the items pass a test, and each has a name of its own
record AreItems {A : Type 0} (p : A → Bool) (name : A → List ℕ) (xs : List A) : Type 0 where
  pass : list_all p xs ≡ true
  once : named_once name xs ≡ true

kept_once : {A : Type 0} (p : A → Bool) (name : A → List ℕ) (before xs : List A) → AreItems p name before → list_all p xs ≡ true → AreItems p name (kept name before xs)
kept_once p name before [] h k = h
kept_once p name before (x ∷ xs) h k =
    let parts = and_parts (p x) (list_all p xs) k in
    elim (cases_Bool (has_named name before (name x))) [
      | inl t ↦ rw t (kept_once p name before xs h parts.1)
      | inr n ↦ rw n (kept_once p name (before ++ x ∷ []) xs (record { pass = all_push p before x h.pass parts.0; once = once_push name before x h.once n }) parts.1)
    ]

names_kept : (profile : Profile) (text : List ℕ) → IfSome (file_systems profile text) (AreItems (is_name_in profile) (λ name. name))
names_kept profile text = found_mapped (λ xs. list_all (is_name_in profile) xs ≡ true) (AreItems (is_name_in profile) (λ name. name)) (kept (λ name. name) []) (each (file_system profile) (items_in profile text))
    (each_kept (is_name_in profile) (file_system profile) (λ item. found_if (λ x. is_name_in profile x ≡ true) (is_name_in profile item) item (λ h. h)) (items_in profile text))
    (λ xs h. kept_once (is_name_in profile) (λ name. name) [] xs (record { pass = refl; once = refl }) h)

are_names : Profile → List ℕ × List ℕ → Bool
are_names profile pair = is_name_in profile pair.0 && is_name_in profile pair.1

pair_named : (profile : Profile) (name program : List ℕ) → is_pair_in profile name program ≡ true → are_names profile (name, program) ≡ true
unfolding are_names
pair_named Plain name program h = h
pair_named Lxd name program h = refl

pair_kept : (profile : Profile) (parts : List ℕ × Option (List ℕ)) → IfSome (pair_of profile parts) (λ pair. are_names profile pair ≡ true)
pair_kept profile (name, None) = tt
pair_kept profile (name, Some program) = found_if (λ pair. are_names profile pair ≡ true) (is_pair_in profile name program) (name, program) (pair_named profile name program)

pairs_kept : (profile : Profile) (text : List ℕ) → IfSome (fuse_pairs profile text) (AreItems (are_names profile) (λ pair. pair.0))
pairs_kept profile text = found_mapped (λ xs. list_all (are_names profile) xs ≡ true) (AreItems (are_names profile) (λ pair. pair.0)) (kept (λ pair. pair.0) []) (each (fuse_pair profile) (items_in profile text))
    (each_kept (are_names profile) (fuse_pair profile) (λ item. pair_kept profile (cut_at 61 item)) (items_in profile text))
    (λ xs h. kept_once (are_names profile) (λ pair. pair.0) [] xs (record { pass = refl; once = refl }) h)

beside_kept : (profile : Profile) (mount : Bool) (allowed : List (List ℕ)) (text : List ℕ) → IfSome (pairs_beside profile mount allowed text) (AreItems (are_names profile) (λ pair. pair.0))
beside_kept Plain mount allowed text = pairs_kept Plain text
beside_kept Lxd mount allowed text = found_next (AreItems (are_names Lxd) (λ pair. pair.0)) (AreItems (are_names Lxd) (λ pair. pair.0)) (unless_shared mount allowed) (fuse_pairs Lxd text) (pairs_kept Lxd text) (λ pairs h. apart pairs h (mount && shares allowed pairs))
  where
    apart : (pairs : List (List ℕ × List ℕ)) → AreItems (are_names Lxd) (λ pair. pair.0) pairs → (shared : Bool) → IfSome (if shared then None else Some pairs) (AreItems (are_names Lxd) (λ pair. pair.0))
    apart pairs h true = tt
    apart pairs h false = h

-- ---- Settings

-- a switch says nothing of the lists
switch_kept : (key text : List ℕ) (s : Switches) (next : Bool → Switches) → ((on : Bool) → AreSwitches (next on)) → IfOk (and_then (good (config_place key) (switch_of text)) (λ on. Ok (next on))) AreSwitches
switch_kept key text s next h = next_keeps (λ _. ⊤) AreSwitches (good (config_place key) (switch_of text)) (λ on. Ok (next on)) (anything (good (config_place key) (switch_of text))) (λ on _. h on)

set_kept : (key : List ℕ) (setting : Setting) (text : List ℕ) (s : Switches) → AreSwitches s → IfOk (set key setting text s) AreSwitches
unfolding are_names
set_kept key Mknod text s h = switch_kept key text s (λ on. record s { mknod = on }) (λ on. record { allowed = h.allowed; allowed_once = h.allowed_once; fuse = h.fuse; fuse_once = h.fuse_once })
set_kept key Mount text s h = switch_kept key text s (λ on. record s { mount = on }) (λ on. record { allowed = h.allowed; allowed_once = h.allowed_once; fuse = h.fuse; fuse_once = h.fuse_once })
set_kept key Shift text s h = switch_kept key text s (λ on. record s { shift = on }) (λ on. record { allowed = h.allowed; allowed_once = h.allowed_once; fuse = h.fuse; fuse_once = h.fuse_once })
set_kept key SetXattr text s h = switch_kept key text s (λ on. record s { setxattr = on }) (λ on. record { allowed = h.allowed; allowed_once = h.allowed_once; fuse = h.fuse; fuse_once = h.fuse_once })
set_kept key Sysinfo text s h = switch_kept key text s (λ on. record s { sysinfo = on }) (λ on. record { allowed = h.allowed; allowed_once = h.allowed_once; fuse = h.fuse; fuse_once = h.fuse_once })
set_kept key Allowed text s h = next_keeps (AreItems (is_name_in s.profile) (λ name. name)) AreSwitches (good (config_place key) (file_systems s.profile text)) (λ names. Ok (record s { allowed = names })) (good_keeps (AreItems (is_name_in s.profile) (λ name. name)) (config_place key) (file_systems s.profile text) (names_kept s.profile text))
    (λ names k. record { allowed = k.pass; allowed_once = k.once; fuse = h.fuse; fuse_once = h.fuse_once })
set_kept key Fuse text s h = next_keeps (AreItems (are_names s.profile) (λ pair. pair.0)) AreSwitches (good (config_place key) (pairs_beside s.profile s.mount s.allowed text)) (λ pairs. Ok (record s { fuse = pairs })) (good_keeps (AreItems (are_names s.profile) (λ pair. pair.0)) (config_place key) (pairs_beside s.profile s.mount s.allowed text) (beside_kept s.profile s.mount s.allowed text))
    (λ pairs k. record { allowed = h.allowed; allowed_once = h.allowed_once; fuse = k.pass; fuse_once = k.once })

member_kept : (kind : ConfigKey) (key : List ℕ) (d : Data) (s : Switches) → AreSwitches s → IfOk (config_member_of kind key d s) AreSwitches
member_kept Ignored key d s h = h
member_kept Judged key d s h = next_keeps (λ _. ⊤) AreSwitches (good (config_place key) (option_and_then switch_of (as_str d))) (λ on. Ok s) (anything (good (config_place key) (option_and_then switch_of (as_str d)))) (λ on _. h)
member_kept Unknown key d s h = tt
member_kept (Known setting) key d s h = next_keeps (λ _. ⊤) AreSwitches (good (config_place key) (as_str d)) (λ text. set key setting text s) (anything (good (config_place key) (as_str d))) (λ text _. set_kept key setting text s h)

pub config_kept : (profile : Profile) (d : Data) → IfOk (config_of profile d) AreSwitches
config_kept profile d = next_keeps (λ _. ⊤) AreSwitches (good (codes "config") (as_object d)) (λ ms. walk config_member ms (all_off profile)) (anything (good (codes "config") (as_object d)))
    (λ ms _. walk_keeps AreSwitches config_member (λ key d s h. member_kept (config_key s.profile key) key d s h) ms (all_off profile) (record { allowed = refl; allowed_once = refl; fuse = refl; fuse_once = refl }))
