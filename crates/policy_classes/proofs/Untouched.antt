-- A choice of a value for one field changes nothing that is seen of another field.
-- By cases on the field and the request; for flags by the laws of bits.
use Rattle.std.proofs.Common.{◌≡◌, ◌≢◌, ℕ, ◌^◌, Bool, true, false, not, List, [], ◌∷◌, map, get_or, Option, Some, ℤ, refl, ap, arith}
use Rattle.std.specs.Prelude.{◌==◌, All, bit_and, bit_or}
use Rattle.std.specs.Int.{w32, w64, bit_at, bit_not}
use Rattle.std.proofs.lemmas.Bool.{eq-eqb}
use Rattle.std.proofs.lemmas.List.Elements.{All-cons, All-map, All-nil}
use Rattle.hist_model.specs.Decisions.{mount_flags}
use Rattle.hist_model.specs.declared.policy.Flag.{Flag}
use Rattle.hist_model.specs.declared.policy.Flag.TheVariants as flag
use Rattle.hist_model.specs.declared.request.Request.{Request}
use Rattle.hist_model.specs.declared.request.Request.TheVariants.{Mknod, Mount, SetXattr, OpenAt}
use Rattle.policy_classes.specs.declared.atoms.Atom.{Atom}
use Rattle.policy_classes.specs.declared.atoms.Field.{Field}
use Rattle.policy_classes.specs.declared.atoms.Field.TheVariants as field
use Rattle.policy_classes.specs.Choices.{HasNoMagic, IsOneField, IsOneFlag, choices}
use Rattle.policy_classes.specs.Chosen.{descriptor_values, field_texts}
use Rattle.policy_classes.specs.Fields.{field_eq, flag_set, sight}
use Rattle.policy_classes.specs.Nodes.{node_values}
use Rattle.policy_classes.proofs.Flags.{clear_no_magic, clear_unseen, flags_without_magic, set_no_magic, set_unseen}

-- of each other field the same is seen
abbrev pub Untouched : Field → Request → Request → Type 0
Untouched f q p = (g : Field) → IsOneField g → field_eq g f ≡ false → sight g p ≡ sight g q

path_of_mknod : (d : Option ℤ) (path p : List ℕ) (mode dev : ℕ) → Untouched field.Path (Mknod d path mode dev) (Mknod d p mode dev)
path_of_mknod d path p mode dev field.Path o h = cc
path_of_mknod d path p mode dev g o h = refl

path_of_mount : (s path p t o v : List ℕ) (n : ℕ) (b : Bool) → Untouched field.Path (Mount s path t o v n b) (Mount s p t o v n b)
path_of_mount s path p t o v n b field.Path i h = cc
path_of_mount s path p t o v n b g i h = refl

path_of_setxattr : (path p t v : List ℕ) (n : ℕ) → Untouched field.Path (SetXattr path t v n) (SetXattr p t v n)
path_of_setxattr path p t v n field.Path i h = cc
path_of_setxattr path p t v n g i h = refl

path_of_openat : (d : ℤ) (path p : List ℕ) (n : ℕ) → Untouched field.Path (OpenAt d path n) (OpenAt d p n)
path_of_openat d path p n field.Path i h = cc
path_of_openat d path p n g i h = refl

node_of_mknod : (d : Option ℤ) (path : List ℕ) (mode dev m e : ℕ) → Untouched field.Node (Mknod d path mode dev) (Mknod d path m e)
node_of_mknod d path mode dev m e field.Node o h = cc
node_of_mknod d path mode dev m e g o h = refl

fstype_of_mount : (s path t u o v : List ℕ) (n : ℕ) (b : Bool) → Untouched field.Fstype (Mount s path t o v n b) (Mount s path u o v n b)
fstype_of_mount s path t u o v n b field.Fstype i h = cc
fstype_of_mount s path t u o v n b g i h = refl

source_of_mount : (s u path t o v : List ℕ) (n : ℕ) (b : Bool) → Untouched field.Source (Mount s path t o v n b) (Mount u path t o v n b)
source_of_mount s u path t o v n b field.Source i h = cc
source_of_mount s u path t o v n b g i h = refl

name_of_setxattr : (path t u v : List ℕ) (n : ℕ) → Untouched field.Name (SetXattr path t v n) (SetXattr path u v n)
name_of_setxattr path t u v n field.Name i h = cc
name_of_setxattr path t u v n g i h = refl

value_of_setxattr : (path t v u : List ℕ) (n : ℕ) → Untouched field.Value (SetXattr path t v n) (SetXattr path t u n)
value_of_setxattr path t v u n field.Value i h = cc
value_of_setxattr path t v u n g i h = refl

descriptor_of_mknod : (d e : ℤ) (path : List ℕ) (mode dev : ℕ) → Untouched field.Dirfd (Mknod (Some d) path mode dev) (Mknod (Some e) path mode dev)
descriptor_of_mknod d e path mode dev field.Dirfd o h = cc
descriptor_of_mknod d e path mode dev g o h = refl

descriptor_of_openat : (d e : ℤ) (path : List ℕ) (n : ℕ) → Untouched field.Dirfd (OpenAt d path n) (OpenAt e path n)
descriptor_of_openat d e path n field.Dirfd i h = cc
descriptor_of_openat d e path n g i h = refl

-- ---- flags

other_power : (k j : ℕ) → (2 ^ k == 2 ^ j) ≡ false → k ≢ j
other_power k j h e = let same : (2 ^ k == 2 ^ j) ≡ true = eq-eqb (2 ^ k) (2 ^ j) (ap (λ i. 2 ^ i) e) in cc

-- the other bits are seen as before
abbrev Unseen : (ℕ → ℕ) → (ℕ → Flag) → ℕ → ℕ → ℕ → Type 0
Unseen shown which bit n m = (c : ℕ) → IsOneFlag (which c) → (c == bit) ≡ false → bit_and (shown m) c ≡ bit_and (shown n) c

flag_of_mount : (s path t o v : List ℕ) (bit n m : ℕ) (b : Bool) → Unseen mount_flags flag.Mount bit n m
    → Untouched (field.Flag (flag.Mount bit)) (Mount s path t o v n b) (Mount s path t o v m b)
flag_of_mount s path t o v bit n m b e (field.Flag (flag.Mount c)) i h = ap (λ x. flag_set (not (x == 0))) (e c i h)
flag_of_mount s path t o v bit n m b e (field.Flag (flag.Attribute c)) i h = refl
flag_of_mount s path t o v bit n m b e g i h = refl

flag_of_setxattr : (path t v : List ℕ) (bit n m : ℕ) → Unseen (λ x. x) flag.Attribute bit n m
    → Untouched (field.Flag (flag.Attribute bit)) (SetXattr path t v n) (SetXattr path t v m)
flag_of_setxattr path t v bit n m e (field.Flag (flag.Attribute c)) i h = ap (λ x. flag_set (not (x == 0))) (e c i h)
flag_of_setxattr path t v bit n m e (field.Flag (flag.Mount c)) i h = refl
flag_of_setxattr path t v bit n m e g i h = refl

set_in_mount : (bit n : ℕ) → IsOneFlag (flag.Mount bit) → bit_at n 31 ≡ 0 → Unseen mount_flags flag.Mount bit n (bit_or n bit)
set_in_mount bit n (j, lj, ej) h c (k, lk, ek) ne =
    rw (ej, ek, flags_without_magic n h, flags_without_magic (bit_or n (2 ^ j)) (set_no_magic n j lj h))
    (set_unseen n j k (other_power k j (rw (ek, ej) at ne)))

clear_in_mount : (bit n : ℕ) → IsOneFlag (flag.Mount bit) → bit_at n 31 ≡ 0 → Unseen mount_flags flag.Mount bit n (bit_and n (bit_not w64 bit))
clear_in_mount bit n (j, lj, ej) h c (k, lk, ek) ne =
    rw (ej, ek, flags_without_magic n h, flags_without_magic (bit_and n (bit_not w64 (2 ^ j))) (clear_no_magic n j lj h))
    (clear_unseen w64 n j k (omega arith) (omega arith) (other_power k j (rw (ek, ej) at ne)))

set_in_setxattr : (bit n : ℕ) → IsOneFlag (flag.Attribute bit) → Unseen (λ x. x) flag.Attribute bit n (bit_or n bit)
set_in_setxattr bit n (j, lj, ej) c (k, lk, ek) ne = rw (ej, ek) (set_unseen n j k (other_power k j (rw (ek, ej) at ne)))

clear_in_setxattr : (bit n : ℕ) → IsOneFlag (flag.Attribute bit) → Unseen (λ x. x) flag.Attribute bit n (bit_and n (bit_not w32 bit))
clear_in_setxattr bit n (j, lj, ej) c (k, lk, ek) ne =
    rw (ej, ek) (clear_unseen w32 n j k (omega arith) (omega arith) (other_power k j (rw (ek, ej) at ne)))

-- ---- each choice

itself : (f : Field) (q : Request) → All (Untouched f q) (q ∷ [])
itself f q = All-cons (Untouched f q) q [] (λ g o h. refl) (All-nil (Untouched f q))

both : (f : Field) (q one two : Request) → Untouched f q one → Untouched f q two → All (Untouched f q) (one ∷ two ∷ [])
both f q one two g h = All-cons (Untouched f q) one (two ∷ []) g (All-cons (Untouched f q) two [] h (All-nil (Untouched f q)))

of_values : {A : Type 0} (f : Field) (q : Request) (make : A → Request) (xs : List A) → ((x : A) → Untouched f q (make x)) → All (Untouched f q) (map make xs)
of_values f q make xs h = All-map (Untouched f q) make xs (λ k d l. h (get_or xs k d))

pub untouched : (f : Field) (atoms : List Atom) (q : Request) → IsOneField f → HasNoMagic q → All (Untouched f q) (choices f atoms q)
untouched field.Path atoms (Mknod d path mode dev) i h = of_values _ _ (λ p. Mknod d p mode dev) (field_texts field.Path atoms) (λ p. path_of_mknod d path p mode dev)
untouched field.Path atoms (Mount s path t o w n b) i h = of_values _ _ (λ p. Mount s p t o w n b) (field_texts field.Path atoms) (λ p. path_of_mount s path p t o w n b)
untouched field.Path atoms (SetXattr path t w n) i h = of_values _ _ (λ p. SetXattr p t w n) (field_texts field.Path atoms) (λ p. path_of_setxattr path p t w n)
untouched field.Path atoms (OpenAt d path n) i h = of_values _ _ (λ p. OpenAt d p n) (field_texts field.Path atoms) (λ p. path_of_openat d path p n)
untouched field.Node atoms (Mknod d path mode dev) i h = of_values _ _ (λ x. Mknod d path x.0 x.1) (node_values atoms) (λ x. node_of_mknod d path mode dev x.0 x.1)
untouched field.Fstype atoms (Mount s path t o w n b) i h = of_values _ _ (λ u. Mount s path u o w n b) (field_texts field.Fstype atoms) (λ u. fstype_of_mount s path t u o w n b)
untouched field.Source atoms (Mount s path t o w n b) i h = of_values _ _ (λ u. Mount u path t o w n b) (field_texts field.Source atoms) (λ u. source_of_mount s u path t o w n b)
untouched field.Name atoms (SetXattr path t w n) i h = of_values _ _ (λ u. SetXattr path u w n) (field_texts field.Name atoms) (λ u. name_of_setxattr path t u w n)
untouched field.Value atoms (SetXattr path t w n) i h = of_values _ _ (λ u. SetXattr path t u n) (field_texts field.Value atoms) (λ u. value_of_setxattr path t w u n)
untouched field.Dirfd atoms (Mknod (Some d) path mode dev) i h =
    of_values _ _ (λ e. Mknod (Some e) path mode dev) (descriptor_values atoms) (λ e. descriptor_of_mknod d e path mode dev)
untouched field.Dirfd atoms (OpenAt d path n) i h = of_values _ _ (λ e. OpenAt e path n) (descriptor_values atoms) (λ e. descriptor_of_openat d e path n)
untouched (field.Flag (flag.Mount bit)) atoms (Mount s path t o w n b) i h =
    both (field.Flag (flag.Mount bit)) (Mount s path t o w n b) _ _ (flag_of_mount s path t o w bit n (bit_or n bit) b (set_in_mount bit n i h))
    (flag_of_mount s path t o w bit n (bit_and n (bit_not w64 bit)) b (clear_in_mount bit n i h))
untouched (field.Flag (flag.Attribute bit)) atoms (SetXattr path t w n) i h =
    both (field.Flag (flag.Attribute bit)) (SetXattr path t w n) _ _ (flag_of_setxattr path t w bit n (bit_or n bit) (set_in_setxattr bit n i))
    (flag_of_setxattr path t w bit n (bit_and n (bit_not w32 bit)) (clear_in_setxattr bit n i))
untouched f atoms q i h = itself f q
