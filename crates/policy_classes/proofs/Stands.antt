-- Among the choices of values for a field there is one that is like a call's value of it, and comes up to it.
-- By cases on the calls, which are of one kind, and on the field.
use Rattle.std.proofs.Common.{◌≡◌, ◌≢◌, ℕ, ◌*◌, ◌%◌, ◌^◌, ◌≤◌, min, Bool, true, false, not, List, [], ◌∷◌, get_or, Some, None, ℤ, refl, ap, sym, ◌∙◌, inl, inr, arith}
use Rattle.std.specs.Prelude.{◌==◌, Any, bit_and, bit_or, if◌then◌else◌, ⊤}
use Rattle.std.specs.Int.{w32, w64, bit_at, bit_not}
use Rattle.std.proofs.lemmas.Bool.{cases_lt, eq-eqb}
use Rattle.std.proofs.lemmas.Nat.{and_mask}
use Rattle.std.proofs.lemmas.Nat.Bits.{and_pow, bit_at_and, bit_at-lt}
use Rattle.hist_model.specs.Decisions.{has_flag, mount_flags}
use Rattle.hist_model.specs.declared.policy.Flag.TheVariants as flag
use Rattle.hist_model.specs.declared.request.Request.{Request}
use Rattle.hist_model.specs.declared.request.Request.TheVariants.{Mknod, Mount, SetXattr, OpenAt, Sysinfo, Other}
use Rattle.policy_classes.specs.declared.atoms.Atom.{Atom}
use Rattle.policy_classes.specs.declared.atoms.Field.{Field}
use Rattle.policy_classes.specs.declared.atoms.Field.TheVariants as field
use Rattle.policy_classes.specs.Asked.{IsCall}
use Rattle.policy_classes.specs.Choices.{HasNoMagic, IsOneField, IsOneFlag, choices}
use Rattle.policy_classes.specs.Chosen.{descriptor_values, field_texts}
use Rattle.policy_classes.specs.Fields.{Sight, flag_set, sight, suits}
use Rattle.policy_classes.specs.Nodes.{node_values}
use Rattle.policy_classes.specs.Order.{call_rank, descriptor_part, free_part, is_at_most, number_part, plain_path, plain_word, text_part}
use Rattle.policy_classes.specs.Standing.{Alike, IsUpTo}
use Rattle.policy_classes.proofs.DescriptorCases.{descriptors_stand}
use Rattle.policy_classes.proofs.Flags.{clear_no_magic, clear_seen, flags_without_magic, or_other, set_no_magic, set_seen}
use Rattle.policy_classes.proofs.Lists.{any_made}
use Rattle.policy_classes.proofs.NodeCases.{nodes_stand}
use Rattle.policy_classes.proofs.Ranks.{AreFlagsOf, flags_up_to, parts_at_most, up_to_itself}
use Rattle.policy_classes.proofs.TextCases.{texts_stand}

-- two calls that have the same fields
abbrev pub SameShape : Request → Request → Type 0
SameShape (Mknod None path mode dev) (Mknod None p m e) = ⊤
SameShape (Mknod (Some d) path mode dev) (Mknod (Some f) p m e) = ⊤
SameShape (Mount s path t o u n b) (Mount s' path' t' o' u' n' b') = ⊤
SameShape (SetXattr path t u n) (SetXattr path' t' u' n') = ⊤
SameShape (OpenAt d path n) (OpenAt d' path' n') = ⊤
SameShape (Sysinfo addr) (Sysinfo addr') = ⊤
SameShape (Other nr) (Other nr') = ⊤
SameShape _ _ = ⊥

-- ---- calls whose fields come up to another's

abbrev pub TextUpTo : List ℕ → List ℕ → List ℕ → Type 0
TextUpTo plain t u = IsUpTo (text_part plain t) (text_part plain u)

abbrev pub NumberUpTo : ℕ → ℕ → Type 0
NumberUpTo n m = IsUpTo (number_part n) (number_part m)

abbrev pub DescriptorUpTo : ℤ → ℤ → Type 0
DescriptorUpTo d e = IsUpTo (descriptor_part d) (descriptor_part e)

abbrev pub ComesUpTo : Request → Request → Type 0
ComesUpTo (Mknod None path mode dev) (Mknod None p m e) = TextUpTo plain_path path p × NumberUpTo mode m × NumberUpTo dev e
ComesUpTo (Mknod (Some d) path mode dev) (Mknod (Some h) p m e) =
    TextUpTo plain_path path p × NumberUpTo mode m × NumberUpTo dev e × DescriptorUpTo d h
ComesUpTo (Mount s path t o u n b) (Mount s' p t' o' u' m b') =
    TextUpTo plain_path path p × TextUpTo plain_word t t' × TextUpTo plain_word s s' × TextUpTo [] o o' × AreFlagsOf n m
ComesUpTo (SetXattr path t u n) (SetXattr p t' u' m) =
    TextUpTo plain_path path p × TextUpTo plain_word t t' × TextUpTo [] u u' × AreFlagsOf n m
ComesUpTo (OpenAt d path n) (OpenAt h p m) = TextUpTo plain_path path p × DescriptorUpTo d h × AreFlagsOf n m
ComesUpTo (Sysinfo a) (Sysinfo b) = NumberUpTo a b
ComesUpTo (Other a) (Other b) = IsUpTo (free_part (call_rank a)) (free_part (call_rank b))
ComesUpTo _ _ = ⊥

pub at_most : (q r : Request) → ComesUpTo q r → is_at_most q r ≡ true
at_most (Mknod None path mode dev) (Mknod None p m e) h =
    parts_at_most (Mknod None path mode dev) (Mknod None p m e) (up_to_itself (free_part 2), (h.0, (h.1, (h.2, tt))))
at_most (Mknod (Some d) path mode dev) (Mknod (Some d') p m e) h =
    parts_at_most (Mknod (Some d) path mode dev) (Mknod (Some d') p m e) (up_to_itself (free_part 6), (h.0, (h.1, (h.2, (h.3, tt)))))
at_most (Mount s path t o u n b) (Mount s' p t' o' u' m b') h =
    parts_at_most (Mount s path t o u n b) (Mount s' p t' o' u' m b') (up_to_itself (free_part 3), (h.0, (h.1, (h.2, (h.3, (flags_up_to n m h.4, tt))))))
at_most (SetXattr path t u n) (SetXattr p t' u' m) h =
    parts_at_most (SetXattr path t u n) (SetXattr p t' u' m) (up_to_itself (free_part 4), (h.0, (h.1, (h.2, (flags_up_to n m h.3, tt)))))
at_most (OpenAt d path n) (OpenAt d' p m) h =
    parts_at_most (OpenAt d path n) (OpenAt d' p m) (up_to_itself (free_part 5), (h.0, (h.1, (flags_up_to n m h.2, tt))))
at_most (Sysinfo a) (Sysinfo b) h = parts_at_most (Sysinfo a) (Sysinfo b) (up_to_itself (free_part 1), (h, tt))
at_most (Other a) (Other b) h = parts_at_most (Other a) (Other b) (up_to_itself (free_part 0), (h, tt))
at_most q r h = absurd h

-- ---- flags

-- the flags that are seen of a mount are among its flags
seen_flags : (m k : ℕ) → bit_at (mount_flags m) k ≤ bit_at m k
seen_flags m k = by (bit_and m 4294901760 == 3236757504)
  where
    by : (b : Bool) → bit_at (if b then m % 65536 else m) k ≤ bit_at m k
    by true = lower
      where
        lower : bit_at (m % 65536) k ≤ bit_at m k
        lower = let same : bit_and m 65535 ≡ m % 65536 = and_mask m 16 in let l : bit_at (bit_and m 65535) k ≡ min (bit_at m k) (bit_at 65535 k) = bit_at_and m 65535 k in
            let e : bit_at (m % 65536) k ≡ bit_at (bit_and m 65535) k = ap (λ x. bit_at x k) (sym same) in omega arith
    by false = omega arith

nothing : (j : ℕ) → 0 * 2 ^ j ≡ 0
nothing j = omega arith

-- a flag that is seen is set
seen_is_set : (n j : ℕ) → not (bit_and n (2 ^ j) == 0) ≡ true → bit_at n j ≡ 1
seen_is_set n j h = elim (cases_lt 0 (bit_at n j)) [
  | inl lt ↦ let l = bit_at-lt n j in omega arith
  | inr le ↦
      let none : bit_and n (2 ^ j) ≡ 0 = and_pow n j ∙ ap (λ x. x * 2 ^ j) (let e : bit_at n j ≡ 0 = omega arith in e) ∙ nothing j in
      let so : (bit_and n (2 ^ j) == 0) ≡ true = eq-eqb (bit_and n (2 ^ j)) 0 none in cc
]

set_up_to : (n m j : ℕ) → AreFlagsOf n m → bit_at m j ≡ 1 → AreFlagsOf (bit_or n (2 ^ j)) m
set_up_to n m j h e k = elim (cases_lt k j) [
  | inl lt ↦ other (omega arith)
  | inr ge ↦ elim (cases_lt j k) [
    | inl lt ↦ other (omega arith)
    | inr le ↦ let same : k ≡ j = omega arith in let l = bit_at-lt (bit_or n (2 ^ j)) k in let one : bit_at m k ≡ 1 = ap (bit_at m) same ∙ e in omega arith
  ]
]
  where
    other : k ≢ j → bit_at (bit_or n (2 ^ j)) k ≤ bit_at m k
    other ne = let s = or_other n j k ne in let l = h k in omega arith

clear_up_to : (n m x : ℕ) → AreFlagsOf n m → AreFlagsOf (bit_and n x) m
clear_up_to n m x h k = let s = bit_at_and n x k in let l = h k in omega arith

any_more : {A : Type 0} (P Q : A → Type 0) (xs : List A) → ((x : A) → P x → Q x) → Any P xs → Any Q xs
any_more P Q xs to (k, x, l, e, h) = (k, x, l, e, to x h)

module _ (atoms : List Atom) where
  -- where the same is seen
  alike : (f : Field) (s t : Sight) → s ≡ t → Alike atoms f s t
  alike f s t e k d l o = ap (suits (get_or atoms k d)) e

  -- what is seen of the field suits the same atoms
  abbrev pub Likes : Field → Request → Request → Type 0
  Likes f r p = Alike atoms f (sight f p) (sight f r)

  -- what one of the choices is to be
  abbrev pub Serves : Field → Request → Request → Type 0
  Serves f r p = Likes f r p × ComesUpTo p r

  -- a flag that is set in the one and not in the other is like it in one of both
  of_flag : (f : Field) (r p q : Request) (b : Bool) → sight f r ≡ flag_set b → sight f p ≡ flag_set true → sight f q ≡ flag_set false
      → (b ≡ true → ComesUpTo p r) → ComesUpTo q r → Any (Serves f r) (p ∷ q ∷ [])
  of_flag f r p q true er ep eq up down = (0, p, omega arith, refl, (alike f (sight f p) (sight f r) (ep ∙ sym er), up refl))
  of_flag f r p q false er ep eq up down = (1, q, omega arith, refl, (alike f (sight f q) (sight f r) (eq ∙ sym er), down))

  set_in_mount : (s path t o u : List ℕ) (n bit : ℕ) (b : Bool) → IsOneFlag (flag.Mount bit) → bit_at n 31 ≡ 0
      → sight (field.Flag (flag.Mount bit)) (Mount s path t o u (bit_or n bit) b) ≡ flag_set true
  set_in_mount s path t o u n bit b (j, l, e) h =
      rw (e, flags_without_magic (bit_or n (2 ^ j)) (set_no_magic n j l h)) (ap flag_set (set_seen n j))

  clear_in_mount : (s path t o u : List ℕ) (n bit : ℕ) (b : Bool) → IsOneFlag (flag.Mount bit) → bit_at n 31 ≡ 0
      → sight (field.Flag (flag.Mount bit)) (Mount s path t o u (bit_and n (bit_not w64 bit)) b) ≡ flag_set false
  clear_in_mount s path t o u n bit b (j, l, e) h =
      rw (e, flags_without_magic (bit_and n (bit_not w64 (2 ^ j))) (clear_no_magic n j l h)) (ap flag_set (clear_seen w64 n j (omega arith)))

  set_in_setxattr : (path t u : List ℕ) (n bit : ℕ) → IsOneFlag (flag.Attribute bit)
      → sight (field.Flag (flag.Attribute bit)) (SetXattr path t u (bit_or n bit)) ≡ flag_set true
  set_in_setxattr path t u n bit (j, l, e) = rw e (ap flag_set (set_seen n j))

  clear_in_setxattr : (path t u : List ℕ) (n bit : ℕ) → IsOneFlag (flag.Attribute bit)
      → sight (field.Flag (flag.Attribute bit)) (SetXattr path t u (bit_and n (bit_not w32 bit))) ≡ flag_set false
  clear_in_setxattr path t u n bit (j, l, e) = rw e (ap flag_set (clear_seen w32 n j (omega arith)))

  -- the field is one that the calls haven't
  absent : (f : Field) (q r : Request) → sight f q ≡ sight f r → ComesUpTo q r → Any (Serves f r) (q ∷ [])
  absent f q r e h = (0, q, omega arith, refl, (alike f (sight f q) (sight f r) e, h))

  of_mknod : (f : Field) (path p : List ℕ) (mode dev m e : ℕ) → IsCall (Mknod None p m e) → ComesUpTo (Mknod None path mode dev) (Mknod None p m e)
      → Any (Serves f (Mknod None p m e)) (choices f atoms (Mknod None path mode dev))
  of_mknod field.Path path p mode dev m e c h =
      any_made (Serves field.Path (Mknod None p m e)) (λ x. Mknod None x mode dev) (field_texts field.Path atoms)
      (any_more _ _ (field_texts field.Path atoms) (λ x s. (s.0, (s.1, h.1, h.2))) (texts_stand field.Path atoms p tt c))
  of_mknod field.Node path p mode dev m e c h =
      any_made (Serves field.Node (Mknod None p m e)) (λ x. Mknod None path x.0 x.1) (node_values atoms)
      (any_more _ _ (node_values atoms) (λ x s. (s.0, (h.0, s.1, s.2))) (nodes_stand atoms (m, e)))
  of_mknod (field.Flag (flag.Mount bit)) path p mode dev m e c h =
      absent (field.Flag (flag.Mount bit)) (Mknod None path mode dev) (Mknod None p m e) refl h
  of_mknod (field.Flag (flag.Attribute bit)) path p mode dev m e c h =
      absent (field.Flag (flag.Attribute bit)) (Mknod None path mode dev) (Mknod None p m e) refl h
  of_mknod f path p mode dev m e c h = absent f (Mknod None path mode dev) (Mknod None p m e) refl h

  of_mknodat : (f : Field) (d g : ℤ) (path p : List ℕ) (mode dev m e : ℕ) → IsCall (Mknod (Some g) p m e)
      → ComesUpTo (Mknod (Some d) path mode dev) (Mknod (Some g) p m e)
      → Any (Serves f (Mknod (Some g) p m e)) (choices f atoms (Mknod (Some d) path mode dev))
  of_mknodat field.Path d g path p mode dev m e c h =
      any_made (Serves field.Path (Mknod (Some g) p m e)) (λ x. Mknod (Some d) x mode dev) (field_texts field.Path atoms)
      (any_more _ _ (field_texts field.Path atoms) (λ x s. (s.0, (s.1, h.1, h.2, h.3))) (texts_stand field.Path atoms p tt c.0))
  of_mknodat field.Node d g path p mode dev m e c h =
      any_made (Serves field.Node (Mknod (Some g) p m e)) (λ x. Mknod (Some d) path x.0 x.1) (node_values atoms)
      (any_more _ _ (node_values atoms) (λ x s. (s.0, (h.0, s.1, s.2, h.3))) (nodes_stand atoms (m, e)))
  of_mknodat field.Dirfd d g path p mode dev m e c h =
      any_made (Serves field.Dirfd (Mknod (Some g) p m e)) (λ x. Mknod (Some x) path mode dev) (descriptor_values atoms)
      (any_more _ _ (descriptor_values atoms) (λ x s. (s.0, (h.0, h.1, h.2, s.1))) (descriptors_stand atoms g c.1))
  of_mknodat (field.Flag (flag.Mount bit)) d g path p mode dev m e c h =
      absent (field.Flag (flag.Mount bit)) (Mknod (Some d) path mode dev) (Mknod (Some g) p m e) refl h
  of_mknodat (field.Flag (flag.Attribute bit)) d g path p mode dev m e c h =
      absent (field.Flag (flag.Attribute bit)) (Mknod (Some d) path mode dev) (Mknod (Some g) p m e) refl h
  of_mknodat f d g path p mode dev m e c h = absent f (Mknod (Some d) path mode dev) (Mknod (Some g) p m e) refl h

  of_openat : (f : Field) (d g : ℤ) (path p : List ℕ) (n m : ℕ) → IsCall (OpenAt g p m) → ComesUpTo (OpenAt d path n) (OpenAt g p m)
      → Any (Serves f (OpenAt g p m)) (choices f atoms (OpenAt d path n))
  of_openat field.Path d g path p n m c h =
      any_made (Serves field.Path (OpenAt g p m)) (λ x. OpenAt d x n) (field_texts field.Path atoms)
      (any_more _ _ (field_texts field.Path atoms) (λ x s. (s.0, (s.1, h.1, h.2))) (texts_stand field.Path atoms p tt c.0))
  of_openat field.Dirfd d g path p n m c h =
      any_made (Serves field.Dirfd (OpenAt g p m)) (λ x. OpenAt x path n) (descriptor_values atoms)
      (any_more _ _ (descriptor_values atoms) (λ x s. (s.0, (h.0, s.1, h.2))) (descriptors_stand atoms g c.1))
  of_openat (field.Flag (flag.Mount bit)) d g path p n m c h = absent (field.Flag (flag.Mount bit)) (OpenAt d path n) (OpenAt g p m) refl h
  of_openat (field.Flag (flag.Attribute bit)) d g path p n m c h = absent (field.Flag (flag.Attribute bit)) (OpenAt d path n) (OpenAt g p m) refl h
  of_openat f d g path p n m c h = absent f (OpenAt d path n) (OpenAt g p m) refl h

  of_mount : (f : Field) (s path t o u s' p t' o' u' : List ℕ) (n m : ℕ) (b b' : Bool) → IsOneField f → bit_at n 31 ≡ 0
      → IsCall (Mount s' p t' o' u' m b') → ComesUpTo (Mount s path t o u n b) (Mount s' p t' o' u' m b')
      → Any (Serves f (Mount s' p t' o' u' m b')) (choices f atoms (Mount s path t o u n b))
  of_mount field.Path s path t o u s' p t' o' u' n m b b' i z c h =
      any_made (Serves field.Path (Mount s' p t' o' u' m b')) (λ x. Mount s x t o u n b) (field_texts field.Path atoms)
      (any_more _ _ (field_texts field.Path atoms) (λ x y. (y.0, (y.1, h.1, h.2, h.3, h.4))) (texts_stand field.Path atoms p tt c.1))
  of_mount field.Fstype s path t o u s' p t' o' u' n m b b' i z c h =
      any_made (Serves field.Fstype (Mount s' p t' o' u' m b')) (λ x. Mount s path x o u n b) (field_texts field.Fstype atoms)
      (any_more _ _ (field_texts field.Fstype atoms) (λ x y. (y.0, (h.0, y.1, h.2, h.3, h.4))) (texts_stand field.Fstype atoms t' tt c.2))
  of_mount field.Source s path t o u s' p t' o' u' n m b b' i z c h =
      any_made (Serves field.Source (Mount s' p t' o' u' m b')) (λ x. Mount x path t o u n b) (field_texts field.Source atoms)
      (any_more _ _ (field_texts field.Source atoms) (λ x y. (y.0, (h.0, h.1, y.1, h.3, h.4))) (texts_stand field.Source atoms s' tt c.0))
  of_mount (field.Flag (flag.Mount bit)) s path t o u s' p t' o' u' n m b b' i z c h =
      of_flag (field.Flag (flag.Mount bit)) (Mount s' p t' o' u' m b') (Mount s path t o u (bit_or n bit) b)
      (Mount s path t o u (bit_and n (bit_not w64 bit)) b) (has_flag (Mount s' p t' o' u' m b') (flag.Mount bit)) refl
      (set_in_mount s path t o u n bit b i z) (clear_in_mount s path t o u n bit b i z)
      (λ is. (h.0, h.1, h.2, h.3, of_bit i is)) (h.0, h.1, h.2, h.3, clear_up_to n m (bit_not w64 bit) h.4)
    where
      of_bit : IsOneFlag (flag.Mount bit) → not (bit_and (mount_flags m) bit == 0) ≡ true → AreFlagsOf (bit_or n bit) m
      of_bit (j, l, e) is =
          rw e (set_up_to n m j h.4
          (let one : bit_at (mount_flags m) j ≡ 1 = seen_is_set (mount_flags m) j (rw e at is) in let up = seen_flags m j in let low = bit_at-lt m j in omega arith))
  of_mount f s path t o u s' p t' o' u' n m b b' i z c h = absent f (Mount s path t o u n b) (Mount s' p t' o' u' m b') refl h

  of_setxattr : (f : Field) (path t u p t' u' : List ℕ) (n m : ℕ) → IsOneField f → IsCall (SetXattr p t' u' m)
      → ComesUpTo (SetXattr path t u n) (SetXattr p t' u' m) → Any (Serves f (SetXattr p t' u' m)) (choices f atoms (SetXattr path t u n))
  of_setxattr field.Path path t u p t' u' n m i c h =
      any_made (Serves field.Path (SetXattr p t' u' m)) (λ x. SetXattr x t u n) (field_texts field.Path atoms)
      (any_more _ _ (field_texts field.Path atoms) (λ x s. (s.0, (s.1, h.1, h.2, h.3))) (texts_stand field.Path atoms p tt c.0))
  of_setxattr field.Name path t u p t' u' n m i c h =
      any_made (Serves field.Name (SetXattr p t' u' m)) (λ x. SetXattr path x u n) (field_texts field.Name atoms)
      (any_more _ _ (field_texts field.Name atoms) (λ x s. (s.0, (h.0, s.1, h.2, h.3))) (texts_stand field.Name atoms t' tt c.1))
  of_setxattr field.Value path t u p t' u' n m i c h =
      any_made (Serves field.Value (SetXattr p t' u' m)) (λ x. SetXattr path t x n) (field_texts field.Value atoms)
      (any_more _ _ (field_texts field.Value atoms) (λ x s. (s.0, (h.0, h.1, s.1, h.3))) (texts_stand field.Value atoms u' tt c.2))
  of_setxattr (field.Flag (flag.Attribute bit)) path t u p t' u' n m i c h =
      of_flag (field.Flag (flag.Attribute bit)) (SetXattr p t' u' m) (SetXattr path t u (bit_or n bit))
      (SetXattr path t u (bit_and n (bit_not w32 bit))) (has_flag (SetXattr p t' u' m) (flag.Attribute bit)) refl
      (set_in_setxattr path t u n bit i) (clear_in_setxattr path t u n bit i)
      (λ is. (h.0, h.1, h.2, of_bit i is)) (h.0, h.1, h.2, clear_up_to n m (bit_not w32 bit) h.3)
    where
      of_bit : IsOneFlag (flag.Attribute bit) → not (bit_and m bit == 0) ≡ true → AreFlagsOf (bit_or n bit) m
      of_bit (j, l, e) is = rw e (set_up_to n m j h.3 (seen_is_set m j (rw e at is)))
  of_setxattr f path t u p t' u' n m i c h = absent f (SetXattr path t u n) (SetXattr p t' u' m) refl h

  of_sysinfo : (f : Field) (a a' : ℕ) → ComesUpTo (Sysinfo a) (Sysinfo a') → Any (Serves f (Sysinfo a')) (choices f atoms (Sysinfo a))
  of_sysinfo (field.Flag (flag.Mount bit)) a a' h = absent (field.Flag (flag.Mount bit)) (Sysinfo a) (Sysinfo a') refl h
  of_sysinfo (field.Flag (flag.Attribute bit)) a a' h = absent (field.Flag (flag.Attribute bit)) (Sysinfo a) (Sysinfo a') refl h
  of_sysinfo f a a' h = absent f (Sysinfo a) (Sysinfo a') refl h

  of_other : (f : Field) (a a' : ℤ) → ComesUpTo (Other a) (Other a') → Any (Serves f (Other a')) (choices f atoms (Other a))
  of_other (field.Flag (flag.Mount bit)) a a' h = absent (field.Flag (flag.Mount bit)) (Other a) (Other a') refl h
  of_other (field.Flag (flag.Attribute bit)) a a' h = absent (field.Flag (flag.Attribute bit)) (Other a) (Other a') refl h
  of_other f a a' h = absent f (Other a) (Other a') refl h

  pub one_serves : (f : Field) (q r : Request) → IsOneField f → HasNoMagic q → IsCall r → ComesUpTo q r → Any (Serves f r) (choices f atoms q)
  one_serves f (Mknod None path mode dev) (Mknod None p m e) i z c h = of_mknod f path p mode dev m e c h
  one_serves f (Mknod (Some d) path mode dev) (Mknod (Some d') p m e) i z c h = of_mknodat f d d' path p mode dev m e c h
  one_serves f (Mount s path t o u n b) (Mount s' p t' o' u' m b') i z c h = of_mount f s path t o u s' p t' o' u' n m b b' i z c h
  one_serves f (SetXattr path t u n) (SetXattr p t' u' m) i z c h = of_setxattr f path t u p t' u' n m i c h
  one_serves f (OpenAt d path n) (OpenAt d' p m) i z c h = of_openat f d d' path p n m c h
  one_serves f (Sysinfo a) (Sysinfo a') i z c h = of_sysinfo f a a' h
  one_serves f (Other a) (Other a') i z c h = of_other f a a' h
  one_serves f q r i z c h = absurd h
