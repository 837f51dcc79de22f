-- A choice of a value for one field of a call is a call of the same number.
-- By cases on the field and the request.
use Rattle.std.proofs.Common.{◌≡◌, ℕ, true, List, [], ◌∷◌, map, get_or, Option, Some, None, ℤ}
use Rattle.std.specs.Prelude.{All, bit_and, bit_or}
use Rattle.std.specs.Int.{w32, w64, bit_at, bit_not}
use Rattle.std.proofs.lemmas.List.Elements.{All-cons, All-map, All-nil, All-weaker}
use Rattle.hist_model.specs.Requests.{call_of_request}
use Rattle.hist_model.specs.declared.policy.Flag.TheVariants as flag
use Rattle.hist_model.specs.declared.request.Request.{Request}
use Rattle.hist_model.specs.declared.request.Request.TheVariants.{Mknod, Mount, SetXattr, OpenAt}
use Rattle.policy_classes.specs.declared.atoms.Atom.{Atom}
use Rattle.policy_classes.specs.declared.atoms.Field.{Field}
use Rattle.policy_classes.specs.declared.atoms.Field.TheVariants as field
use Rattle.policy_classes.specs.Allowed.{IsAllowed, limit_of}
use Rattle.policy_classes.specs.Asked.{IsCall, is_descriptor_number}
use Rattle.policy_classes.specs.Choices.{HasNoMagic, IsOneField, IsOneFlag, choices}
use Rattle.policy_classes.specs.Chosen.{descriptor_values, field_texts}
use Rattle.policy_classes.specs.Nodes.{node_values}
use Rattle.policy_classes.proofs.DescriptorCases.{descriptors_allowed}
use Rattle.policy_classes.proofs.Flags.{clear_no_magic, set_no_magic}
use Rattle.policy_classes.proofs.TextCases.{texts_allowed}

-- a call without a magic number among its flags, of a number
pub record IsWitness (nr : ℤ) (q : Request) : Type 0 where
  pub call : IsCall q
  pub no_magic : HasNoMagic q
  pub number : call_of_request q ≡ nr

made : {A : Type 0} (P : A → Type 0) (Q : Request → Type 0) (make : A → Request) (xs : List A) → All P xs → ((x : A) → P x → Q (make x)) → All Q (map make xs)
made P Q make xs h to = All-map Q make xs (All-weaker P (λ x. Q (make x)) to xs h)

made_of_any : {A : Type 0} (Q : Request → Type 0) (make : A → Request) (xs : List A) → ((x : A) → Q (make x)) → All Q (map make xs)
made_of_any Q make xs to = All-map Q make xs (λ k d l. to (get_or xs k d))

two : (Q : Request → Type 0) (p q : Request) → Q p → Q q → All Q (p ∷ q ∷ [])
two Q p q g h = All-cons Q p (q ∷ []) g (All-cons Q q [] h (All-nil Q))

one : (Q : Request → Type 0) (q : Request) → Q q → All Q (q ∷ [])
one Q q h = All-cons Q q [] h (All-nil Q)

set_kept : (bit n : ℕ) → IsOneFlag (flag.Mount bit) → bit_at n 31 ≡ 0 → bit_at (bit_or n bit) 31 ≡ 0
set_kept bit n (j, l, e) h = rw e (set_no_magic n j l h)

clear_kept : (bit n : ℕ) → IsOneFlag (flag.Mount bit) → bit_at n 31 ≡ 0 → bit_at (bit_and n (bit_not w64 bit)) 31 ≡ 0
clear_kept bit n (j, l, e) h = rw e (clear_no_magic n j l h)

same_call : (d : Option ℤ) (path : List ℕ) (mode dev m e : ℕ) → IsCall (Mknod d path mode dev) → IsCall (Mknod d path m e)
same_call None path mode dev m e c = c
same_call (Some d) path mode dev m e c = c

same_number : (d : Option ℤ) (path : List ℕ) (mode dev m e : ℕ) {nr : ℤ} → call_of_request (Mknod d path mode dev) ≡ nr → call_of_request (Mknod d path m e) ≡ nr
same_number None path mode dev m e h = h
same_number (Some d) path mode dev m e h = h

abbrev MayHave : Field → List ℕ → Type 0
MayHave f t = IsAllowed (limit_of f) t

module _ (atoms : List Atom) (nr : ℤ) where
  pub kept : (f : Field) (q : Request) → IsOneField f → IsWitness nr q → All (IsWitness nr) (choices f atoms q)
  kept field.Path (Mknod None path mode dev) i w =
      made (MayHave field.Path) (IsWitness nr) (λ p. Mknod None p mode dev) (field_texts field.Path atoms) (texts_allowed field.Path tt atoms)
      (λ p a. record { call = a; no_magic = tt; number = w.number })
  kept field.Path (Mknod (Some d) path mode dev) i w =
      made (MayHave field.Path) (IsWitness nr) (λ p. Mknod (Some d) p mode dev) (field_texts field.Path atoms) (texts_allowed field.Path tt atoms)
      (λ p a. record { call = (a, w.call.1); no_magic = tt; number = w.number })
  kept field.Path (Mount s path t o u n b) i w =
      made (MayHave field.Path) (IsWitness nr) (λ p. Mount s p t o u n b) (field_texts field.Path atoms) (texts_allowed field.Path tt atoms)
      (λ p a. record { call = (w.call.0, a, w.call.2, w.call.3, w.call.4, w.call.5); no_magic = w.no_magic; number = w.number })
  kept field.Path (SetXattr path t u n) i w =
      made (MayHave field.Path) (IsWitness nr) (λ p. SetXattr p t u n) (field_texts field.Path atoms) (texts_allowed field.Path tt atoms)
      (λ p a. record { call = (a, w.call.1, w.call.2); no_magic = tt; number = w.number })
  kept field.Path (OpenAt d path n) i w =
      made (MayHave field.Path) (IsWitness nr) (λ p. OpenAt d p n) (field_texts field.Path atoms) (texts_allowed field.Path tt atoms)
      (λ p a. record { call = (a, w.call.1); no_magic = tt; number = w.number })
  kept field.Node (Mknod d path mode dev) i w =
      made_of_any (IsWitness nr) (λ x. Mknod d path x.0 x.1) (node_values atoms) (λ x. record { call = same_call d path mode dev x.0 x.1 w.call; no_magic = tt; number = same_number d path mode dev x.0 x.1 w.number })
  kept field.Fstype (Mount s path t o u n b) i w =
      made (MayHave field.Fstype) (IsWitness nr) (λ x. Mount s path x o u n b) (field_texts field.Fstype atoms) (texts_allowed field.Fstype tt atoms)
      (λ p a. record { call = (w.call.0, w.call.1, a, w.call.3, w.call.4, w.call.5); no_magic = w.no_magic; number = w.number })
  kept field.Source (Mount s path t o u n b) i w =
      made (MayHave field.Source) (IsWitness nr) (λ x. Mount x path t o u n b) (field_texts field.Source atoms) (texts_allowed field.Source tt atoms)
      (λ p a. record { call = (a, w.call.1, w.call.2, w.call.3, w.call.4, w.call.5); no_magic = w.no_magic; number = w.number })
  kept field.Name (SetXattr path t u n) i w =
      made (MayHave field.Name) (IsWitness nr) (λ x. SetXattr path x u n) (field_texts field.Name atoms) (texts_allowed field.Name tt atoms)
      (λ p a. record { call = (w.call.0, a, w.call.2); no_magic = tt; number = w.number })
  kept field.Value (SetXattr path t u n) i w =
      made (MayHave field.Value) (IsWitness nr) (λ x. SetXattr path t x n) (field_texts field.Value atoms) (texts_allowed field.Value tt atoms)
      (λ p a. record { call = (w.call.0, w.call.1, a); no_magic = tt; number = w.number })
  kept field.Dirfd (Mknod (Some d) path mode dev) i w =
      made (λ e. is_descriptor_number e ≡ true) (IsWitness nr) (λ e. Mknod (Some e) path mode dev) (descriptor_values atoms) (descriptors_allowed atoms)
      (λ x a. record { call = (w.call.0, a); no_magic = tt; number = w.number })
  kept field.Dirfd (OpenAt d path n) i w =
      made (λ e. is_descriptor_number e ≡ true) (IsWitness nr) (λ e. OpenAt e path n) (descriptor_values atoms) (descriptors_allowed atoms)
      (λ x a. record { call = (w.call.0, a); no_magic = tt; number = w.number })
  kept (field.Flag (flag.Mount bit)) (Mount s path t o u n b) i w =
      two (IsWitness nr) (Mount s path t o u (bit_or n bit) b) (Mount s path t o u (bit_and n (bit_not w64 bit)) b)
      (record { call = w.call; no_magic = set_kept bit n i w.no_magic; number = w.number })
      (record { call = w.call; no_magic = clear_kept bit n i w.no_magic; number = w.number })
  kept (field.Flag (flag.Attribute bit)) (SetXattr path t u n) i w =
      two (IsWitness nr) (SetXattr path t u (bit_or n bit)) (SetXattr path t u (bit_and n (bit_not w32 bit)))
      (record { call = w.call; no_magic = tt; number = w.number })
      (record { call = w.call; no_magic = tt; number = w.number })
  kept f q i w = one (IsWitness nr) q w
