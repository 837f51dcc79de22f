-- A condition is met exactly where each of its atoms holds.
-- By cases on the condition; by induction on its flags; and the bits below 2^16 of a mount's flags are bits of the whole number.
use Rattle.std.proofs.Common.{◌≡◌, ℕ, ◌*◌, ◌/◌, ◌%◌, ◌^◌, ◌<◌, Bool, true, false, ◌&&◌, ◌||◌, not, List, [], ◌∷◌, ◌++◌, map, refl, ap, sym, ◌∙◌, arith}
use Rattle.std.specs.Prelude.{◌==◌, bit_and, if◌then◌else◌}
use Rattle.std.specs.List.{list_all, list_any}
use Rattle.std.specs.Int.{bit_at}
use Rattle.std.proofs.lemmas.Nat.{div-add-mod'}
use Rattle.std.proofs.lemmas.Nat.Bits.{and_pow, bit_at_cat_low}
use Rattle.hist_model.specs.Decisions.{has_flag, has_flags, meets}
use Rattle.hist_model.specs.declared.policy.Cond.{Cond}
use Rattle.hist_model.specs.declared.policy.Cond.TheVariants as cond
use Rattle.hist_model.specs.declared.policy.Flag.{Flag}
use Rattle.hist_model.specs.declared.request.Request.{Request}
use Rattle.hist_model.specs.declared.request.Request.TheVariants.{Mount}
use Rattle.policy_classes.specs.declared.atoms.Atom.{Atom}
use Rattle.policy_classes.specs.declared.atoms.Atom.TheVariants as atom
use Rattle.policy_classes.specs.Atoms.{all_hold, atoms_of, holds}

alone : (b : Bool) → b ≡ (b && true)
alone true = refl
alone false = refl

-- the low 16 bits of a number are those of its rest
same_low : (n k : ℕ) → k < 16 → bit_at (n % 65536) k ≡ bit_at n k
same_low n k h = sym (bit_at_cat_low (n / 65536) 16 (n % 65536) k h) ∙ ap (λ m. bit_at m k) (div-add-mod' n 65536)

pub all_hold-append : (xs ys : List Atom) (q : Request) → all_hold (xs ++ ys) q ≡ (all_hold xs q && all_hold ys q)
all_hold-append [] ys q = refl
all_hold-append (x ∷ xs) ys q = by (holds x q) (all_hold-append xs ys q)
  where
    by : (b : Bool) → all_hold (xs ++ ys) q ≡ (all_hold xs q && all_hold ys q)
        → (b && all_hold (xs ++ ys) q) ≡ ((b && all_hold xs q) && all_hold ys q)
    by true h = h
    by false h = refl

all-set : (fs : List Flag) (q : Request) → all_hold (map atom.Set fs) q ≡ list_all (λ f. has_flag q f) fs
all-set [] q = refl
all-set (f ∷ fs) q = ap (λ b. has_flag q f && b) (all-set fs q)

none-set : (fs : List Flag) (q : Request) → all_hold (map atom.Unset fs) q ≡ not (list_any (λ f. has_flag q f) fs)
none-set [] q = refl
none-set (f ∷ fs) q = by (has_flag q f) (none-set fs q)
  where
    by : (b : Bool) → all_hold (map atom.Unset fs) q ≡ not (list_any (λ f. has_flag q f) fs)
        → (not b && all_hold (map atom.Unset fs) q) ≡ not (b || list_any (λ f. has_flag q f) fs)
    by true h = refl
    by false h = h

flags-are_atoms : (all none : List Flag) (q : Request) → has_flags q all none ≡ all_hold (map atom.Set all ++ map atom.Unset none) q
flags-are_atoms all none q = rw (all_hold-append (map atom.Set all) (map atom.Unset none) q, all-set all q, none-set none q) refl

-- a bit below the 16th is one of a mount's flags where it is one of the number
low_bit : (n k : ℕ) → k < 16 → bit_and (n % 65536) (2 ^ k) ≡ bit_and n (2 ^ k)
low_bit n k h = rw (and_pow, and_pow) (ap (λ b. b * 2 ^ k) (same_low n k h))

flag_as_bit : (b : Bool) (n k : ℕ) → k < 16 → (bit_and (if b then n % 65536 else n) (2 ^ k) == 0) ≡ (bit_and n (2 ^ k) == 0)
flag_as_bit true n k h = ap (λ x. x == 0) (low_bit n k h)
flag_as_bit false n k h = refl

twice : (a b c : Bool) → (a && (b && c)) ≡ (not (not a) && (not (not b) && (not (not c) && true)))
twice true true true = refl
twice true true false = refl
twice true false c = refl
twice false b c = refl

plain-are_atoms : (q : Request) → meets cond.PlainFlags q ≡ all_hold (atoms_of cond.PlainFlags) q
plain-are_atoms (Mount source target fstype options via flags shift) =
    rw (
      flag_as_bit (bit_and flags 4294901760 == 3236757504) flags 5 (omega arith),
      flag_as_bit (bit_and flags 4294901760 == 3236757504) flags 12 (omega arith),
      flag_as_bit (bit_and flags 4294901760 == 3236757504) flags 13 (omega arith),
    ) (twice (bit_and flags 32 == 0) (bit_and flags 4096 == 0) (bit_and flags 8192 == 0))
plain-are_atoms q = refl

pub conditions_are_atoms : (c : Cond) (q : Request) → meets c q ≡ all_hold (atoms_of c) q
conditions_are_atoms (cond.Path text) q = alone _
conditions_are_atoms (cond.Under dir) q = alone _
conditions_are_atoms (cond.Kind kind) q = alone _
conditions_are_atoms (cond.Dev major minor) q = alone _
conditions_are_atoms (cond.Fstype text) q = alone _
conditions_are_atoms (cond.Source text) q = alone _
conditions_are_atoms (cond.Name text) q = alone _
conditions_are_atoms (cond.Value text) q = alone _
conditions_are_atoms (cond.Dirfd number) q = alone _
conditions_are_atoms (cond.Flags all none) q = flags-are_atoms all none q
conditions_are_atoms cond.ShortDevice q = alone _
conditions_are_atoms cond.PlainFlags q = plain-are_atoms q
