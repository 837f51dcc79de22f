-- The bits of flags, name by name.
-- By the definition of `bits_with` at the first name that is left.
use Rattle.std.proofs.Common.{◌≡◌, ℕ, ◌+◌, ◌<◌, ◌≤◌, List, [], ◌∷◌, length, map, drop, length-drop, get_or, Ok, Err, ℤ, refl, ◌∙◌, arith, add-one}
use Rattle.std.proofs.Math.Seq.{drop-cons}
use Rattle.std.specs.Prelude.{bit_or}
use Rattle.std.specs.Borrow.{Bor}
use Rattle.lex_core.specs.declared.reason.Reason.{Reason}
use Rattle.sys_abi.specs.declared.memory.OrNoMemory.{OrNoMemory}
use Rattle.sys_abi.specs.declared.memory.OrNoMemory.TheVariants.{Refused, NoMemory}
use Rattle.call_lines.specs.Operands.{bit_named, bits_with}
use Rattle.call_lines.specs.Readings.{Gives}

-- the texts that are borrowed
abbrev pub texts : List (Bor (List ℕ)) → List (List ℕ)
texts names = map (λ name. name.now) names

-- the flag of the name at this place is known
pub one_more : (nr : ℤ) (bits bit : ℕ) (names : List (Bor (List ℕ))) (i : ℕ) (d : Bor (List ℕ)) → i < length names
    → bit_named nr (get_or names i d).now ≡ Ok bit → bits_with nr bits (texts (drop i names)) ≡ bits_with nr (bit_or bits bit) (texts (drop (i + 1) names))
unfolding bits_with
one_more nr bits bit names i d l e = rw (drop-cons names i d l, e, add-one)

-- it isn't
pub unknown_flag : (nr : ℤ) (bits : ℕ) (names : List (Bor (List ℕ))) (i : ℕ) (d : Bor (List ℕ)) (reason : Reason) → i < length names
    → bit_named nr (get_or names i d).now ≡ Err reason → bits_with nr bits (texts (drop i names)) ≡ Err reason
unfolding bits_with
unknown_flag nr bits names i d reason l e = rw (drop-cons names i d l, e)

none_left : (nr : ℤ) (bits : ℕ) (names : List (Bor (List ℕ))) → length names ≡ 0 → bits_with nr bits (texts names) ≡ Ok bits
unfolding bits_with
none_left nr bits [] e = refl
none_left nr bits (name ∷ names) e = absurd (omega arith)

-- every name was read
pub all_read : (nr : ℤ) (bits : ℕ) (names : List (Bor (List ℕ))) (i : ℕ) → length names ≤ i → bits_with nr bits (texts (drop i names)) ≡ Ok bits
all_read nr bits names i l = none_left nr bits (drop i names) (simp length-drop (omega arith))

-- the reading ends there
pub ends_there : (nr : ℤ) (bits : ℕ) (names : List (Bor (List ℕ))) (i : ℕ) (d : Bor (List ℕ)) (error : OrNoMemory Reason)
    → bits_with nr 0 (texts names) ≡ bits_with nr bits (texts (drop i names)) → i < length names
    → Gives {A = ℕ} (Err error) (bit_named nr (get_or names i d).now) → Gives {A = ℕ} (Err error) (bits_with nr 0 (texts names))
ends_there nr bits names i d (Refused reason) so l e = so ∙ unknown_flag nr bits names i d reason l e
ends_there nr bits names i d NoMemory so l e = tt
