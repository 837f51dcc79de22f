-- The faults of a line, and how they are ordered.
use Rattle.std.specs.Prelude.{◌≡◌, ℕ, Bool, true, false, nat_le, Option, Some, None, Result, Ok, Err, ⊤}
use Rattle.lex_core.specs.declared.reason.Reason.{Reason}
use Rattle.lex_core.specs.declared.reason.Reason.TheVariants as reason
use Rattle.sys_abi.specs.declared.memory.OrNoMemory.{OrNoMemory}
use Rattle.sys_abi.specs.declared.memory.OrNoMemory.TheVariants.{Refused, NoMemory}
use Rattle.script_reader.specs.declared.error.Fault.{Fault}
use Rattle.script_reader.specs.declared.error.Fault.TheVariants.{Wrong, TooLarge}

abbrev pub wrong_if : Bool → Reason → Option Fault
wrong_if true reason = Some (Wrong reason)
wrong_if false reason = None

abbrev pub too_large_if : Bool → Option Fault
too_large_if true = Some TooLarge
too_large_if false = None

-- the fault that comes first, where there is one
abbrev pub or_else : Option Fault → Option Fault → Option Fault
or_else (Some fault) later = Some fault
or_else None later = later

-- a quantity is at its limit, so that one more is too many
abbrev pub full : ℕ → ℕ → Option Fault
full limit count = too_large_if (nat_le limit count)

abbrev pub duplicate : Bool → Option Fault
duplicate again = wrong_if again reason.Duplicate

-- ---- what the program's tests answer

-- there is no fault, or it is this one
abbrev pub Judges : {T : Type 0} → Option Fault → Result T Fault → Type 0
Judges fault (Ok t) = fault ≡ None
Judges fault (Err found) = fault ≡ Some found

-- there is no fault, and then this is counted, or it is this one; nothing is said of want of memory
abbrev pub Counts : {T : Type 0} → Option Fault → T → Result T (OrNoMemory Fault) → Type 0
Counts fault count (Ok found) = (fault ≡ None) × (found ≡ count)
Counts fault count (Err (Refused found)) = fault ≡ Some found
Counts fault count (Err NoMemory) = ⊤

-- what was stated becomes this where there is no fault; nothing is said of want of memory
abbrev pub Admits : {S T : Type 0} → Option Fault → S → Result T (OrNoMemory Fault) → S → Type 0
Admits fault next (Ok t) new = (fault ≡ None) × (new ≡ next)
Admits fault next (Err (Refused found)) new = fault ≡ Some found
Admits fault next (Err NoMemory) new = ⊤
