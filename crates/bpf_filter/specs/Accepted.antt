-- Which filters the format has, and what the first fault of another list is: said of every place, where `first_fault` searches.
use Rattle.std.specs.Prelude.{◌≡◌, ℕ, zero, suc, ◌+◌, ◌<◌, ◌≤◌, Bool, true, false, ◌==◌, ◌&&◌, List, [], ◌∷◌, length, Option, Some, None}
use Rattle.std.specs.List.{list_any}
use Rattle.hist_model.specs.declared.script.Insn.{Insn}
use Rattle.hist_model.specs.declared.filter.BadFilter.{BadFilter}
use Rattle.hist_model.specs.declared.filter.FilterReason.{FilterReason}
use Rattle.hist_model.specs.declared.filter.FilterReason.TheVariants.{Empty, TooMany, NoReturn}
use Rattle.hist_model.specs.Filters.{insn_fault, ends_with_return, returns, operation}

-- what is wrong with the instruction at a place; nothing behind the last one
abbrev pub fault_at : List Insn → ℕ → Option FilterReason
fault_at [] place = None
fault_at (i ∷ more) zero = insn_fault i (length more)
fault_at (i ∷ more) (suc place) = fault_at more place

-- nothing is wrong with any instruction before a place
abbrev pub IsSoundBefore : List Insn → ℕ → Type 0
IsSoundBefore insns place = (k : ℕ) → k < place → fault_at insns k ≡ None

-- 1 to 4096 instructions with which nothing is wrong, the last of which returns
abbrev pub IsAccepted : List Insn → Type 0
IsAccepted insns =
    (0 < length insns) × (length insns ≤ 4096) × IsSoundBefore insns (length insns) × (ends_with_return insns ≡ true)

abbrev pub IsFaultAt : List Insn → ℕ → FilterReason → Type 0
IsFaultAt insns at Empty = (length insns ≡ 0) × (at ≡ 0)
IsFaultAt insns at TooMany = (4096 < length insns) × (at ≡ 4096)
IsFaultAt insns at NoReturn =
    (length insns ≤ 4096) × IsSoundBefore insns (length insns) × (ends_with_return insns ≡ false) × (at + 1 ≡ length insns)
IsFaultAt insns at reason = (length insns ≤ 4096) × (fault_at insns at ≡ Some reason) × IsSoundBefore insns at

-- the fault that comes first: no instruction or too many, then the instructions from the first on, then how the list ends
abbrev pub IsFirstFault : List Insn → BadFilter → Type 0
IsFirstFault insns fault = IsFaultAt insns fault.at fault.reason

-- one of the instructions returns this
abbrev pub has_return : List Insn → ℕ → Bool
has_return insns value = list_any (λ i. returns (operation i.code) && i.k == value) insns
