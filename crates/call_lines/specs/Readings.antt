-- What is read of a line: something, or why the line is refused.
use Rattle.std.specs.Prelude.{◌≡◌, Option, Some, None, Result, Ok, Err, ⊤}
use Rattle.lex_core.specs.declared.reason.Reason.{Reason}
use Rattle.lex_core.specs.declared.reason.Reason.TheVariants.{UnknownName}
use Rattle.sys_abi.specs.declared.memory.OrNoMemory.{OrNoMemory}
use Rattle.sys_abi.specs.declared.memory.OrNoMemory.TheVariants.{Refused, NoMemory}

-- what is read, or why it is refused
abbrev pub Reading : Type 0 → Type 0
Reading A = Result A Reason

-- what is read next, where nothing was refused before
abbrev pub and_then : {A B : Type 0} → Reading A → (A → Reading B) → Reading B
and_then (Ok x) next = next x
and_then (Err reason) next = Err reason

-- a name has to be known
abbrev pub known : {A : Type 0} → Option A → Reading A
known (Some x) = Ok x
known None = Err UnknownName

-- a reader gave this reading; nothing is said of want of memory
abbrev pub Gives : {A E : Type 0} → Result A (OrNoMemory E) → Result A E → Type 0
Gives (Ok x) reading = reading ≡ Ok x
Gives (Err (Refused error)) reading = reading ≡ Err error
Gives (Err NoMemory) reading = ⊤
