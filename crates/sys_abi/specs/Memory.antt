-- What a call that tests what it is given and takes memory answered.
use Rattle.std.specs.Prelude.{Bool, true, false, Result, Err}
use Rattle.sys_abi.specs.declared.memory.OrNoMemory.{OrNoMemory}
use Rattle.sys_abi.specs.declared.memory.OrNoMemory.TheVariants.{Refused, NoMemory}

-- a call was refused for a cause of its own, or for want of memory
abbrev pub was_refused : {T E : Type 0} → Result T (OrNoMemory E) → Bool
was_refused (Err (Refused e)) = true
was_refused _ = false

abbrev pub lacked_memory : {T E : Type 0} → Result T (OrNoMemory E) → Bool
lacked_memory (Err NoMemory) = true
lacked_memory _ = false
