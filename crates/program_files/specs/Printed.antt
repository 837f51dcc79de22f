-- What the printing of a text came to.
use Rattle.std.specs.Prelude.{◌≡◌, ℕ, ◌++◌, true, List, Result, Ok, Err}
use Rattle.io_edge.specs.Faults.{Rose}
use Rattle.io_edge.specs.SinkState.{SinkState, AddsPrefix}
use Rattle.program_files.specs.Refusals.{Stands}
use Rattle.program_files.specs.declared.status.Status.{Status}
use Rattle.program_files.specs.declared.status.Status.TheVariants.{Done, WriteFault, NoMemory}

-- what the printing of a text came to
abbrev pub Printed : List ℕ → SinkState → SinkState → Result (Unit {0}) Status → Type 0
Printed text old new (Ok u) = (old.tells ≡ true → new.taken ≡ old.taken ++ text) × Stands new
Printed text old new (Err WriteFault) = Rose old.faults new.faults × (old.tells ≡ true → AddsPrefix old.taken text new.taken)
Printed text old new (Err NoMemory) = old.tells ≡ true → AddsPrefix old.taken text new.taken
Printed text old new (Err status) = ⊥

-- the status that an outcome is
abbrev pub status_of : Result (Unit {0}) Status → Status
status_of (Ok u) = Done
status_of (Err status) = status
