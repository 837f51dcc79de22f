-- The rows of the workers, by their numbers.
use Rattle.std.specs.Prelude.{ℕ, Bool, false, List, slice_index_or, None}
use Rattle.model_kernel.specs.declared.rows.WorkerRow.{WorkerRow}

-- nothing is opened, and no session is open
abbrev pub idle : WorkerRow
idle = record { base = None; memory = None; has_session = false }

-- what is kept of a worker; nothing is opened by one that has no row
abbrev pub row_of : List WorkerRow → ℕ → WorkerRow
row_of rows w = slice_index_or rows w idle

abbrev pub has_session : WorkerRow → Bool
has_session row = row.has_session
