-- A sink in memory.
use Rattle.std.specs.Prelude.{ℕ, true, false, List, []}
use Rattle.io_edge.specs.SinkState.{SinkState}

-- what is known of a sink that took these bytes, with so many faults
abbrev pub holding : List ℕ → ℕ → SinkState
holding taken faults = record { tells = true; taken = taken; faults = faults; pending = false }

-- of one that took nothing yet
abbrev pub empty_sink : SinkState
empty_sink = holding [] 0
