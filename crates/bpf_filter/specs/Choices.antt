-- How one more filter changes the answer that counts.
use Rattle.std.specs.Prelude.{ℕ, Bool, List, if◌then◌else◌, nat_lt}
use Rattle.hist_model.specs.declared.script.FilterLine.{FilterLine}
use Rattle.hist_model.specs.Filters.{run_from, rank}

-- the answer of a newer filter to these words of a call's data, and whether it has the listener, beside those that count among
-- the older filters
abbrev pub newer_filter : FilterLine → List ℕ → ℕ × Bool → ℕ × Bool
newer_filter filter words older =
    let value = run_from words filter.insns 0 0 in
    if nat_lt (rank older.0) (rank value) then older else (value, filter.listener)
