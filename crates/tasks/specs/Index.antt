-- Tasks under keys, in the order of the keys.
use Rattle.std.specs.Prelude.{ℕ}
use Rattle.tasks.specs.declared.index.Entry.{Entry}

abbrev pub under : ℕ → ℕ → Entry
under key t = record { key = key; task = t }

-- by what entries are in order
abbrev pub entry_key : Entry → ℕ
entry_key e = e.key
