-- The words that begin the lines of a script, and where each may stand.
use Rattle.std.specs.Prelude.{ℕ, ◌+◌, ◌-◌, ◌*◌, ◌%◌, Bool, true, false, List, [], ◌∷◌, Option, Some, None, codes, bytes_eq, find, length}
use Rattle.std.specs.Prelude.{map, slice_get, slice_index, if◌then◌else◌}
use Rattle.std.specs.Borrow.{Bor}
use Rattle.std.specs.Option.{option_and_then, option_map}
use Rattle.script_reader.specs.declared.word.Word.{Word}
use Rattle.script_reader.specs.declared.word.Word.TheVariants as word
use Rattle.script_reader.specs.declared.word.Section.{Section}
use Rattle.script_reader.specs.declared.word.Section.TheVariants as section

-- each word as it is written
abbrev pub words : List (List ℕ × Word)
words =
    (codes "pidmax", word.Pidmax) ∷
    (codes "pidbase", word.Pidbase) ∷
    (codes "firstid", word.Firstid) ∷
    (codes "rlimit", word.Rlimit) ∷
    (codes "dir", word.Dir) ∷
    (codes "reg", word.Reg) ∷
    (codes "fifo", word.Fifo) ∷
    (codes "sock", word.Sock) ∷
    (codes "link", word.Link) ∷
    (codes "chr", word.Chr) ∷
    (codes "blk", word.Blk) ∷
    (codes "attr", word.Attr) ∷
    (codes "root", word.Root) ∷
    (codes "broker", word.Broker) ∷
    (codes "map", word.Map) ∷
    (codes "cgroup", word.Cgroup) ∷
    (codes "figures", word.Figures) ∷
    (codes "notify", word.Notify) ∷
    (codes "filter", word.Filter) ∷
    (codes "killable", word.Killable) ∷
    (codes "prog", word.Prog) ∷
    (codes "poke", word.Poke) ∷
    (codes "fill", word.Fill) ∷
    (codes "call", word.Call) ∷
    (codes "spawn", word.Spawn) ∷
    (codes "thread", word.Thread) ∷
    (codes "kill", word.Kill) ∷
    (codes "handler", word.Handler) ∷
    (codes "wait", word.Wait) ∷
    (codes "exit", word.Exit) ∷
    (codes "schedule", word.Schedule) ∷
    (codes "t", word.Task) ∷
    (codes "w", word.Worker) ∷
    (codes "end", word.End) ∷
    []

-- the word of a table that is written so
abbrev pub word_in : List (List ℕ × Word) → List ℕ → Option Word
word_in table bytes = option_map (λ row. row.1) (find (λ row. bytes_eq row.0 bytes) table)

-- the word that is written so
abbrev pub word_of : List ℕ → Option Word
word_of bytes = word_in words bytes

-- the first byte, and 0 where there is none
abbrev pub first_byte : List ℕ → ℕ
first_byte bytes = slice_index bytes 0

-- the last byte, and 0 where there is none
abbrev pub last_byte : List ℕ → ℕ
last_byte bytes = slice_index bytes (length bytes - 1)

-- a number by which words are found: no two of them have the same
abbrev pub slot_of : List ℕ → ℕ
slot_of bytes = (2 * first_byte bytes + 6 * last_byte bytes + 3 * (length bytes % 128)) % 128

-- the word of a row, where the row is written so
abbrev pub word_if : List ℕ → List ℕ × Word → Option Word
word_if bytes row = if bytes_eq row.0 bytes then Some row.1 else None

-- the word of the row at a place, where the row is written so
abbrev pub word_at : List (List ℕ × Word) → ℕ → List ℕ → Option Word
word_at table place bytes = option_and_then (word_if bytes) (slice_get table place)

-- the table of the program as contracts read it, with the texts that it borrows
abbrev pub rows_of : List (Bor (List ℕ) × Word) → List (List ℕ × Word)
rows_of table = map (λ row. (row.0.now, row.1)) table

-- ---- parts

-- among the settings, outside the blocks of filters
abbrev pub among_settings : Section → Bool
among_settings section.Settings = true
among_settings _ = false

-- among the settings or after a program
abbrev pub between_blocks : Section → Bool
between_blocks section.Settings = true
between_blocks section.Programs = true
between_blocks _ = false

-- in the block of a program, before `exit`
abbrev pub in_program : Section → Bool
in_program section.Program = true
in_program _ = false

abbrev pub in_schedule : Section → Bool
in_schedule section.Schedule = true
in_schedule _ = false

abbrev pub in_filter : Section → Bool
in_filter section.Filter = true
in_filter _ = false

-- in a block of any kind
abbrev pub in_block : Section → Bool
in_block section.Settings = false
in_block section.Programs = false
in_block section.Over = false
in_block _ = true

-- the lines with this word belong to the section; all that aren't named are settings
abbrev pub belongs : Word → Section → Bool
belongs word.Prog p = between_blocks p
belongs word.Schedule p = between_blocks p
belongs word.Poke p = in_program p
belongs word.Fill p = in_program p
belongs word.Call p = in_program p
belongs word.Spawn p = in_program p
belongs word.Thread p = in_program p
belongs word.Kill p = in_program p
belongs word.Handler p = in_program p
belongs word.Wait p = in_program p
belongs word.Exit p = in_program p
belongs word.Task p = in_schedule p
belongs word.Worker p = in_schedule p
belongs word.End p = in_block p
belongs _ p = among_settings p
