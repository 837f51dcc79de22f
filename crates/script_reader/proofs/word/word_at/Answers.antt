-- The row that is read at the place is that of the table, and it is compared as it is written.
use Rattle.std.proofs.Common.{◌≡◌, bytes_eq, sym, rules, tests}
use Rattle.std.specs.Prelude.{true, false}
use Rattle.std.proofs.lemmas.Option.{slice_get_past}
use Rattle.script_reader.proofs.WordSlots.{read_at, row_found, row_missing, row_other}
use Rattle.script_reader.proofs.word.word_at.Goals as goal

pub returns-in-Some : goal.returns-in-Some
returns-in-Some c =
    let h = c.in-Some.ensures.lookup in
    let same : bytes_eq c.in-Some.row.now.0.now c.args.bytes.now ≡ true = search (rules, tests) in
    sym (row_found c.args.table.now c.args.place c.args.bytes.now c.in-Some.row.now (read_at _ _ _ h.3.0 h.3.1) same)

pub returns-in_default : goal.returns-in_default
returns-in_default c =
    let h = c.in-Some.ensures.lookup in
    let other : bytes_eq c.in-Some.row.now.0.now c.args.bytes.now ≡ false = search (rules, tests) in
    sym (row_other c.args.table.now c.args.place c.args.bytes.now c.in-Some.row.now (read_at _ _ _ h.3.0 h.3.1) other)

pub returns-in_default-2 : goal.returns-in_default-2
returns-in_default-2 c =
    let h = rw c.in_default.is at c.get.ensures.lookup in
    sym (row_missing c.args.table.now c.args.place c.args.bytes.now (slice_get_past _ _ h.3))
