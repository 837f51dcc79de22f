use Rattle.std.proofs.Common.{◌∙◌, arith}
use Rattle.std.specs.Prelude.{vec_len}
use Rattle.tasks.specs.Table.{member, table_of}
use Rattle.tasks.proofs.Asked.{no-task}
use Rattle.tasks.proofs.Listed.{get-within}
use Rattle.tasks.proofs.Read.{no-items, no-length, some-length}
use Rattle.tasks.proofs.Reaped.{childless-answers, found-answers}
use Rattle.tasks.proofs.table.Tasks.wait_answers.Goals as goal

pub returns-then-is_empty : goal.returns-then-is_empty
returns-then-is_empty c S K s l d =
    let t = c.in-Some.task.now in
    c.if-is_empty.true ∙ childless-answers S K (table_of c.args.self.now) s.is_table c.args.o (member t) c.in-Some.ensures.some d (no-items t.waiting.items (omega (arith, no-length (vec_len t.waiting) c.is_empty.result c.is_empty.ensures c.if-is_empty.true, t.waiting.ok.0)))

pub returns-else-is_empty : goal.returns-else-is_empty
returns-else-is_empty c S K s l d =
    let t = c.in-Some.task.now in
    let first = get-within t.waiting.items 0 (omega (arith, some-length (vec_len t.waiting) c.is_empty.result c.is_empty.ensures c.if-is_empty.false, t.waiting.ok.0)) in
    c.is_some.ensures ∙ found-answers S K (table_of c.args.self.now) s.is_table c.args.o (member t) c.in-Some.ensures.some d c.first_ended.result 0 first.0 first.1 c.first_ended.ensures.some c.first_ended.ensures.first c.first_ended.ensures.none

pub returns-in-None : goal.returns-in-None
returns-in-None c S K s l d = absurd (no-task S K (table_of c.args.self.now) s.is_table c.args.o l c.in-None.ensures.none)
