use Rattle.std.proofs.Common.{refl, ◌∙◌}
use Rattle.hist_model.specs.Signals.{next_signal}
use Rattle.hist_model.specs.declared.event.What.{What}
use Rattle.hist_model.specs.declared.event.What.TheVariants.{Deliver}
use Rattle.history_frames.specs.Ordinals.{task_name_of}
use Rattle.tasks.specs.Table.{member, row_in, table_of}
use Rattle.tasks.proofs.Counted.{counted-noted}
use Rattle.tasks.proofs.Stood.{quiet-is, row-is, stands-noted}
use Rattle.tasks.proofs.Told.{delivered, due-is, none-delivered}
use Rattle.tasks.proofs.table.Tasks.deliver.Goals as goal

pub returns-in_err-sig-clause-next : goal.returns-in_err-sig-clause-next
returns-in_err-sig-clause-next c S K s l d h =
    let n = task_name_of K c.args.o in
    let T = table_of c.args.self.now in
    let t = member c.in_ok-progress.field-0.now in
    let due = due-is S K n (row_in T.tasks t) c.args.held (row-is S K T s.is_table c.args.o t c.in_ok-progress.ensures.some) h in
    rw c.from_residual-in_err-sig.ensures (none-delivered K n c.args.in_call (next_signal S.killable K n) (c.in_err-sig.ensures ∙ due))

pub returns-clause-next : goal.returns-clause-next
returns-clause-next c S K s l d h =
    let n = task_name_of K c.args.o in
    let T = table_of c.args.self.now in
    let t = member c.in_ok-progress.field-0.now in
    let due = due-is S K n (row_in T.tasks t) c.args.held (row-is S K T s.is_table c.args.o t c.in_ok-progress.ensures.some) h in
    delivered K n c.args.in_call (next_signal S.killable K n) c.in_ok-sig.sig c.in_ok-sig.disposition c.effect_of.result (c.in_ok-sig.ensures ∙ due) c.effect_of.ensures

pub returns-clause-stands : goal.returns-clause-stands
returns-clause-stands c S K e s p is =
    let w : What = Deliver c.in_ok-sig.sig c.effect_of.result in
    record { is_table = stands-noted S K e c.args.o (table_of c.args.self.now) (table_of c.note.new.self) w s.is_table p is (quiet-is w refl) refl refl c.note.ensures }

pub returns-clause-count : goal.returns-clause-count
returns-clause-count c g = counted-noted c.args.self.now c.note.new.self c.args.o (Deliver c.in_ok-sig.sig c.effect_of.result) g c.note.ensures
