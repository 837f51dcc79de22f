use Rattle.std.proofs.Common.{refl, ◌∙◌}
use Rattle.std.specs.Prelude.{Ok, Err}
use Rattle.hist_model.specs.declared.event.What.{What}
use Rattle.hist_model.specs.declared.event.What.TheVariants.{Signal}
use Rattle.sys_abi.specs.Errnos.{esrch}
use Rattle.tasks.specs.Table.{table_of, marked, with_progress}
use Rattle.tasks.proofs.Counted.{counted-step, counted-written}
use Rattle.tasks.proofs.Sent.{stands-sent}
use Rattle.tasks.proofs.Stood.{quiet-is, stands-noted}
use Rattle.tasks.proofs.table.Tasks.signal.Goals as goal

pub returns-in-Some-clause-stands : goal.returns-in-Some-clause-stands
returns-in-Some-clause-stands c S K e s p is = record {
  is_table = stands-sent S K e c.args.o (table_of c.args.self.now) (table_of c.note.new.self) (table_of c.mark.new.self) c.args.pid c.args.sig c.in-Some.target s.is_table p is (c.in-Some.ensures.some S K s) c.note.ensures c.mark.ensures;
}

pub returns-in-Some-clause-count : goal.returns-in-Some-clause-count
returns-in-Some-clause-count c g =
    counted-written c.note.new.self c.mark.new.self c.in-Some.target (λ t. with_progress t (marked t.progress c.args.sig)) g c.mark.ensures (λ t. refl) (λ t. refl)
    ∙ counted-step c.args.self.now c.note.new.self c.args.o (Signal c.args.pid c.args.sig (Ok tt)) g refl c.note.ensures

pub returns-in-None-clause-stands : goal.returns-in-None-clause-stands
returns-in-None-clause-stands c S K e s p is =
    let w : What = Signal c.args.pid c.args.sig (Err esrch) in
    record { is_table = stands-noted S K e c.args.o (table_of c.args.self.now) _ w s.is_table p is (quiet-is w refl) refl refl c.note-in-None.ensures }

pub returns-in-None-clause-count : goal.returns-in-None-clause-count
returns-in-None-clause-count c g = counted-step c.args.self.now _ c.args.o (Signal c.args.pid c.args.sig (Err esrch)) g refl c.note-in-None.ensures
