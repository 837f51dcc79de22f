use Rattle.std.proofs.Common.{refl}
use Rattle.hist_model.specs.declared.event.What.{What}
use Rattle.hist_model.specs.declared.event.What.TheVariants.{Handler}
use Rattle.tasks.proofs.Counted.{counted-step}
use Rattle.tasks.proofs.Stood.{stands-noted, quiet-is}
use Rattle.tasks.proofs.table.Tasks.handler.Goals as goal

pub returns-clause-stands : goal.returns-clause-stands
returns-clause-stands c S K e s p is =
    let w : What = Handler c.args.sig c.args.disposition in
    record { is_table = stands-noted S K e c.args.o _ _ w s.is_table p is (quiet-is w refl) refl refl c.note.ensures }

pub returns-clause-count : goal.returns-clause-count
returns-clause-count c g = counted-step c.args.self.now c.note.new.self c.args.o (Handler c.args.sig c.args.disposition) g refl c.note.ensures
