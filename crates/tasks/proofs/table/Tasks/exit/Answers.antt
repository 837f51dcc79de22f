use Rattle.tasks.proofs.Counted.{counted-noted}
use Rattle.tasks.proofs.Stood.{stands-noted, exits-quiet, exits-spawn, spawn-makes}
use Rattle.tasks.proofs.table.Tasks.exit.Goals as goal

pub returns-clause-stands : goal.returns-clause-stands
returns-clause-stands c S K e s p is k =
    let z = exits-spawn c.args.what.now k in
    record { is_table = stands-noted S K e c.args.o _ _ c.args.what.now s.is_table p is (exits-quiet c.args.what.now k) z (spawn-makes c.args.what.now z) c.note.ensures }

pub returns-clause-count : goal.returns-clause-count
returns-clause-count c g = counted-noted c.args.self.now c.note.new.self c.args.o c.args.what.now g c.note.ensures
