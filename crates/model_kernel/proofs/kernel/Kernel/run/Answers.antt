use Rattle.model_kernel.proofs.Words.{past}
use Rattle.model_kernel.proofs.NextSteps.{fill-mapped, poke-mapped}
use Rattle.model_kernel.proofs.kernel.Kernel.run.Goals as goal

pub store-what-requires-clause-mapped : goal.store-what-requires-clause-mapped
store-what-requires-clause-mapped c =
    let k = c.args.self.now in
    let found = c.next_instr.ensures (past k) c.requires.ready.kernel.tasks c.requires.ready.made in
    let next = rw c.in-Some-Poke.field-0-is at (rw c.in-Some-Poke.is at found) in
    poke-mapped k c.args.task c.in-Some-Poke.addr c.in-Some-Poke.field-0-1 c.args.bytes c.keeps_rules.ensures next c.requires.supplied.bytes_are

pub store-what-requires-in-Some-Fill-clause-mapped : goal.store-what-requires-in-Some-Fill-clause-mapped
store-what-requires-in-Some-Fill-clause-mapped c =
    let k = c.args.self.now in
    let found = c.next_instr.ensures (past k) c.requires.ready.kernel.tasks c.requires.ready.made in
    let next = rw c.in-Some-Fill.field-0-is at (rw c.in-Some-Fill.is at found) in
    fill-mapped k c.args.task c.in-Some-Fill.addr c.in-Some-Fill.field-0-1 c.in-Some-Fill.field-0-2 c.args.bytes c.keeps_rules.ensures next c.requires.supplied.bytes_are
