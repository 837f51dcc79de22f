use Rattle.std.proofs.Common.{◌≡◌, rules, to_z, of_z, w32}
use Rattle.model_kernel.proofs.Words.{past}
use Rattle.model_kernel.proofs.NextSteps.{owed-if}
use Rattle.model_kernel.proofs.TaskSteps.{counts}
use Rattle.model_kernel.proofs.kernel.Kernel.owed_call.Goals as goal

pub prepare-requires : goal.prepare-requires
prepare-requires c = rw c.group-group.ensures.at (counts c.args.self.now c.args.task c.requires.may)

pub returns : goal.returns
returns c =
    let k = c.args.self.now in
    let m = c.requires.may in
    let (g, at, own) = c.group-group.ensures.group k.script (past k) m.kernel.tasks m.made in
    let number : to_z w32 (of_z w32 c.in-Some.entered.nr) ≡ c.in-Some.entered.nr = search rules in
    let read = rw number at c.prepare.ensures in
    owed-if k c.args.task c.in-Some.entered.nr c.in-Some.entered.args c.prepare.result c.group-group.result g m c.requires.owes at own (c.in-Some.ensures.last k.script (past k) m.kernel.tasks m.made) read
