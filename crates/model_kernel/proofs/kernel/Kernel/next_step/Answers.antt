use Rattle.std.proofs.Common.{refl}
use Rattle.tasks.proofs.Told.{skips-gone}
use Rattle.model_kernel.proofs.Words.{named, past, system}
use Rattle.model_kernel.proofs.Outside.{due-native}
use Rattle.model_kernel.proofs.kernel.Kernel.next_step.Goals as goal

pub run_native-what-requires-clause-due : goal.run_native-what-requires-clause-due
run_native-what-requires-clause-due c =
    let k = c.args.self.now in
    let (lives, none, owed) = rw c.in-Owed.is at c.requires.ready.next in
    due-native k c.args.task (record { kernel = c.requires.kernel; made = c.requires.made; lives = lives; few = c.requires.ready.few }) none owed.owes

pub returns-in-Ended : goal.returns-in-Ended
returns-in-Ended c =
    let k = c.args.self.now in
    (refl, skips-gone (system k) (past k) (named k c.args.task) (rw c.in-Ended.is at c.requires.ready.next), c.requires.ready.name)
