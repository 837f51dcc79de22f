use Rattle.model_kernel.proofs.Words.{living_in, past}
use Rattle.model_kernel.proofs.TaskSteps.{counts}
use Rattle.model_kernel.proofs.kernel.Kernel.ready_next.Goals as goal

pub ready_entry-requires : goal.ready_entry-requires
ready_entry-requires c =
    let (lives, waits) = rw c.in-Waiting.is at c.requires.next in
    rw c.group-group.ensures.at (counts c.args.self.now c.args.task (record { kernel = c.requires.kernel; made = c.requires.made; lives = lives; few = c.requires.few }))

pub ready_native-requires : goal.ready_native-requires
ready_native-requires c =
    let (lives, none, owed) = rw c.in-Owed.is at c.requires.next in
    rw c.group-group.ensures.at (counts c.args.self.now c.args.task (record { kernel = c.requires.kernel; made = c.requires.made; lives = lives; few = c.requires.few }))

pub ready_entry-requires-in-Runs : goal.ready_entry-requires-in-Runs
ready_entry-requires-in-Runs c =
    let (lives, none, owes, instruction) = rw c.in-Runs.is at c.requires.next in
    rw c.group-group.ensures.at (counts c.args.self.now c.args.task (record { kernel = c.requires.kernel; made = c.requires.made; lives = lives; few = c.requires.few }))

pub returns-in-Waiting-clause-kernel : goal.returns-in-Waiting-clause-kernel
returns-in-Waiting-clause-kernel c =
    let k = c.args.self.now in
    record { tasks = c.requires.kernel.tasks; resources = c.ready_entry.ensures.stands k.script (past k) (living_in k.tasks) c.requires.kernel.resources; few = c.requires.kernel.few }

pub returns-in-Owed-clause-kernel : goal.returns-in-Owed-clause-kernel
returns-in-Owed-clause-kernel c =
    let k = c.args.self.now in
    record { tasks = c.requires.kernel.tasks; resources = c.ready_native.ensures.stands k.script (past k) (living_in k.tasks) c.requires.kernel.resources; few = c.requires.kernel.few }

pub returns-in_ok-size-in-Runs-clause-kernel : goal.returns-in_ok-size-in-Runs-clause-kernel
returns-in_ok-size-in-Runs-clause-kernel c =
    let k = c.args.self.now in
    record { tasks = c.requires.kernel.tasks; resources = c.ready_entry-in-Runs.ensures.stands k.script (past k) (living_in k.tasks) c.requires.kernel.resources; few = c.requires.kernel.few }
