use Rattle.model_kernel.proofs.CallStates.{no_call, some_call}
use Rattle.model_kernel.proofs.TaskSteps.{listed-as}
use Rattle.model_kernel.proofs.Words.{named, past}
use Rattle.model_kernel.proofs.kernel.Kernel.call_state.Goals as goal

pub returns-in_err-id : goal.returns-in_err-id
returns-in_err-id c =
    let k = c.args.self.now in
    rw c.from_residual.ensures (no_call (past k) (named k c.args.task) (c.in_err-id.ensures k.script (past k) c.requires.kernel.tasks c.requires.made))

pub returns : goal.returns
returns c =
    let k = c.args.self.now in
    some_call (past k) (named k c.args.task) c.in_ok-id.id c.state_of.result (c.in_ok-id.ensures k.script (past k) c.requires.kernel.tasks c.requires.made)
    (λ place at same. c.state_of.ensures place (listed-as k c.args.task place c.in_ok-id.id (record { call_is = at; id_is = same })))
