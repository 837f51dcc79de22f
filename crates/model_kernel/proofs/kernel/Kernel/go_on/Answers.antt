use Rattle.std.proofs.Common.{subst, sym, ◌≡◌}
use Rattle.model_kernel.proofs.Words.{due_step, Kernel}
use Rattle.model_kernel.specs.Ready.{own_step}
use Rattle.model_kernel.proofs.Outside.{due-own, due-signal}
use Rattle.model_kernel.proofs.kernel.Kernel.go_on.Goals as goal

pub deliver_outside-requires-clause-due : goal.deliver_outside-requires-clause-due
deliver_outside-requires-clause-due c = due-signal c.args.self.now c.args.task c.requires.ready c.requires.outside c.requires.owes

pub run-requires-clause-due : goal.run-requires-clause-due
run-requires-clause-due c =
    let k = c.args.self.now in
    let none = c.in_default.ensures.none in
    subst (λ (x : Kernel). due_step x c.args.task ≡ own_step x c.args.task) (sym none.0) (due-own k c.args.task c.requires.ready c.requires.outside c.requires.owes none.1)
