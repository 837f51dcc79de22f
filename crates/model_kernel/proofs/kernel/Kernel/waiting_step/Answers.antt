use Rattle.std.proofs.Common.{sym, subst}
use Rattle.listener.specs.Stands.{StandsFor}
use Rattle.model_kernel.proofs.Words.{Kernel, past}
use Rattle.model_kernel.specs.Steps.{IsInstallDue}
use Rattle.model_kernel.proofs.TaskSteps.{listed-as}
use Rattle.model_kernel.proofs.Waiting.{due-resume, due-later, due-install, due-none}
use Rattle.model_kernel.proofs.kernel.Kernel.waiting_step.Goals as goal

pub resume-what-requires-clause-due : goal.resume-what-requires-clause-due
resume-what-requires-clause-due c =
    let k = c.args.self.now in
    let m = c.requires.ready in
    let (place, waits) = c.requires.waits in
    due-resume k c.args.task place c.args.id c.in-Some.back m waits (c.in-Some.ensures k.script.firstid (past k) place m.kernel.resources.listener (listed-as k c.args.task place c.args.id waits))

pub deliver_inside-requires-clause-due : goal.deliver_inside-requires-clause-due
deliver_inside-requires-clause-due c =
    let k = c.args.self.now in
    let m = c.requires.ready in
    let (place, waits) = c.requires.waits in
    due-later k c.args.task place c.args.id m waits (c.in_default.ensures k.script.firstid (past k) place m.kernel.resources.listener (listed-as k c.args.task place c.args.id waits))

pub returns-in_default-next_request : goal.returns-in_default-next_request
returns-in_default-next_request c =
    let k = c.args.self.now in
    let m = c.requires.ready in
    let (place, waits) = c.requires.waits in
    let listed = listed-as k c.args.task place c.args.id waits in
    let unsettled = c.in_default.ensures k.script.firstid (past k) place m.kernel.resources.listener listed in
    let none = c.in_default-deliver_inside.ensures.none in
    let stand = subst (λ (x : Kernel). StandsFor k.script.firstid (past k) x.resources.listener) (sym none.0) m.kernel.resources.listener in
    (none.0, due-none k c.args.task place c.args.id m waits unsettled none.1 (sym (c.in_default-next_request.ensures k.script.firstid (past k) place stand listed)), c.requires.name)

pub install-what-requires-clause-due : goal.install-what-requires-clause-due
install-what-requires-clause-due c =
    let k = c.args.self.now in
    let m = c.requires.ready in
    let (place, waits) = c.requires.waits in
    let listed = listed-as k c.args.task place c.args.id waits in
    let unsettled = c.in_default.ensures k.script.firstid (past k) place m.kernel.resources.listener listed in
    let none = c.in_default-deliver_inside.ensures.none in
    let stand = subst (λ (x : Kernel). StandsFor k.script.firstid (past k) x.resources.listener) (sym none.0) m.kernel.resources.listener in
    let here : IsInstallDue k c.args.task place c.args.id c.in-Some-next_request.asked = record {
      waits = waits;
      unsettled = unsettled;
      oldest = sym (c.in-Some-next_request.ensures k.script.firstid (past k) place stand listed);
      due = due-install k c.args.task place c.args.id m waits unsettled none.1;
    } in
    (place, subst (λ (x : Kernel). IsInstallDue x c.args.task place c.args.id c.in-Some-next_request.asked) (sym none.0) here)
