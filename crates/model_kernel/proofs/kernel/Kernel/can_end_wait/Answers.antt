use Rattle.std.proofs.Common.{◌≡◌, ◌||◌, true, false, ap, sym, ◌∙◌}
use Rattle.std.specs.Prelude.{is_some}
use Rattle.hist_model.specs.Calls.{queue}
use Rattle.listener.specs.Stands.{oldest_in}
use Rattle.model_kernel.proofs.Words.{named, past, signal_due}
use Rattle.model_kernel.proofs.TaskSteps.{held-in, listed-as}
use Rattle.model_kernel.proofs.Waiting.{settled-able, unsettled, waiting-able}
use Rattle.model_kernel.proofs.kernel.Kernel.can_end_wait.Goals as goal

pub returns-then-is_some : goal.returns-then-is_some
returns-then-is_some c =
    let k = c.args.self.now in
    let m = c.requires.may in
    let (place, waits) = c.requires.waits in
    let settled = c.settled_back.ensures k.script.firstid (past k) place m.kernel.resources.listener (listed-as k c.args.task place c.args.id waits) in
    settled-able k c.args.task place c.args.id c.settled_back.result m waits settled (sym c.is_some.ensures ∙ c.if-is_some.true)

pub returns-then-is_due : goal.returns-then-is_due
returns-then-is_due c =
    let k = c.args.self.now in
    let m = c.requires.may in
    let (place, waits) = c.requires.waits in
    let listed = listed-as k c.args.task place c.args.id waits in
    let settled = c.settled_back.ensures k.script.firstid (past k) place m.kernel.resources.listener listed in
    let unanswered = unsettled (past k) place c.settled_back.result settled (sym c.is_some.ensures ∙ c.if-is_some.false) in
    let held = c.holds_back.ensures place listed ∙ held-in k.script.killable (past k) (named k c.args.task) place waits.call_is in
    let due : is_some (signal_due k c.args.task) ≡ true = sym (c.is_due.ensures k.script (past k) m.kernel.tasks m.made held) ∙ c.if-is_due.true in
    sym (waiting-able k c.args.task place c.args.id m waits unanswered ∙ ap (λ b. b || is_some (oldest_in (past k) (queue (past k) place))) due)

pub returns : goal.returns
returns c =
    let k = c.args.self.now in
    let m = c.requires.may in
    let (place, waits) = c.requires.waits in
    let listed = listed-as k c.args.task place c.args.id waits in
    let settled = c.settled_back.ensures k.script.firstid (past k) place m.kernel.resources.listener listed in
    let unanswered = unsettled (past k) place c.settled_back.result settled (sym c.is_some.ensures ∙ c.if-is_some.false) in
    let held = c.holds_back.ensures place listed ∙ held-in k.script.killable (past k) (named k c.args.task) place waits.call_is in
    let due : is_some (signal_due k c.args.task) ≡ false = sym (c.is_due.ensures k.script (past k) m.kernel.tasks m.made held) ∙ c.if-is_due.false in
    let next = c.next_request.ensures k.script.firstid (past k) place m.kernel.resources.listener listed in
    c.is_some-2.ensures ∙ (ap is_some next ∙ sym (waiting-able k c.args.task place c.args.id m waits unanswered ∙ ap (λ b. b || is_some (oldest_in (past k) (queue (past k) place))) due))
