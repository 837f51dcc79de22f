use Rattle.std.proofs.Common.{◌≡◌, ◌||◌, true, false, not, ap, sym, ◌∙◌}
use Rattle.std.specs.Prelude.{is_some}
use Rattle.hist_model.specs.Kinds.{skips}
use Rattle.hist_model.specs.Steps.{owes_native}
use Rattle.model_kernel.proofs.Words.{named, past, signal_due}
use Rattle.model_kernel.specs.Ready.{own_step}
use Rattle.model_kernel.proofs.Outside.{outside-able}
use Rattle.model_kernel.proofs.TaskSteps.{not-held}
use Rattle.model_kernel.proofs.kernel.Kernel.can_go_on.Goals as goal

pub returns-then-owes : goal.returns-then-owes
returns-then-owes c =
    let k = c.args.self.now in
    let m = c.requires.may in
    let owes : owes_native (past k) (named k c.args.task) ≡ true = sym (c.owes.ensures k.script (past k) m.kernel.tasks m.made) ∙ c.if-owes.true in
    sym (outside-able k c.args.task m c.requires.outside ∙ ap (λ b. b || (is_some (signal_due k c.args.task) || not (skips (own_step k c.args.task)))) owes)

pub returns-then-is_due : goal.returns-then-is_due
returns-then-is_due c =
    let k = c.args.self.now in
    let m = c.requires.may in
    let owes : owes_native (past k) (named k c.args.task) ≡ false = sym (c.owes.ensures k.script (past k) m.kernel.tasks m.made) ∙ c.if-owes.false in
    let due : is_some (signal_due k c.args.task) ≡ true = sym (c.is_due.ensures k.script (past k) m.kernel.tasks m.made (not-held k.script.killable (past k) (named k c.args.task) c.requires.outside)) ∙ c.if-is_due.true in
    sym (outside-able k c.args.task m c.requires.outside ∙ (ap (λ b. b || (is_some (signal_due k c.args.task) || not (skips (own_step k c.args.task)))) owes ∙ ap (λ b. b || not (skips (own_step k c.args.task))) due))

pub returns : goal.returns
returns c =
    let k = c.args.self.now in
    let m = c.requires.may in
    let owes : owes_native (past k) (named k c.args.task) ≡ false = sym (c.owes.ensures k.script (past k) m.kernel.tasks m.made) ∙ c.if-owes.false in
    let due : is_some (signal_due k c.args.task) ≡ false = sym (c.is_due.ensures k.script (past k) m.kernel.tasks m.made (not-held k.script.killable (past k) (named k c.args.task) c.requires.outside)) ∙ c.if-is_due.false in
    c.can_execute.ensures ∙ sym (outside-able k c.args.task m c.requires.outside ∙ (ap (λ b. b || (is_some (signal_due k c.args.task) || not (skips (own_step k c.args.task)))) owes ∙ ap (λ b. b || not (skips (own_step k c.args.task))) due))
