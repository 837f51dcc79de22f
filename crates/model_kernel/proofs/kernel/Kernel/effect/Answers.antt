use Rattle.std.proofs.Common.{refl, sym, ◌∙◌}
use Rattle.model_kernel.proofs.Words.{living_in, past}
use Rattle.model_kernel.proofs.Effects.{acted, denied, granted, outcome-is, walked}
use Rattle.model_kernel.proofs.Opened.{base-of}
use Rattle.model_kernel.proofs.Times.{times-spent}
use Rattle.model_kernel.proofs.Workers.{idle, serves}
use Rattle.model_kernel.proofs.kernel.Kernel.effect.Goals as goal

pub returns-then-is_spent-clause-answer : goal.returns-then-is_spent-clause-answer
returns-then-is_spent-clause-answer c = let k = c.args.self.now in denied (past k) k.resources.spent c.args.cap c.requires.kernel.resources.spent _ (sym c.is_spent.ensures ∙ c.if-is_spent.true)

pub returns-then-is_spent-clause-served : goal.returns-then-is_spent-clause-served
returns-then-is_spent-clause-served c = idle c.args.self.now c.args.worker _ c.requires.kernel refl tt

pub returns-in-Ok-clause-answer : goal.returns-in-Ok-clause-answer
returns-in-Ok-clause-answer c =
    let k = c.args.self.now in
    let T = c.requires.kernel.resources in
    granted (past k) k.resources.spent c.args.cap T.spent _ _ (sym c.is_spent.ensures ∙ c.if-is_spent.false)
    (outcome-is k.script (past k) (living_in k.tasks) k.resources T c.args.worker c.args.request.now _ _ (base-of k.script (past k) (living_in k.tasks) k.resources T c.args.worker c.base-base.result c.base-base.ensures) c.in-Ok.ensures)

pub returns-in-Ok-clause-served : goal.returns-in-Ok-clause-served
returns-in-Ok-clause-served c =
    let k = c.args.self.now in
    let T = c.requires.kernel.resources in
    serves k c.args.worker _ _
    (acted k.script (past k) (living_in k.tasks) k.resources T c.args.worker c.args.request.now c.args.cap _ c.perform_request.new.tree c.perform_request.new.walk c.spend.new.self
    (base-of k.script (past k) (living_in k.tasks) k.resources T c.args.worker c.base-base.result c.base-base.ensures) c.in-Ok.ensures (times-spent (past k) _ k.resources.spent c.spend.new.self c.args.cap T.spent refl c.spend.ensures))

pub returns-in-Err-Refused-clause-answer : goal.returns-in-Err-Refused-clause-answer
returns-in-Err-Refused-clause-answer c =
    let k = c.args.self.now in
    let T = c.requires.kernel.resources in
    let told = rw c.in-Err-Refused.field-0-is at c.in-Err-Refused.ensures in
    rw c.in-Err-Refused.field-0-is
    (granted (past k) k.resources.spent c.args.cap T.spent _ _ (sym c.is_spent.ensures ∙ c.if-is_spent.false)
    (outcome-is k.script (past k) (living_in k.tasks) k.resources T c.args.worker c.args.request.now _ _ (base-of k.script (past k) (living_in k.tasks) k.resources T c.args.worker c.base-base.result c.base-base.ensures) told.0))

pub returns-in-Err-Refused-clause-served : goal.returns-in-Err-Refused-clause-served
returns-in-Err-Refused-clause-served c =
    let k = c.args.self.now in
    let told = rw c.in-Err-Refused.field-0-is at c.in-Err-Refused.ensures in
    serves k c.args.worker _ _ (walked k.script _ (living_in k.tasks) k.resources c.perform_request.new.tree c.perform_request.new.walk told.1 (idle k c.args.worker _ c.requires.kernel refl tt).resources)
