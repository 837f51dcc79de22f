use Rattle.std.proofs.Common.{◌≡◌, Some, Ok, arith, length, rules, refl, subst, sym, ap, ◌∙◌, not}
use Rattle.std.specs.Result.{is_err}
use Rattle.hist_model.specs.Memory.{all_mapped}
use Rattle.task_groups.proofs.Events.{plants}
use Rattle.model_kernel.proofs.Words.{ev, groups_after, living_in, memories_in, past, Plant, respects, system, Worker}
use Rattle.model_kernel.proofs.Effects.{denied, granted, planted, store-answer, stored_so}
use Rattle.model_kernel.proofs.Opened.{memories-some, memory-of, memory-row}
use Rattle.model_kernel.proofs.Times.{times-spent}
use Rattle.model_kernel.proofs.Workers.{idle, serves}
use Rattle.model_kernel.proofs.kernel.Kernel.stored.Goals as goal

pub unreachable-requires : goal.unreachable-requires
unreachable-requires c =
    let k = c.args.self.now in
    c.requires.memory (memory-of k.script (past k) (living_in k.tasks) k.resources c.requires.kernel.resources c.args.worker _ (sym c.in_default.is ∙ c.memory.ensures))

pub store-requires-clause-row : goal.store-requires-clause-row
store-requires-clause-row c =
    let k = c.args.self.now in
    memory-row k.script (past k) (living_in k.tasks) k.resources c.requires.kernel.resources c.args.worker c.in-Some.group (sym c.memory.ensures ∙ c.in-Some.is)

pub returns-then-is_spent-clause-answer : goal.returns-then-is_spent-clause-answer
returns-then-is_spent-clause-answer c = let k = c.args.self.now in denied (past k) k.resources.spent c.args.cap c.requires.kernel.resources.spent _ (sym c.is_spent.ensures ∙ c.if-is_spent.true)

pub returns-then-is_spent-clause-served : goal.returns-then-is_spent-clause-served
returns-then-is_spent-clause-served c = idle c.args.self.now c.args.worker _ c.requires.kernel refl tt

pub returns-in-Ok-clause-answer : goal.returns-in-Ok-clause-answer
returns-in-Ok-clause-answer c =
    let k = c.args.self.now in
    let T = c.requires.kernel.resources in
    let size : length c.args.bytes.now ≡ 112 = search rules in
    let fault = subst (λ n. is_err c.store.result ≡ not (all_mapped k.script.map c.args.addr n)) size (c.store.ensures.fault (groups_after k (past k)) T.groups) in
    granted (past k) k.resources.spent c.args.cap T.spent _ _ (sym c.is_spent.ensures ∙ c.if-is_spent.false) (store-answer ((system k).writable c.args.addr) c.store.result fault ∙ ap stored_so c.in-Ok.is)

pub returns-in-Ok-clause-served : goal.returns-in-Ok-clause-served
returns-in-Ok-clause-served c =
    let k = c.args.self.now in
    let T = c.requires.kernel.resources in
    let q = sym c.memory.ensures ∙ c.in-Some.is in
    let (g, own, at) = memory-of k.script (past k) (living_in k.tasks) k.resources T c.args.worker (Some c.in-Some.group) (sym q) in
    let e = ev (Worker c.args.worker) (Plant c.args.addr c.args.bytes.now c.args.cap (Ok tt)) in
    serves k c.args.worker _ _
    (planted k.script (past k) (living_in k.tasks) k.resources T c.args.worker c.args.addr c.args.bytes.now c.args.cap c.store.new.self c.spend.new.self
    (respects _ _ _
    (plants k.script (past k) e (living_in k.tasks) (memories_in k.resources.workers) c.in-Some.group c.args.addr c.args.bytes.now (record { worker = c.args.worker; who = refl; cap = c.args.cap; what = refl; group = g; own = own; at = at }))
    (c.in-Ok.ensures.step (groups_after k (past k)) T.groups (omega (arith, memories-some k.resources.workers c.args.worker c.in-Some.group q)))) (times-spent (past k) _ k.resources.spent c.spend.new.self c.args.cap T.spent refl c.spend.ensures))

pub returns-in-Err-clause-answer : goal.returns-in-Err-clause-answer
returns-in-Err-clause-answer c =
    let k = c.args.self.now in
    let T = c.requires.kernel.resources in
    let size : length c.args.bytes.now ≡ 112 = search rules in
    let fault = subst (λ n. is_err c.store.result ≡ not (all_mapped k.script.map c.args.addr n)) size (c.store.ensures.fault (groups_after k (past k)) T.groups) in
    granted (past k) k.resources.spent c.args.cap T.spent _ _ (sym c.is_spent.ensures ∙ c.if-is_spent.false) (store-answer ((system k).writable c.args.addr) c.store.result fault ∙ ap stored_so c.in-Err.is)

pub returns-in-Err-clause-served : goal.returns-in-Err-clause-served
returns-in-Err-clause-served c = rw c.in-Err.ensures.refused (idle c.args.self.now c.args.worker _ c.requires.kernel refl tt)
