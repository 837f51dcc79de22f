use Rattle.std.proofs.Common.{Some, arith, refl, subst, sym, ◌∙◌}
use Rattle.task_groups.specs.Groups.{IsReadAnswer}
use Rattle.task_groups.proofs.Answered.{reads}
use Rattle.model_kernel.proofs.Words.{groups_after, living_in, memories_in, past}
use Rattle.model_kernel.proofs.Opened.{memories-some, memory-of, memory-row}
use Rattle.model_kernel.proofs.kernel.Kernel.peek.Goals as goal

pub read-requires : goal.read-requires
read-requires c =
    let k = c.args.self.now in
    memory-row k.script (past k) (living_in k.tasks) k.resources c.requires.resources c.args.worker c.in-Some.group (sym c.memory.ensures ∙ c.in-Some.is)

pub returns-in-Some-clause-answer : goal.returns-in-Some-clause-answer
returns-in-Some-clause-answer c =
    let k = c.args.self.now in
    let T = c.requires.resources in
    let q = sym c.memory.ensures ∙ c.in-Some.is in
    let m = memory-of k.script (past k) (living_in k.tasks) k.resources T c.args.worker (Some c.in-Some.group) (sym q) in
    let some = memories-some k.resources.workers c.args.worker c.in-Some.group q in
    rw m.1 (subst (IsReadAnswer c.read.result c.read.new.out.items) (reads k.script (past k) (living_in k.tasks) (memories_in k.resources.workers) c.in-Some.group m.0 m.2 c.args.addr c.args.len) (c.read.ensures.answer (groups_after k (past k)) T.groups (omega (arith, some))))

pub returns-in-None-clause-answer : goal.returns-in-None-clause-answer
returns-in-None-clause-answer c =
    let k = c.args.self.now in
    rw (memory-of k.script (past k) (living_in k.tasks) k.resources c.requires.resources c.args.worker _ (sym c.in-None.is ∙ c.memory.ensures)) refl
