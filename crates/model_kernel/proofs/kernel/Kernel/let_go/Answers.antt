use Rattle.std.proofs.Common.{refl, sym, ◌∙◌, ◌∷◌}
use Rattle.model_kernel.proofs.Words.{ev, groups_after, LetGo, living_in, past, Worker}
use Rattle.model_kernel.proofs.Opened.{let_go, memory-row}
use Rattle.model_kernel.proofs.Workers.{noted, serves}
use Rattle.model_kernel.proofs.kernel.Kernel.let_go.Goals as goal

pub close-requires : goal.close-requires
close-requires c g q =
    let k = c.args.self.now in
    memory-row k.script (past k) (living_in k.tasks) k.resources c.requires.kernel.resources c.args.worker g (sym c.memory-group.ensures ∙ q)

pub returns : goal.returns
returns c =
    let k = c.args.self.now in
    noted k _ c.note.new.self c.args.worker _ _ c.requires.kernel refl refl
    (serves k c.args.worker _ _
    (let_go k.script (past k) (living_in k.tasks) k.resources c.requires.kernel.resources c.args.worker c.close.new.groups c.let_go.new.self c.memory-group.result c.requires.worker (sym c.memory-group.ensures)
    (c.close.ensures (groups_after k (ev (Worker c.args.worker) LetGo ∷ past k))) c.let_go.ensures))
    c.note.ensures.events c.note.ensures.same
