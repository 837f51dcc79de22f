use Rattle.std.proofs.Common.{refl, sym, ◌∙◌}
use Rattle.model_kernel.proofs.Words.{groups_after, holds_room, living_in, past}
use Rattle.model_kernel.proofs.Opened.{memory-row}
use Rattle.model_kernel.proofs.Workers.{roomier}
use Rattle.model_kernel.proofs.kernel.Kernel.ready_plant.Goals as goal

pub ready_store-requires : goal.ready_store-requires
ready_store-requires c g q =
    let k = c.args.self.now in
    memory-row k.script (past k) (living_in k.tasks) k.resources c.requires.resources c.args.worker g (sym c.memory-group.ensures ∙ q)

pub returns-in_err-ready_store-clause-kernel : goal.returns-in_err-ready_store-clause-kernel
returns-in_err-ready_store-clause-kernel c =
    let k = c.args.self.now in
    roomier k c.ready_store.new.groups k.resources.tree k.resources.spent c.requires (holds_room (groups_after k (past k)) _ _ c.ready_store.ensures.same).0 refl (λ rule. refl)

pub returns-clause-kernel : goal.returns-clause-kernel
returns-clause-kernel c =
    let k = c.args.self.now in
    roomier k c.ready_store.new.groups k.resources.tree c.ready.new.self c.requires (holds_room (groups_after k (past k)) _ _ c.ready_store.ensures.same).0 refl c.ready.ensures.same
