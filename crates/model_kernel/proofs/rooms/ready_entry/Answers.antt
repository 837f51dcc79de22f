use Rattle.std.proofs.Common.{refl}
use Rattle.model_kernel.proofs.Words.{holds_room, memories_in, state}
use Rattle.model_kernel.proofs.NativeCalls.{regrouped}
use Rattle.model_kernel.proofs.rooms.ready_entry.Goals as goal

pub returns-in_err-ready-clause-stands : goal.returns-in_err-ready-clause-stands
returns-in_err-ready-clause-stands c S K living T =
    regrouped S K living c.args.resources.now T _ c.ready.new.self c.args.resources.now.listener c.args.resources.now.tree c.args.resources.now.spent
    ((holds_room (state S K living (memories_in c.args.resources.now.workers)) _ _ c.ready.ensures.same).0 T.groups) T.listener refl T.spent

pub returns-clause-stands : goal.returns-clause-stands
returns-clause-stands c S K living T =
    regrouped S K living c.args.resources.now T _ c.ready.new.self c.ready-2.new.self c.args.resources.now.tree c.args.resources.now.spent
    ((holds_room (state S K living (memories_in c.args.resources.now.workers)) _ _ c.ready.ensures.same).0 T.groups) (c.ready-2.ensures.stands S.firstid K T.listener) refl T.spent
