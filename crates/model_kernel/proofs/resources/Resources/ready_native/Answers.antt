use Rattle.model_kernel.proofs.Words.{holds_room, memories_in, state}
use Rattle.model_kernel.proofs.NativeCalls.{regrouped}
use Rattle.model_kernel.proofs.resources.Resources.ready_native.Goals as goal

pub returns-clause-stands : goal.returns-clause-stands
returns-clause-stands c S K living T =
    regrouped S K living c.args.self.now T living c.ready.new.groups c.args.self.now.listener c.ready.new.tree c.args.self.now.spent
    ((holds_room (state S K living (memories_in c.args.self.now.workers)) _ _ c.ready.ensures.groups).0 T.groups) T.listener c.ready.ensures.tree T.spent
