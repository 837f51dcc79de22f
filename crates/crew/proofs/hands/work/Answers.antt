use Rattle.std.proofs.Common.{All, Option, subst, sym, ℕ}
use Rattle.crew.specs.Locks.{Admits}
use Rattle.crew.proofs.hands.work.Goals as goal

pub loop-preserved : goal.loop-preserved
loop-preserved g c = (c.take_turns.ensures.own, subst (λ (worker : Option ℕ). All (Admits worker) c.args.locks.now.items) (sym c.take_turns.ensures.worker) c.loop.invariant.1)
