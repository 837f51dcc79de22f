use Rattle.std.proofs.Common.{ℕ, All, Option, sym, subst}
use Rattle.crew.specs.Locks.{Admits}
use Rattle.crew.proofs.hands.take_turns.Goals as goal

pub turn_in-requires-clause-may : goal.turn_in-requires-clause-may
turn_in-requires-clause-may g c = subst (λ (worker : Option ℕ). All (Admits worker) c.args.locks.now.items) (sym c.loop.invariant.worker) c.requires.may
