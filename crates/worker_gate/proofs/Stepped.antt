-- What a step leaves of the history.
-- By cases on whether it found memory.
use Rattle.std.proofs.Common.{◌+◌, ◌≤◌, [], ◌∷◌, length, arith}
use Rattle.std.specs.Prelude.{Result, Ok, Err, OnOk, OnErr}
use Rattle.hist_model.specs.declared.event.Actor.{Actor}
use Rattle.hist_model.specs.declared.policy.Policy.{Policy}
use Rattle.model_kernel.specs.Kernels.{past}
use Rattle.turn_lock.specs.Lists.{Begins}
use Rattle.broker_machine.specs.Serving.{Reaches, after_step}
use Rattle.broker_machine.specs.declared.machine.Machine.{Machine}

module _ {E : Type 0} (P : Policy) (old new : Machine) (a : Actor) where
  -- with a step or without one, the history begins with what it was
  pub still_begins : (r : Result (Unit {0}) E) → OnOk r (Reaches P old (after_step P old a) new) → OnErr r (Reaches P old (past old.kernel) new) → Begins (past new.kernel) (past old.kernel)
  still_begins (Ok u) done same = (_ ∷ [], done.events)
  still_begins (Err e) done same = ([], same.events)

  -- and has one event more at most
  pub still_one : (r : Result (Unit {0}) E) → OnOk r (Reaches P old (after_step P old a) new) → OnErr r (Reaches P old (past old.kernel) new) → length (past new.kernel) ≤ length (past old.kernel) + 1
  still_one (Ok u) done same = rw done.events (omega arith)
  still_one (Err e) done same = rw same.events (omega arith)
