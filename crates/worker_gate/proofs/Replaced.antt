-- What a turn leaves of the ledgers of workers that are replaced.
-- By cases on whether there are ledgers, and by what one more event leaves of them.
use Rattle.std.proofs.Common.{◌≡◌, ℕ, List, ◌∷◌, Bool, true, false, Option, Some, None, Result, Ok, Err, refl, ap, sym}
use Rattle.std.specs.Prelude.{IfOk, OnErr}
use Rattle.hist_model.specs.Look.{ev}
use Rattle.hist_model.specs.declared.event.Actor.{Actor}
use Rattle.hist_model.specs.declared.event.Actor.TheVariants.{Listener}
use Rattle.hist_model.specs.declared.event.Event.{Event}
use Rattle.hist_model.specs.declared.event.What.TheVariants.{Close}
use Rattle.hist_model.specs.declared.policy.Policy.{Policy}
use Rattle.model_kernel.specs.Kernels.{past}
use Rattle.broker_machine.specs.Serving.{Reaches, Tries, after_step}
use Rattle.broker_machine.specs.declared.machine.Machine.{Machine}
use Rattle.handover.specs.Handing.{worker_number}
use Rattle.handover.specs.declared.ledgers.Ledgers.{Ledgers}
use Rattle.handover.proofs.Kept.{closed_handed, other_ledgers}
use Rattle.worker_gate.specs.Replacing.{AreKept, handed_if}

module _ (P : Policy) (old mid : Machine) (a : Actor) (done : Reaches P old (after_step P old a) mid) where
  -- after the turn of an actor that is no worker the ledgers are as they were
  pub turn_other : (ls : Option Ledgers) → worker_number a ≡ None → AreKept (past old.kernel) ls → AreKept (past mid.kernel) ls
  turn_other None h k = tt
  turn_other (Some l) h k = rw done.events (other_ledgers _ (past old.kernel) l h k)

-- so it is after a try of another actor, with memory or without
pub tried_other : {E : Type 0} (P : Policy) (old new : Machine) (a : Actor) (ls : Option Ledgers) (r : Result Bool E) → worker_number a ≡ None → IfOk r (λ b. Tries P old a b new) → OnErr r (Reaches P old (past old.kernel) new)
    → AreKept (past old.kernel) ls → AreKept (past new.kernel) ls
tried_other P old new a ls (Ok true) h t same k = turn_other P old new a t.0 ls h k
tried_other P old new a ls (Ok false) h t same k = rw t.0.events k
tried_other P old new a ls (Err e) h t same k = rw same.events k

-- no worker is replaced after the close
pub closed_if : (every : Option ℕ) (K : List Event) → handed_if every K ≡ handed_if every (ev Listener Close ∷ K)
closed_if None K = refl
closed_if (Some n) K = ap Some (sym (closed_handed n K))
