-- What threads have served to its end, once the listener is closed: the history is legal, finished and mediated.
-- By the law that every legal history is mediated, since the close is a step behind one that goes on.
use Rattle.std.proofs.Common.{ℕ, ◌<◌, ◌^◌, List, [], ◌∷◌, length, refl, sym, subst, arith}
use Rattle.hist_model.specs.Legal.{rules_of, system_of}
use Rattle.hist_model.specs.Look.{ev}
use Rattle.hist_model.specs.Steps.{IsLegal, step}
use Rattle.hist_model.specs.declared.event.Actor.TheVariants.{Listener}
use Rattle.hist_model.specs.declared.event.Event.{Event}
use Rattle.hist_model.specs.declared.event.What.TheVariants.{Close}
use Rattle.hist_model.specs.declared.history.Setup.{Setup}
use Rattle.hist_model.specs.declared.policy.Policy.{Policy}
use Rattle.hist_model.specs.declared.script.Script.{Script}
use Rattle.mediation.proofs.Mediation.{mediated}
use Rattle.mediation.specs.Scheduled.{IsUnclosed}
use Rattle.worker_gate.specs.Endings.{ClosesBehind, HasEnded}
use Rattle.worker_gate.specs.Hands.{IsServedWhole}

-- the close is a step behind a legal history that isn't closed
close_is_legal : (P : Policy) (S : Script) (K : List Event) → IsLegal (system_of S) (rules_of P S.figures) K → IsUnclosed K → IsLegal (system_of S) (rules_of P S.figures) (ev Listener Close ∷ K)
unfolding step
close_is_legal P S [] legal unclosed = absurd unclosed
close_is_legal P S (f ∷ K) legal unclosed = ((unclosed, refl, refl, refl), legal)

-- so the history that was served whole ends with it
pub has_ended : (made : Setup) (workers : ℕ) (K H : List Event) → IsServedWhole made workers K → ClosesBehind K H → HasEnded made.policy made.script workers H
has_ended made workers K H whole c = subst (λ (L : List Event). HasEnded made.policy made.script workers L) (sym c.closed) ended
  where
    room : length (ev Listener Close ∷ K) < 2 ^ 64
    room = subst (λ (L : List Event). length L < 2 ^ 64) c.closed c.room

    legal : IsLegal (system_of made.script) (rules_of made.policy made.script.figures) (ev Listener Close ∷ K)
    legal = close_is_legal made.policy made.script K whole.rules.legal.0 c.unclosed

    ended : HasEnded made.policy made.script workers (ev Listener Close ∷ K)
    ended = record {
      legal = (legal, room, omega arith);
      no_skip = (refl, whole.rules.no_skip);
      within = (tt, whole.rules.within);
      ends = (K, refl, whole.finished);
      mediated = mediated made.policy made.script (ev Listener Close ∷ K) legal room;
    }
