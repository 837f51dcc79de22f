-- A legal history that isn't closed goes on, by as many events as are wanted: worker 0 can always step, and its step is no close.
-- By induction on their number, and by what a worker's step can be.
use Rattle.std.proofs.Common.{◌≡◌, ℕ, zero, suc, false, List, [], ◌∷◌, ◌++◌, length, refl, ap}
use Rattle.hist_model.specs.Kinds.{closes}
use Rattle.hist_model.specs.Look.{ev}
use Rattle.hist_model.specs.Sessions.{Rules}
use Rattle.hist_model.specs.Steps.{IsLegal, start, step}
use Rattle.hist_model.specs.Systems.{System}
use Rattle.hist_model.specs.declared.event.Actor.TheVariants.{Worker}
use Rattle.hist_model.specs.declared.event.Event.{Event}
use Rattle.hist_model.specs.declared.event.What.{What}
use Rattle.hist_model.specs.declared.event.What.TheVariants.{Close}
use Rattle.mediation.proofs.Rows.{WorkerRow, step-row}
use Rattle.audit_check.specs.Reading.{is_closed}

module _ (S : System) (R : Rules) where
  stays-open : (K : List Event) (a : What) → WorkerRow S R K 0 a → closes a ≡ false
  stays-open K Close r = absurd r.0
  stays-open K _ r = refl

  -- so many more events may follow K
  pub record More (K : List Event) (n : ℕ) : Type 0 where
    pub later : List Event
    pub number : length later ≡ n
    pub legal : IsLegal S R (later ++ K)
    pub unclosed : is_closed (later ++ K) ≡ false

  one-more : (K : List Event) → IsLegal S R K → is_closed K ≡ false → (e : Event) × IsLegal S R (e ∷ K) × (closes e.what ≡ false)
  one-more [] legal unclosed = (start S, (refl, tt), refl)
  one-more (f ∷ K) legal unclosed =
      let what = step S R (f ∷ K) (Worker 0) in
      (ev (Worker 0) what, ((unclosed, refl, refl, refl), legal), stays-open (f ∷ K) what (step-row S R (f ∷ K) (Worker 0) refl))

  pub goes_on : (K : List Event) → IsLegal S R K → is_closed K ≡ false → (n : ℕ) → More K n
  goes_on K legal unclosed zero = record { later = []; number = refl; legal = legal; unclosed = unclosed }
  goes_on K legal unclosed (suc n) =
      let m = goes_on K legal unclosed n in
      let one = one-more (m.later ++ K) m.legal m.unclosed in
      record { later = one.0 ∷ m.later; number = ap suc m.number; legal = one.1; unclosed = one.2 }
