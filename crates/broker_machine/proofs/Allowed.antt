-- What a worker has open and asked for allows it to do the deed that is due.
-- By the order of deeds in a legal history (`Held`), with cases on the deed.
use Rattle.std.proofs.Common.{◌≡◌, ℕ, ◌<◌, ◌^◌, List, length, refl}
use Rattle.broker_core.specs.Answers.{shown}
use Rattle.hist_model.specs.Deeds.{Deed}
use Rattle.hist_model.specs.Sessions.{Rules, deed, session}
use Rattle.hist_model.specs.Steps.{IsLegal}
use Rattle.hist_model.specs.Systems.{System}
use Rattle.hist_model.specs.declared.event.Event.{Event}
use Rattle.broker_machine.specs.Workers.{Allows}
use Rattle.broker_machine.proofs.Held.{plants-there, asks-free, asks-known, takes-asked}

-- the order of deeds allows what is due
pub allows : (S : System) (R : Rules) (K : List Event) (w : ℕ) → IsLegal S R K → length K < 2 ^ 64 → Allows K w (shown (deed R (session K w)))
allows S R K w legal few = by (deed R (session K w)) refl
  where
    by : (d : Deed) → deed R (session K w) ≡ d → Allows K w (shown d)
    by (Deed.Plant addr bytes cap) h = plants-there S R K w addr bytes cap legal few h
    by (Deed.AddfdPut asked) h = (asks-free S R K w asked legal few h, asks-known S R K w asked h)
    by Deed.AddfdTake h = takes-asked S R K w legal few h
    by d h = tt
