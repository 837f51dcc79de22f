-- An act is of the granted request, and a plant of the bytes, which the worker gave.
-- By `act_of` and `plant_of`, since the deed that is due is an act of the worker's request alone, or a plant of its bytes alone.
use Rattle.std.proofs.Common.{refl}
use Rattle.hist_model.specs.Legal.{rules_of}
use Rattle.hist_model.specs.Sessions.{deed}
use Rattle.broker_machine.proofs.Fitting.{act_of, plant_of}
use Rattle.broker_machine.proofs.deeds.do_deed.Goals as goal

pub returns-in_ok-act-in-Act-clause-done : goal.returns-in_ok-act-in-Act-clause-done
returns-in_ok-act-in-Act-clause-done c = λ P own r e.
    let due = deed (rules_of P c.args.worker.now.figures) own in
    let granted = act_of due c.take_effect.result c.in-Act.cap (rw c.in-Act.is at e) (λ q k. c.take_effect.ensures.request P own q k r) in
    rw (granted, c.stepped-in-Act.ensures) (c.in_ok-act-in-Act.ensures.done, refl)

pub returns-in_ok-plant-in-Plant-clause-done : goal.returns-in_ok-plant-in-Plant-clause-done
returns-in_ok-plant-in-Plant-clause-done c = λ P own r e.
    let due = deed (rules_of P c.args.worker.now.figures) own in
    let planted = plant_of due c.planted-bytes.result c.in-Plant.addr c.in-Plant.cap (rw c.in-Plant.is at e) (λ addr bytes cap k. c.planted-bytes.ensures.bytes P own addr bytes cap r k) in
    rw (planted, c.stepped-in-Plant.ensures) (c.in_ok-plant-in-Plant.ensures.done, refl)
