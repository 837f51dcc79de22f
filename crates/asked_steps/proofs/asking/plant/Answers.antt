use Rattle.std.proofs.Common.{List, ℕ, subst}
use Rattle.step_requests.specs.declared.request.Asked.TheVariants as asks
use Rattle.asked_steps.specs.Stands.{Comes}
use Rattle.asked_steps.specs.declared.asking.Came.TheVariants as came
use Rattle.asked_steps.proofs.Asked.{planted}
use Rattle.asked_steps.proofs.asking.plant.Goals as goal

pub returns : goal.returns
returns c =
    let k = c.args.kernel.now in
    let new = c.plant-answer.new.self in
    subst (λ (bytes : List ℕ). Comes k c.args.worker (asks.Plant c.args.addr bytes) came.Stepped new) c.in_ok-bytes.ensures
    (planted k c.ready_plant.new.self new c.args.worker c.args.addr c.in_ok-bytes.bytes c.requires.memory c.ready_plant.ensures.same c.plant-answer.ensures.deed)
