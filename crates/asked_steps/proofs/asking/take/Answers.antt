use Rattle.std.proofs.Common.{subst, sym}
use Rattle.step_requests.specs.declared.request.Asked.TheVariants as asks
use Rattle.asked_steps.specs.Stands.{Comes}
use Rattle.asked_steps.proofs.Asked.{taken}
use Rattle.asked_steps.proofs.asking.take.Goals as goal

pub returns : goal.returns
returns c =
    let k = c.args.kernel.now in
    let new = c.take-taken.new.self in
    subst (λ x. Comes k c.args.worker asks.AddfdResult x new) (sym c.taking.ensures) (taken k new c.args.worker c.take-taken.result c.requires.kernel c.requires.asked c.take-taken.ensures.answer c.take-taken.ensures.done c.take-taken.ensures.same)
