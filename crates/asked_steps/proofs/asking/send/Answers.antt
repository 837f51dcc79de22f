use Rattle.asked_steps.proofs.Asked.{sent}
use Rattle.asked_steps.proofs.asking.send.Goals as goal

pub returns-in-Ok : goal.returns-in-Ok
returns-in-Ok c = sent c.args.kernel.now c.send-answer.new.self c.args.worker c.args.bytes.now c.in-Ok.resp c.back_of.result c.in-Ok.ensures c.back_of.ensures c.send-answer.ensures.done
