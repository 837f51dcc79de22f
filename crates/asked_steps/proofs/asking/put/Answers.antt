use Rattle.asked_steps.proofs.Asked.{put}
use Rattle.asked_steps.proofs.asking.put.Goals as goal

pub returns-in-Ok : goal.returns-in-Ok
returns-in-Ok c = put c.args.kernel.now c.put-answer.new.self c.args.worker c.args.bytes.now c.in-Ok.asked c.requires.free c.in-Ok.ensures c.put-answer.ensures.done
