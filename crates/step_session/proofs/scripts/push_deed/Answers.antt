use Rattle.step_session.proofs.scripts.push_deed.Goals as goal

pub returns-in-AddfdTake : goal.returns-in-AddfdTake
returns-in-AddfdTake c = rw c.in-AddfdTake.is c.push-in-AddfdTake.ensures
