use Rattle.same_futures.proofs.Exchanged.{same-exchanged}
use Rattle.same_futures.proofs.laws.states_may_be_exchanged.Goals as goal

pub returns : goal.returns
returns c = λ S s t cs ds K L same h. same-exchanged S s t cs ds K L same h
