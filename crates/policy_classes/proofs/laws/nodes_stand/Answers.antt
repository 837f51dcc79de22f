-- By the lemma.
use Rattle.policy_classes.proofs.NodeCases.{nodes_stand}
use Rattle.policy_classes.proofs.laws.nodes_stand.Goals as goal

pub returns : goal.returns
returns c = nodes_stand
