use Rattle.handover.proofs.Handed.{behind_hand_over, ledgers_hand_over}
use Rattle.handover.proofs.laws.ledgers_hand_over.Goals as goal

pub returns-clause-between : goal.returns-clause-between
returns-clause-between c = ledgers_hand_over

pub returns-clause-behind : goal.returns-clause-behind
returns-clause-behind c = behind_hand_over
