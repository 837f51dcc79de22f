-- After a turn of an actor that is no worker the ledgers are as they were.
use Rattle.std.proofs.Common.{sym}
use Rattle.worker_gate.proofs.Replaced.{turn_other}
use Rattle.worker_gate.proofs.keeper.LedgerKeeper.turn.Goals as goal

pub returns-in_default-clause-keeps : goal.returns-in_default-clause-keeps
returns-in_default-clause-keeps c = λ found.
    turn_other c.args.policy.now c.args.machine.now c.found_turn.new.self c.args.who.now c.in_ok-found_turn.ensures.done c.args.self.now.ledgers (sym c.in_default.ensures) (c.requires.keeps found)
