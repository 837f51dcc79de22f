use Rattle.std.proofs.Common.{sym}
use Rattle.broker_c.proofs.Lines.{says_settled}
use Rattle.broker_c.proofs.outcome.outcome_of.Goals as goal

pub returns-clause-says : goal.returns-clause-says
returns-clause-says c = rw (c.settled.ensures, c.into_taken.ensures) (says_settled _ c.has_failed-failed.result c.args.status _ (sym c.has_failed-failed.ensures) c.requires)
