-- What is told of a fault is told of the one that was found.
use Rattle.step_words.proofs.Judged.{told_still}
use Rattle.step_words.proofs.judging.told_of.Goals as goal

pub returns-in-Some-clause-broken : goal.returns-in-Some-clause-broken
returns-in-Some-clause-broken c = told_still c.told_broken.result c.in-Some.found c.args.judgement.now.found c.in-Some.is c.told_broken.ensures
