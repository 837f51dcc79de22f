use Rattle.tasks.proofs.Named.{made-least, made-ordinal, name-kept}
use Rattle.tasks.proofs.laws.made_tasks_have_ordinals.Goals as goal

pub returns-clause-ordinal : goal.returns-clause-ordinal
returns-clause-ordinal c K n h = made-ordinal K n h

pub returns-clause-stays : goal.returns-clause-stays
returns-clause-stays c e K o l = name-kept e K o l

pub returns-clause-more : goal.returns-clause-more
returns-clause-more c e K = made-least e K
