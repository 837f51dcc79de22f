use Rattle.hist_model.specs.Legal.{rules_of}
use Rattle.delay_bounded.proofs.MadeNames.{made_named}
use Rattle.delay_bounded.proofs.laws.names_have_form.Goals as goal

pub returns : goal.returns
returns c = λ P S K rules legal. made_named S (rules_of P S.figures) rules K legal
