use Rattle.std.proofs.Common.{subst}
use Rattle.hist_model.specs.Records.{ScriptRecord}
use Rattle.hist_model.specs.ScriptRules.{IsScript}
use Rattle.explore_words.proofs.exploring.keeps_rules.Goals as goal

pub returns : goal.returns
returns c = subst (λ (s : ScriptRecord). IsScript s) c.script.view_is c.script.invariant
