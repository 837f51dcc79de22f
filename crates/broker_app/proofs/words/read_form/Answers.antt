-- Fewer words than those of a pod are two at most.
use Rattle.std.proofs.Common.{◌∙◌}
use Rattle.broker_app.proofs.ShortForms.{few_form}
use Rattle.broker_app.proofs.words.read_form.Goals as goal

pub returns-clause-meant : goal.returns-clause-meant
returns-clause-meant c = c.short_words.ensures.meant ∙ few_form c.args.words.now c.in_default.len_below
