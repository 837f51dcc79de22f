-- The last slash of a path is the first one from its end.
use Rattle.std.proofs.Common.{rules, tests, ap, ◌∙◌, length}
use Rattle.std.specs.Option.{unwrap_or}
use Rattle.std.proofs.lemmas.Iterator.Search.{position_from_yields_List}
use Rattle.std.proofs.lemmas.Iterator.Adapters.{YieldsList-from_rev_slice}
use Rattle.script_reader.specs.Paths.{is_slash}
use Rattle.script_reader.proofs.paths.name_length.Goals as goal

pub returns-clause-length : goal.returns-clause-length
returns-clause-length c =
    c.unwrap_or.ensures
    ∙ ap (λ o. unwrap_or o (length c.args.path.now))
    (position_from_yields_List is_slash _ _ c.position.result c.position.ensures.ran (YieldsList-from_rev_slice c.args.path.now cc) (λ x b q k. search (rules, tests)))
