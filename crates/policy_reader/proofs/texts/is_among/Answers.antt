-- A text of the table is read by reference.
use Rattle.std.proofs.Common.{rules, tests, ◌∙◌}
use Rattle.std.specs.Prelude.{bytes_eq}
use Rattle.std.proofs.lemmas.Iterator.{YieldsList-from_slice}
use Rattle.std.proofs.lemmas.Iterator.Search.{any_from_yields_List}
use Rattle.policy_reader.proofs.Tables.{any-map}
use Rattle.policy_reader.proofs.texts.is_among.Goals as goal

pub returns : goal.returns
returns c =
    any_from_yields_List (λ word. bytes_eq word.now c.args.name.now) _ _ _ c.any.ensures.ran (YieldsList-from_slice c.args.texts.now cc) (λ x b q k. search (rules, tests))
    ∙ any-map (λ word. word.now) (λ word. bytes_eq word c.args.name.now) c.args.texts.now
