-- A word of the table is read by reference.
use Rattle.std.proofs.Common.{rules, tests, ◌∙◌}
use Rattle.std.specs.Str.{str_eq_ignore_ascii_case}
use Rattle.std.proofs.lemmas.Iterator.{YieldsList-from_slice}
use Rattle.std.proofs.lemmas.Iterator.Search.{any_from_yields_List}
use Rattle.policy_reader.proofs.Tables.{any-map}
use Rattle.policy_reader.proofs.settings.is_word_of.Goals as goal

pub returns : goal.returns
returns c =
    any_from_yields_List (λ word. str_eq_ignore_ascii_case word.now c.args.text.now) _ _ _ c.any.ensures.ran (YieldsList-from_slice c.args.words.now cc) (λ x b q k. search (rules, tests))
    ∙ any-map (λ word. word.now) (λ word. str_eq_ignore_ascii_case word c.args.text.now) c.args.words.now
