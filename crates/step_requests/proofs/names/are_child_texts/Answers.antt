-- Each text between points is tested.
use Rattle.std.proofs.Common.{rules, tests}
use Rattle.std.proofs.lemmas.Iterator.Search.{all_from_yields_List}
use Rattle.std.proofs.lemmas.Iterator.Splits.{YieldsList-from_slice_split}
use Rattle.step_requests.specs.Names.{is_child_text, is_dot}
use Rattle.step_requests.proofs.names.are_child_texts.Goals as goal

pub returns : goal.returns
returns c =
    all_from_yields_List is_child_text _ _ _ c.all.ensures.ran
    (YieldsList-from_slice_split _ is_dot c.args.text.now c.split.ensures.rest c.split.ensures.done c.split.ensures.closure (λ x b q k. search (rules, tests)))
    (λ x b q k. search (rules, tests))
