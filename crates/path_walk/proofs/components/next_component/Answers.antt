use Rattle.std.proofs.Common.{◌≡◌, ◌<◌, length, sym, ap, ◌∙◌, rules}
use Rattle.std.proofs.lemmas.List.{nil_from_length, take_rest}
use Rattle.hist_model.specs.Paths.{components, pieces}
use Rattle.path_walk.proofs.Splits.{components_split}
use Rattle.path_walk.proofs.components.next_component.Goals as goal

pub returns-then-is_empty-clause-none : goal.returns-then-is_empty-clause-none
unfolding pieces
returns-then-is_empty-clause-none c =
    let path = c.trimmed-path.result.now in
    let none : length path ≡ 0 = search rules in
    sym c.trimmed-path.ensures.same ∙ ap components (nil_from_length path none)

pub returns-clause-some : goal.returns-clause-some
returns-clause-some c =
    let path = c.trimmed-path.result.now in
    let some : 0 < length path = search rules in
    let split = components_split path c.trimmed-path.ensures.begins some in
    sym c.trimmed-path.ensures.same ∙ rw (take_rest, c.name_length-end.ensures.count) split
