use Rattle.std.proofs.Common.{rules}
use Rattle.std.proofs.lemmas.List.Sorted.{answers_always}
use Rattle.sorted_list.proofs.Found.{searched-place, searched-gap}
use Rattle.sorted_list.proofs.list.place_of.Goals as goal

pub returns-clause-found : goal.returns-clause-found
returns-clause-found g c rise =
    let facts = c.binary_search_by_key.ensures in
    searched-place g.T.Numbered.number _ _ _ facts.bound (facts.position g.T.Numbered.number (answers_always _ _ _ (λ f a r k called. search rules)))

pub returns-clause-absent : goal.returns-clause-absent
returns-clause-absent g c rise =
    let facts = c.binary_search_by_key.ensures in
    searched-gap g.T.Numbered.number _ _ _ rise facts.bound (facts.position g.T.Numbered.number (answers_always _ _ _ (λ f a r k called. search rules)))
