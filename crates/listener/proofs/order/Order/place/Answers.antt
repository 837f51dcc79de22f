use Rattle.std.proofs.Common.{◌≡◌, length, arith, rules}
use Rattle.std.specs.VecDeque.{deque_len}
use Rattle.std.proofs.lemmas.List.Sorted.{answers_always}
use Rattle.listener.specs.Entries.{entry_number}
use Rattle.listener.proofs.Places.{place-found, place-absent, place-first}
use Rattle.listener.proofs.order.Order.place.Goals as goal

pub returns-clause-found : goal.returns-clause-found
returns-clause-found c =
    let facts = c.binary_search_by_key.ensures in
    let len : deque_len c.args.self.now.entries ≡ length c.args.self.now.entries.items = omega arith in
    place-found _ _ c.args.self.now.rising _ (rw len at facts.bound) (facts.position entry_number (answers_always _ _ _ (λ f a r k called. search rules)))

pub returns-clause-absent : goal.returns-clause-absent
returns-clause-absent c =
    let facts = c.binary_search_by_key.ensures in
    let len : deque_len c.args.self.now.entries ≡ length c.args.self.now.entries.items = omega arith in
    place-absent _ _ c.args.self.now.rising _ (rw len at facts.bound) (facts.position entry_number (answers_always _ _ _ (λ f a r k called. search rules)))

pub returns-clause-first : goal.returns-clause-first
returns-clause-first c =
    let facts = c.binary_search_by_key.ensures in
    let len : deque_len c.args.self.now.entries ≡ length c.args.self.now.entries.items = omega arith in
    place-first _ _ c.args.self.now.rising _ (rw len at facts.bound) (facts.position entry_number (answers_always _ _ _ (λ f a r k called. search rules)))
