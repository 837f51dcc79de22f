-- What is found of both lists, one behind the other.
use Rattle.policy_claims.proofs.telling.found_of.Goals as goal

pub returns : goal.returns
returns c = record {
  expect = c.in_ok-found.found.items;
  never = c.in_ok-never.never.items;
  both = c.in_ok-append.ensures.items;
  of_expect = rw (← c.items.ensures) c.in_ok-found.ensures;
  of_never = rw (← c.items-2.ensures) c.in_ok-never.ensures;
}
