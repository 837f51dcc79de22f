use Rattle.std.proofs.Common.{◌∙◌}
use Rattle.std.specs.Prelude.{not, vec_capacity}
use Rattle.listener.specs.Requests.{is_of}
use Rattle.listener.proofs.Requesting.{removed-at}
use Rattle.listener.proofs.KeptLemmas.{kept-filter}
use Rattle.listener.proofs.requests.Requests.remove.Goals as goal

pub returns : goal.returns
returns c = c.remove.ensures.items ∙ removed-at c.args.worker c.self.inside.requests.items c.args.self.now c.place_of-place.result c.self.view_is c.place_of-place.ensures.bound c.place_of-place.ensures.is_its c.self.invariant.apart c.remove.result

pub invariant_of-self : goal.invariant_of-self
invariant_of-self c = rw (c.remove.ensures.capacity, returns c, ← c.self.view_is) (kept-filter (λ q. not (is_of c.args.worker q)) c.self.inside.requests.items (vec_capacity c.self.inside.requests) c.self.invariant)
