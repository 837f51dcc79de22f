use Rattle.std.proofs.Common.{◌≡◌, false, ap, ◌∙◌, arith}
use Rattle.listener.specs.Requests.{has_request, new_request}
use Rattle.listener.proofs.KeptLemmas.{kept-push, kept-room}
use Rattle.listener.proofs.requests.Requests.put.Goals as goal

pub push_reserved-requires : goal.push_reserved-requires
push_reserved-requires c =
    let free : has_request c.self.inside.requests.items c.args.worker ≡ false = ap (λ qs. has_request qs c.args.worker) c.self.view_is ∙ c.requires.free in
    omega (arith, kept-room _ _ (new_request c.args.worker c.args.a) c.self.invariant c.requires.known free)

pub invariant_of-self : goal.invariant_of-self
invariant_of-self c =
    let free : has_request c.self.inside.requests.items c.args.worker ≡ false = ap (λ qs. has_request qs c.args.worker) c.self.view_is ∙ c.requires.free in
    rw (c.push_reserved.ensures.items, c.push_reserved.ensures.capacity) (kept-push _ _ (new_request c.args.worker c.args.a) c.self.invariant c.requires.known free)
