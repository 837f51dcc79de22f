use Rattle.std.proofs.Common.{arith}
use Rattle.std.specs.Prelude.{vec_capacity}
use Rattle.listener.specs.Requests.{is_waiting, waiting}
use Rattle.listener.proofs.KeptLemmas.{kept-few, kept-filter}
use Rattle.listener.proofs.requests.Requests.queued.Goals as goal

pub overflow_cast-result : goal.overflow_cast-result
overflow_cast-result c =
    let qs = c.self.inside.requests.items in
    let k = kept-filter (is_waiting c.args.id) qs (vec_capacity c.self.inside.requests) c.self.invariant in
    let few = kept-few (waiting c.args.id qs) k.apart k.workers in
    rw (c.count_waiting.ensures, c.deref.ensures.value) (omega (arith, few))
