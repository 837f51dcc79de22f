use Rattle.std.proofs.Common.{◌+◌, arith}
use Rattle.mount_tree.proofs.Chained.{chains_owned, chains_unowned}
use Rattle.mount_tree.proofs.index.Index.chain.Goals as goal

pub returns-in-Some-clause-chains : goal.returns-in-Some-clause-chains
returns-in-Some-clause-chains g c = λ keys are.
    let bucket = rw (← c.self.view_is) at c.bucket-bucket.ensures in
    chains_owned keys (g.T.Row.key c.args.row.now) c.in-Some.owner c.name.result.now _ c.bucket-bucket.result (c.len.result + 1) c.index.result.now _
    (rw (← c.self.view_is) at are) c.in-Some.ensures c.name.ensures bucket.bucket bucket.below (omega arith) c.index.ensures c.push_reserved.ensures.items

pub returns-in-None-clause-chains : goal.returns-in-None-clause-chains
returns-in-None-clause-chains g c = λ keys are.
    chains_unowned keys (g.T.Row.key c.args.row.now) _ 0 _ (rw (← c.self.view_is) at are) c.in-None.ensures c.push_reserved-in-None.ensures.items
