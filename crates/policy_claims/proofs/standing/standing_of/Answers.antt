-- Where no class refutes the claim, it holds, or the classes aren't whole.
use Rattle.std.proofs.Common.{rules}
use Rattle.policy_claims.proofs.Standings.{open_where_cut, unrefuted_is_so}
use Rattle.policy_claims.proofs.standing.standing_of.Goals as goal

pub returns-in-None-clause-so : goal.returns-in-None-clause-so
returns-in-None-clause-so c =
    let rules = c.args.policy.now.rules in
    rw c.unrefuted.ensures (unrefuted_is_so c.args.sense rules c.args.claim.now c.args.found.now c.requires (rw c.items.ensures at (c.in_ok-witness.ensures.none (search rules))))

pub returns-in-None-clause-undecided : goal.returns-in-None-clause-undecided
returns-in-None-clause-undecided c = λ e. open_where_cut c.args.sense c.args.policy.now.rules c.args.claim.now c.args.found.now c.requires (rw c.unrefuted.ensures at e)
