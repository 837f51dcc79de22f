-- The one finding is the refusal.
use Rattle.std.proofs.Common.{◌≡◌, [], ◌∷◌, rules}
use Rattle.policy_lint.specs.Found.{AreOf}
use Rattle.policy_reader.specs.Policies.{policy}
use Rattle.policy_lint.proofs.lint_refused.Goals as goal

pub returns : goal.returns
returns c =
    let one : c.push.new.self.items ≡ c.in_ok-finding.finding ∷ [] = search rules in
    let of : AreOf (policy c.args.bytes.now) c.push.new.self.items = rw c.requires (c.in_ok-finding.finding, one, c.in_ok-finding.ensures) in
    let told = rw c.as_slice.ensures.value at c.in_ok-told.ensures in
    (c.push.new.self.items, of, (rw c.requires told.0, told.1))
