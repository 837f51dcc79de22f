-- The best device number is that of the first one and of those behind the numbers so far.
use Rattle.std.proofs.Common.{◌≡◌, ◌+◌, None, ◌∷◌, map, take}
use Rattle.std.specs.Prelude.{nat_lt}
use Rattle.policy_classes.specs.Fresh.{least}
use Rattle.policy_classes.specs.Nodes.{is_fresh_device}
use Rattle.policy_classes.proofs.nodes.fresh_device.Given as goal

abbrev pub invariant-loop-dev : goal.invariant-loop-dev
invariant-loop-dev l = l.best ≡ least nat_lt (is_fresh_device l.asked) None (0 ∷ map (λ n. n + 1) (take l.dev-index l.asked))
