-- The partners so far, and those among the classes that are left, are all.
use Rattle.std.proofs.Common.{◌≡◌, ◌++◌, drop}
use Rattle.policy_lint.specs.Looked.{partners}
use Rattle.policy_lint.proofs.judging.partners.Given as goal

abbrev pub invariant-loop-class : goal.invariant-loop-class
invariant-loop-class l = l.places.items ++ partners l.place (drop l.class-index l.classes) ≡ partners l.place l.classes
