-- What is left of both decides.
use Rattle.std.proofs.Common.{◌≡◌, length}
use Rattle.broker_verdict.specs.Effects.{texts_eq}
use Rattle.judge_pass.proofs.told.are_equal.Given as goal

abbrev pub invariant-loop-text : goal.invariant-loop-text
invariant-loop-text l = texts_eq l.rest l.others ≡ texts_eq l.a l.b

abbrev pub decreases-loop-text : goal.decreases-loop-text
decreases-loop-text l = length l.rest
