use Rattle.run_words.specs.Pods.{IsSeparateBehind}
use Rattle.run_words.proofs.pods.first_behind.Given as goal

abbrev pub invariant-loop-second : goal.invariant-loop-second
invariant-loop-second l = IsSeparateBehind l.containers l.first l.second
