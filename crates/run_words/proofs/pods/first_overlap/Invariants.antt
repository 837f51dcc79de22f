use Rattle.run_words.specs.Pods.{AreSeparate}
use Rattle.run_words.proofs.pods.first_overlap.Given as goal

abbrev pub invariant-loop-first : goal.invariant-loop-first
invariant-loop-first l = AreSeparate l.containers l.first
