use Rattle.std.proofs.Common.{length}
use Rattle.io_edge.specs.FileState.{SameFiles}
use Rattle.run_words.proofs.Containers.{ReadSoFar}
use Rattle.run_words.specs.Pairs.{texts}
use Rattle.run_words.proofs.pods.read_containers.Given as goal

abbrev pub invariant-loop-rest : goal.invariant-loop-rest
invariant-loop-rest g l = record {
  same : SameFiles (g.F.Files.state l.fn.files) (g.F.Files.state l.files);
  read : ReadSoFar (g.F.Files.state l.fn.files) (texts l.names) (texts l.rest) l.containers.items l.number;
}

abbrev pub decreases-loop-rest : goal.decreases-loop-rest
decreases-loop-rest g l = length l.rest
