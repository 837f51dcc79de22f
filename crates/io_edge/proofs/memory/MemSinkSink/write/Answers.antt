use Rattle.std.proofs.Common.{rules, arith}
use Rattle.std.proofs.lemmas.Grind.{common_steps}
use Rattle.io_edge.proofs.Prefixes.{adds_none, adds_front}
use Rattle.io_edge.proofs.memory.MemSinkSink.write.Goals as goal

pub returns-then-begin-clause-writes : goal.returns-then-begin-clause-writes
returns-then-begin-clause-writes c = record {
  tells = search rules;
  faults = grind (arith, common_steps);
  cause = search rules;
  whole = search rules;
  part = λ told. adds_none _ _;
}

pub returns-then-fits-piece-clause-writes : goal.returns-then-fits-piece-clause-writes
returns-then-fits-piece-clause-writes c = record {
  tells = search rules;
  faults = grind (arith, common_steps);
  cause = search rules;
  whole = search rules;
  part = λ told. adds_front _ _ _ c.min-fits.result (grind (arith, common_steps)) (grind (arith, common_steps));
}
