use Rattle.std.proofs.Common.{arith}
use Rattle.std.proofs.lemmas.Grind.{common_steps}
use Rattle.bpf_filter.proofs.Notifies.{tests_more, tests_end}
use Rattle.bpf_filter.proofs.filters.push_call_tests.Goals as goal

pub loop-place-preserved : goal.loop-place-preserved
loop-place-preserved c = (grind (arith, common_steps, tests_more), omega arith)

pub returns : goal.returns
returns c = grind (arith, tests_end)
