use Rattle.std.proofs.Common.{take, Ok}
use Rattle.std.specs.List.{flat_map}
use Rattle.audit_log.specs.Written.{Wrote}
use Rattle.policy_explain.specs.Blocks.{block_text}
use Rattle.policy_words.proofs.explaining.write_blocks.Given as goal

abbrev pub invariant-loop-index : goal.invariant-loop-index
invariant-loop-index g l = Wrote (g.O.Sink.state l.fn.out) (flat_map (block_text l.policy.rules) (take l.index l.calls)) (Ok tt) (g.O.Sink.state l.out)
