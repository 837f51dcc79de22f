-- What is told of one more call was written, or failed.
use Rattle.std.proofs.Common.{rules, arith, ◌≡◌, Err}
use Rattle.policy_explain.specs.Blocks.{block_text}
use Rattle.program_files.proofs.Items.{all_written, one_failed, one_written}
use Rattle.policy_words.proofs.explaining.write_blocks.Goals as goal

pub returns-in_err-write_block : goal.returns-in_err-write_block
returns-in_err-write_block g c =
    let failed : c.from_residual.result ≡ Err c.in_err-write_block.field-0.0 = search rules in
    rw failed
    (one_failed (block_text c.args.policy.now.rules) c.args.calls.now c.loop-index.index c.index-calls-index.result c.in_err-write_block.field-0.0
    (g.O.Sink.state c.args.out.now) (g.O.Sink.state c.loop-index.out) (g.O.Sink.state c.write_block.new.out)
    (omega arith) c.index-calls-index.is c.loop-index.invariant c.in_err-write_block.ensures)

pub loop-index-preserved : goal.loop-index-preserved
loop-index-preserved g c =
    one_written (block_text c.args.policy.now.rules) c.args.calls.now c.loop-index.index c.index-calls-index.result
    (g.O.Sink.state c.args.out.now) (g.O.Sink.state c.loop-index.out) (g.O.Sink.state c.write_block.new.out)
    (omega arith) c.index-calls-index.is c.loop-index.invariant c.in_ok-write_block.ensures

pub returns : goal.returns
returns g c = all_written (block_text c.args.policy.now.rules) c.args.calls.now c.loop-index.index (g.O.Sink.state c.args.out.now) (g.O.Sink.state c.loop-index.out) (omega arith) c.loop-index.invariant
