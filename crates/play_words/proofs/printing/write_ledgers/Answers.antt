-- One more line was written, or failed.
use Rattle.std.proofs.Common.{rules, arith, ◌≡◌, Err}
use Rattle.play_words.proofs.Handovers.{ledger_failed, ledgers_written, line_of_handed}
use Rattle.program_files.proofs.Items.{one_written}
use Rattle.play_words.proofs.printing.write_ledgers.Goals as goal

pub returns-in_err-write_ledger : goal.returns-in_err-write_ledger
returns-in_err-write_ledger g c =
    let failed : c.from_residual.result ≡ Err c.in_err-write_ledger.field-0.0 = search rules in
    rw failed
    (ledger_failed c.args.handed.now c.loop-index.index c.index-handed-index.result c.in_err-write_ledger.field-0.0
    (g.O.Sink.state c.args.out.now) (g.O.Sink.state c.loop-index.out) (g.O.Sink.state c.write_ledger.new.out)
    (omega arith) c.index-handed-index.is c.loop-index.invariant c.in_err-write_ledger.ensures)

pub loop-index-preserved : goal.loop-index-preserved
loop-index-preserved g c =
    one_written line_of_handed c.args.handed.now c.loop-index.index c.index-handed-index.result
    (g.O.Sink.state c.args.out.now) (g.O.Sink.state c.loop-index.out) (g.O.Sink.state c.write_ledger.new.out)
    (omega arith) c.index-handed-index.is c.loop-index.invariant c.in_ok-write_ledger.ensures

pub returns : goal.returns
returns g c = ledgers_written c.args.handed.now c.loop-index.index (g.O.Sink.state c.args.out.now) (g.O.Sink.state c.loop-index.out) (omega arith) c.loop-index.invariant
