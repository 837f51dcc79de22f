-- One more piece stands behind what was there, and then the rest.
use Rattle.std.proofs.Common.{arith}
use Rattle.audit_log.proofs.Hexed.{piece_pushed, rest_pushed}
use Rattle.audit_log.proofs.line.LineBuffer.push_hex.Goals as goal

pub loop-at-preserved : goal.loop-at-preserved
loop-at-preserved c = record {
  within = omega arith;
  so_far =
      piece_pushed c.args.self.now c.loop-at.self c.push_bytes.new.self c.hex_piece.result c.args.bytes.now c.loop-at.at (omega arith) c.loop-at.invariant.so_far c.hex_piece.ensures
      c.in_ok-push_bytes.ensures;
}

pub returns : goal.returns
returns c =
    rest_pushed c.args.self.now c.loop-at.self c.push_hex_rest.new.self c.args.bytes.now c.loop-at.at c.push_hex_rest.result c.loop-at.invariant.so_far c.push_hex_rest.ensures
