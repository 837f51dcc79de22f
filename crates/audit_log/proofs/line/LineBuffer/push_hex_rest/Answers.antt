-- By `padded_front`.
use Rattle.std.proofs.Common.{drop, length}
use Rattle.std.specs.Prelude.{replicate}
use Rattle.audit_log.proofs.Hexed.{padded_front}
use Rattle.audit_log.proofs.line.LineBuffer.push_hex_rest.Goals as goal

pub returns : goal.returns
returns c =
    padded_front c.args.bytes.now c.copy_from_slice.new.self (drop (length c.args.bytes.now) (replicate 16 0)) c.hex_piece.result c.args.self.now c.push_first.new.self c.push_first.result
    c.copy_from_slice.ensures.after c.hex_piece.ensures c.push_first.ensures
