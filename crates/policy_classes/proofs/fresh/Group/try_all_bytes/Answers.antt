-- Each turn tries what one more byte makes, and at the end all are tried.
use Rattle.std.proofs.Common.{arith}
use Rattle.policy_classes.proofs.Tried.{bytes_all, bytes_more}
use Rattle.policy_classes.proofs.fresh.Group.try_all_bytes.Goals as goal

pub loop-byte-preserved : goal.loop-byte-preserved
loop-byte-preserved c =
    bytes_more c.args.self.now c.args.text.now c.loop-byte.byte c.args.best c.loop-byte.found c.in_ok-found.found (omega arith) c.loop-byte.invariant
    c.in_ok-found.ensures

pub returns : goal.returns
returns c = bytes_all c.args.self.now c.args.text.now c.loop-byte.byte c.args.best c.loop-byte.found (omega arith) c.loop-byte.invariant
