-- A piece ends the value, or is its next bytes.
use Rattle.std.proofs.Common.{arith}
use Rattle.arg_capture.proofs.Steps.{takes_as, answer_ends_value, answer_extends_value}
use Rattle.arg_capture.proofs.reading.Reading.take_value.Goals as goal

pub returns-then-bytes-size : goal.returns-then-bytes-size
returns-then-bytes-size c =
    let r = c.requires in
    takes_as c.args.self.now c.end_part.new.self _ _ _ (λ later. answer_ends_value c.args.self.now c.args.addr c.args.size c.args.bytes.now later r.in_hand r.some (omega arith) c.if-bytes-size.true) c.end_part.ensures

pub returns : goal.returns
returns c =
    let h = rw c.further.ensures at c.extend_part.ensures in
    takes_as c.args.self.now c.extend_part.new.self _ _ _ (λ later. answer_extends_value c.args.self.now c.args.addr c.args.size c.args.bytes.now later c.requires.in_hand (omega arith) c.if-bytes-size.false) h
