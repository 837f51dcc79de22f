-- A piece ends the text, or finds it too long, or is its next bytes.
use Rattle.std.proofs.Common.{◌∙◌, sym}
use Rattle.arg_capture.proofs.Steps.{takes_as, answer_ends_text, answer_is_long, answer_extends_text}
use Rattle.arg_capture.proofs.reading.Reading.take_text.Goals as goal

pub returns-in-Some : goal.returns-in-Some
returns-in-Some c =
    let z = sym c.first_zero.ensures ∙ c.in-Some.is in
    takes_as c.args.self.now c.end_part.new.self _ _ _ (λ later. answer_ends_text c.args.self.now c.args.addr c.args.limit c.args.fault c.args.bytes.now c.in-Some.end later c.requires.in_hand z) c.end_part.ensures

pub returns-then-bytes-limit : goal.returns-then-bytes-limit
returns-then-bytes-limit c =
    let z = sym c.first_zero.ensures ∙ c.in_default.is in
    (λ later. answer_is_long c.args.self.now c.args.addr c.args.limit c.args.fault c.args.bytes.now later c.requires.in_hand z c.if-bytes-limit.true, λ e. cc, λ h. h)

pub returns : goal.returns
returns c =
    let z = sym c.first_zero.ensures ∙ c.in_default.is in
    let h = rw c.further.ensures at c.extend_part.ensures in
    takes_as c.args.self.now c.extend_part.new.self _ _ _ (λ later. answer_extends_text c.args.self.now c.args.addr c.args.limit c.args.fault c.args.bytes.now later c.requires.in_hand z c.if-bytes-limit.false) h
