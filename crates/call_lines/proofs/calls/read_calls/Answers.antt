-- A line that has no call ends the reading.
use Rattle.std.proofs.Common.{◌≡◌, Err, rules}
use Rattle.call_lines.proofs.Lines.{ends_there}
use Rattle.call_lines.proofs.calls.read_calls.Goals as goal

pub returns-in_err-call : goal.returns-in_err-call
returns-in_err-call c =
    let failed : c.from_residual-in_err-call.result ≡ Err c.in_err-call.field-0.0 = search rules in
    let first = c.in_ok-line.ensures.line in
    rw failed (ends_there c.args.bytes.now c.loop-found.found.items c.loop-found.lines _ _ c.in_err-call.field-0.0 c.loop-found.invariant (rw c.in-Some.is at first).0 c.in_err-call.ensures)
