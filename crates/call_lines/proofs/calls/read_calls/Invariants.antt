-- What the lines that are left come to, behind the calls that are read so far.
use Rattle.std.proofs.Common.{◌≡◌, length}
use Rattle.call_lines.specs.Calls.{calls, calls_behind}
use Rattle.call_lines.proofs.calls.read_calls.Given as goal

abbrev pub invariant-loop-found : goal.invariant-loop-found
invariant-loop-found l = calls_behind l.found.items l.lines ≡ calls l.bytes

abbrev pub decreases-loop-found : goal.decreases-loop-found
decreases-loop-found l = length l.lines
