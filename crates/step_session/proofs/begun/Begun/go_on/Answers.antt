-- A line that was too long stays so, one may become so, and another is kept.
use Rattle.std.proofs.Common.{arith}
use Rattle.step_session.proofs.Sessions.{goes_on_kept, goes_on_long, goes_on_still}
use Rattle.step_session.proofs.begun.Begun.go_on.Goals as goal

pub returns-in_default-clause-goes_on : goal.returns-in_default-clause-goes_on
returns-in_default-clause-goes_on c = goes_on_still c.args.self.now c.args.bytes.now c.in_default.is c.requires

pub returns-then-len-bytes-gt-LONGEST-clause-goes_on : goal.returns-then-len-bytes-gt-LONGEST-clause-goes_on
returns-then-len-bytes-gt-LONGEST-clause-goes_on c = goes_on_long c.args.self.now c.in-Line.kept c.args.bytes.now c.in-Line.is c.requires (omega (arith, c.len.ensures))

pub returns-clause-goes_on : goal.returns-clause-goes_on
returns-clause-goes_on c =
    goes_on_kept c.args.self.now c.in-Line.kept c.extend_from_slice.new.self c.args.bytes.now c.in-Line.is c.requires c.in_ok-extend_from_slice.ensures.items
