use Rattle.std.proofs.Common.{arith}
use Rattle.explorer.proofs.EndsNoted.{all_noted}
use Rattle.explorer.proofs.ends.Ends.note.Goals as goal

pub returns : goal.returns
returns c = λ P S W b done more t i a.
    all_noted P S W b done more c.args.self.now _ c.args.end c.args.length t i a c.in_ok-join_to.ensures c.in_ok-self.ensures c.in_ok-self-2.ensures (omega (arith, c.max-self.ensures))
