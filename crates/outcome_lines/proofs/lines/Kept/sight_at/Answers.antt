use Rattle.std.proofs.Common.{sym}
use Rattle.outcome_lines.proofs.Gathered.{unmarked}
use Rattle.outcome_lines.proofs.lines.Kept.sight_at.Goals as goal

pub returns-in-None : goal.returns-in-None
returns-in-None c =
    unmarked c.args.self.now.history.now.events c.args.self.now.marks.now c.in-Some.place c.in-Some-mark_of.mark.now c.args.place c.in-Some.is (sym c.in-Some-mark_of.ensures) c.in-None.ensures.none
