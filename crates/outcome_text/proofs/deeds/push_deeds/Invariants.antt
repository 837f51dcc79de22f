use Rattle.std.proofs.Common.{reverse, take}
use Rattle.outcome_text.proofs.SessionDeeds.{IsTold}
use Rattle.outcome_text.proofs.deeds.push_deeds.Given as goal

abbrev pub invariant-loop-later : goal.invariant-loop-later
invariant-loop-later l = IsTold l.is_hidden l.worker l.place (reverse (take l.later l.events)) l.fn.line l.line
