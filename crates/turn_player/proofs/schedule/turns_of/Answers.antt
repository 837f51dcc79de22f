-- The lines are those of the script's schedule, which keeps its rules.
use Rattle.std.proofs.Common.{◌∙◌, ap, map, subst, sym}
use Rattle.std.specs.List.{All}
use Rattle.step_requests.specs.Turns.{AreApart}
use Rattle.turn_player.specs.Turns.{IsTurn, turn_of}
use Rattle.turn_player.proofs.Scheduled.{are_apart, are_lines}
use Rattle.turn_player.proofs.schedule.turns_of.Goals as goal

pub returns-clause-turns : goal.returns-clause-turns
returns-clause-turns c =
    let made = c.in_ok-turns.ensures ∙ ap (map turn_of) c.items-schedule.ensures in
    subst (All IsTurn) (sym made) (are_lines c.script.inside.schedule c.script.invariant.schedule)

pub returns-clause-apart : goal.returns-clause-apart
returns-clause-apart c =
    let made = c.in_ok-turns.ensures ∙ ap (map turn_of) c.items-schedule.ensures in
    subst AreApart (sym made) (are_apart c.script.inside.schedule)
