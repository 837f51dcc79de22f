-- Nothing is added for a line that is empty, or that opens the schedule.
use Rattle.std.proofs.Common.{◌++◌, sym, ap, ◌∙◌, append-nil}
use Rattle.step_session.proofs.Fronts.{front_empty, front_over}
use Rattle.step_session.proofs.scripts.push_last.Goals as goal

pub returns-then-is_empty : goal.returns-then-is_empty
returns-then-is_empty c =
    let over = front_empty c.args.line.now (sym c.is_empty.ensures ∙ c.if-is_empty.true) in
    sym (ap (λ rest. c.args.front.now.items ++ rest) over ∙ append-nil c.args.front.now.items)

pub returns-then-opens_schedule : goal.returns-then-opens_schedule
returns-then-opens_schedule c =
    let over = front_over c.args.line.now c.requires (sym c.opens_schedule.ensures ∙ c.if-opens_schedule.true) in
    sym (ap (λ rest. c.args.front.now.items ++ rest) over ∙ append-nil c.args.front.now.items)
