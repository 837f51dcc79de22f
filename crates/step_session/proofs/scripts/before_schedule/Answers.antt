-- The lines so far, and those of what is left.
use Rattle.std.proofs.Common.{◌++◌, sym, ap, ◌∙◌, append-nil, append_assoc}
use Rattle.std.specs.Prelude.{codes}
use Rattle.step_session.specs.Scripts.{before_schedule}
use Rattle.step_session.proofs.Fronts.{front_more, front_opened}
use Rattle.step_session.proofs.scripts.before_schedule.Goals as goal

pub returns-then-opens_schedule : goal.returns-then-opens_schedule
returns-then-opens_schedule c =
    let opens = sym c.opens_schedule.ensures ∙ c.if-opens_schedule.true in
    let over = front_opened c.lines.rest.now c.in-Some.line.now c.in-Some.behind.now c.in-Some.ensures opens in
    c.new.ensures ∙ sym (c.lines.invariant ∙ ap (λ rest. c.lines.front.items ++ rest) over ∙ append-nil c.lines.front.items)

pub lines-preserved : goal.lines-preserved
lines-preserved c =
    let other = sym c.opens_schedule.ensures ∙ c.if-opens_schedule.false in
    let more = front_more c.lines.rest.now c.in-Some.line.now c.in-Some.behind.now c.in-Some.ensures other in
    c.lines.invariant ∙ ap (λ rest. c.lines.front.items ++ rest) more
    ∙ sym (append_assoc c.lines.front.items (c.in-Some.line.now ++ codes "\n") (before_schedule c.in-Some.behind.now))
    ∙ ap (λ front. front ++ before_schedule c.in-Some.behind.now) (sym c.in_ok-push_line.ensures)

pub returns : goal.returns
returns c = c.new-2.ensures ∙ c.in_ok-push_last.ensures ∙ sym c.lines.invariant
