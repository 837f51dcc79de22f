use Rattle.std.proofs.Common.{ap, refl, sym, ◌∙◌}
use Rattle.std.specs.Prelude.{is_some}
use Rattle.history_frames.specs.Ordinals.{task_name_of}
use Rattle.listener.specs.Requests.{is_of}
use Rattle.listener.proofs.Requesting.{found-one}
use Rattle.listener.proofs.Stand.{stands-taken, stands-waiting, take-answered}
use Rattle.listener.proofs.listener.Listener.take.Goals as goal

pub unreachable-requires : goal.unreachable-requires
unreachable-requires c = found-one (is_of c.args.worker) c.args.self.now.requests c.requires (sym c.in_default.ensures)

pub returns-then-is_over-clause-answer : goal.returns-then-is_over-clause-answer
returns-then-is_over-clause-answer c first K S =
    take-answered first K c.args.self.now S c.args.worker c.in-Some.request c.told-answer.result c.is_some-listed.result c.in-Some.ensures c.told-answer.ensures
    (c.is_some-listed.ensures ∙ ap is_some (c.state_of.ensures (task_name_of K) c.args.self.now.requests))

pub returns-then-is_over-clause-step : goal.returns-then-is_over-clause-step
returns-then-is_over-clause-step c first K e S who what =
    stands-taken first K c.args.self.now S c.args.worker c.in-Some.request c.told-answer.result c.is_some-listed.result c.in-Some.ensures c.told-answer.ensures
    (c.is_some-listed.ensures ∙ ap is_some (c.state_of.ensures (task_name_of K) c.args.self.now.requests)) e _ who what (sym c.is_over.ensures ∙ c.if-is_over.true) (λ names. rw c.remove.ensures refl)

pub returns-else-is_over-clause-answer : goal.returns-else-is_over-clause-answer
returns-else-is_over-clause-answer c first K S =
    take-answered first K c.args.self.now S c.args.worker c.in-Some.request c.told-answer.result c.is_some-listed.result c.in-Some.ensures c.told-answer.ensures
    (c.is_some-listed.ensures ∙ ap is_some (c.state_of.ensures (task_name_of K) c.args.self.now.requests))

pub returns-else-is_over-clause-step : goal.returns-else-is_over-clause-step
returns-else-is_over-clause-step c first K e S who what =
    stands-waiting first K c.args.self.now S c.args.worker c.in-Some.request c.told-answer.result c.is_some-listed.result c.in-Some.ensures c.told-answer.ensures
    (c.is_some-listed.ensures ∙ ap is_some (c.state_of.ensures (task_name_of K) c.args.self.now.requests)) e who what (sym c.is_over.ensures ∙ c.if-is_over.false)
