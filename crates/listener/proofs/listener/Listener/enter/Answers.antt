use Rattle.std.proofs.Common.{◌+◌, ◌%◌, ◌^◌, ap, ◌∙◌}
use Rattle.history_frames.specs.Ordinals.{task_name_of}
use Rattle.listener.proofs.Stand.{looks, stands-entered}
use Rattle.listener.proofs.listener.Listener.enter.Goals as goal

pub returns-clause-id : goal.returns-clause-id
returns-clause-id c first K S =
    let l = looks first K c.args.self.now S in
    c.enter.ensures.id (task_name_of K) c.args.self.now.requests ∙ (ap (λ f. (f + c.args.self.now.queue.order.entered) % 2 ^ 64) l.first_is ∙ ap (λ n. (first + n) % 2 ^ 64) l.entered_is)

pub returns-clause-step : goal.returns-clause-step
returns-clause-step c first K e S i =
    let l = looks first K c.args.self.now S in
    stands-entered first K c.args.self.now S e c.enter.result _ i (rw (← l.entered_is) c.requires.number) (returns-clause-id c first K S) (λ names. c.enter.ensures.step names c.args.self.now.requests)
