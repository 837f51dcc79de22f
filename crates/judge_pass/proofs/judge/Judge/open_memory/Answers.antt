use Rattle.judge_pass.proofs.WorkerEvents.{memory-opened}
use Rattle.judge_pass.proofs.HandTests.{as-event, below-some}
use Rattle.judge_pass.proofs.judge.Judge.open_memory.Goals as goal

pub returns : goal.returns
returns c pid P S K e s history kind =
    as-event P S K e _ kind.0 history _ (λ h.
    memory-opened P S K c.args.worker c.args.self.now s c.requires.worker c.index_mut-seat.result.now c.index_mut-seat.ensures.value pid h c.group_of-memory.result
    (c.group_of-memory.ensures.group P S K pid s kind.1) (below-some c.group_of-memory.result c.args.self.now.groups _ s.groups_are (c.group_of-memory.ensures.made c.requires.within)))
