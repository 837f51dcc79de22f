use Rattle.std.proofs.Common.{refl}
use Rattle.judge_pass.proofs.WorkerEvents.{let-go}
use Rattle.judge_pass.proofs.HandTests.{as-event}
use Rattle.judge_pass.proofs.KeptWithin.{within-let-go, within-seat}
use Rattle.judge_pass.proofs.judge.Judge.note_let_go.Goals as goal

pub returns-clause-stands : goal.returns-clause-stands
returns-clause-stands c P S K e s history kind =
    as-event P S K e _ kind.0 history _ (λ h.
    let-go P S K c.args.worker c.args.self.now s c.requires.worker c.index_mut.result.now c.index_mut.ensures.value h c.let_go.new.self
    (rw kind.1 c.let_go.ensures.begun) c.let_go.ensures.memory c.let_go.ensures.base)

pub returns-clause-within : goal.returns-clause-within
returns-clause-within c =
    within-seat c.args.self.now _ c.args.worker c.let_go.new.self c.requires.within (within-let-go c.args.self.now c.let_go.new.self c.args.place c.let_go.ensures.begun c.let_go.ensures.memory) refl refl

pub returns-clause-calls : goal.returns-clause-calls
returns-clause-calls c = refl
