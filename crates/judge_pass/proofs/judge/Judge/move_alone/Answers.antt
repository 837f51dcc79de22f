use Rattle.std.proofs.Common.{◌≡◌, to_z, of_z, w32, rules}
use Rattle.judge_pass.proofs.HandTests.{as-event}
use Rattle.judge_pass.proofs.IdleWorkers.{idle-worker, on-ok}
use Rattle.judge_pass.proofs.judge.Judge.move_alone.Goals as goal

pub returns-in-OpenMem : goal.returns-in-OpenMem
returns-in-OpenMem c P S K e s history kind =
    let k = rw c.in-OpenMem.is at kind in
    c.answer_memory.ensures c.in-OpenMem.pid P S K e s history (k.1, k.3)

pub returns-in-OpenBase : goal.returns-in-OpenBase
returns-in-OpenBase c P S K e s history kind =
    let same : to_z w32 (of_z w32 c.in-OpenBase.dirfd) ≡ c.in-OpenBase.dirfd = search rules in
    let k = rw c.in-OpenBase.is at kind in
    c.open_base.ensures c.in-OpenBase.pid P S K e s history (k.0, rw same k.1, k.3)

pub returns-in-Check : goal.returns-in-Check
returns-in-Check c P S K e s history kind =
    let k = rw c.in-Check.is at kind in
    c.answer_check.ensures P S K e s history k.1

pub returns-in-Read : goal.returns-in-Read
returns-in-Read c =
    on-ok c.read.result _ _ (λ f P S K e s history kind.
    let k = rw c.in-Read.is at kind in
    f P S K e s history (k.1, k.2)) c.read.ensures

pub returns-in_default : goal.returns-in_default
returns-in_default c P S K e s history kind =
    as-event P S K e _ kind.1 history _ (λ h.
    idle-worker P S K c.args.worker c.args.self.now s c.requires.worker c.args.what.now c.in_default.not-OpenMem c.in_default.not-OpenBase c.in_default.not-Check c.in_default.not-Read c.requires.kind h)
