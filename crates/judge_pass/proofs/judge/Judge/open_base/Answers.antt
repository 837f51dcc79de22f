use Rattle.std.proofs.Common.{◌≡◌, rules, to_z, of_z, w32}
use Rattle.judge_pass.proofs.judge.Judge.open_base.Goals as goal

pub returns-in-Ok : goal.returns-in-Ok
returns-in-Ok c =
    let same : to_z w32 (of_z w32 c.args.dirfd) ≡ c.args.dirfd = search rules in
    rw c.in-Ok.is (rw same at c.note_base.ensures)

pub returns-in-Err : goal.returns-in-Err
returns-in-Err c pid P S K e s history kind =
    let same : to_z w32 (of_z w32 c.args.dirfd) ≡ c.args.dirfd = search rules in
    let noted = rw same at c.note_refused.ensures in
    noted pid P S K e s history (kind.0, rw c.in-Err.is at kind.1)
