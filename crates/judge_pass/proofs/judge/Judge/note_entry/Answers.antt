use Rattle.std.proofs.Common.{w32}
use Rattle.std.proofs.lemmas.Int.{to_z-of_z}
use Rattle.judge_pass.proofs.MadeTasks.{unlisted-entry}
use Rattle.judge_pass.proofs.judge.Judge.note_entry.Goals as goal

pub returns-in-Notify : goal.returns-in-Notify
returns-in-Notify c =
    let same = to_z-of_z w32 c.args.nr c.ranges.nr in
    rw c.in-Notify.is (rw same at c.enter_listed.ensures)

pub returns-in_default : goal.returns-in_default
returns-in_default c P S K e s history kind =
    let same = to_z-of_z w32 c.args.nr c.ranges.nr in
    (rw same at c.enter.ensures) c.args.verdict (unlisted-entry c.args.nr c.args.args.now c.args.verdict c.in_default.not-Notify) P S K e s history kind.0
