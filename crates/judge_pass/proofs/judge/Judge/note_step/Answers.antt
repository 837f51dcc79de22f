use Rattle.std.proofs.Common.{rules, ◌≡◌, to_z, of_z, w32}
use Rattle.judge_pass.proofs.TaskEvents.{idle-step, idles-rest}
use Rattle.judge_pass.proofs.MadeTasks.{entered-so}
use Rattle.judge_pass.proofs.judge.Judge.note_step.Goals as goal

pub returns-in-Enter : goal.returns-in-Enter
returns-in-Enter c =
    let same : to_z w32 (of_z w32 c.in-Enter.nr) ≡ c.in-Enter.nr = search rules in
    entered-so _ c.note_entry.result c.args.self.now c.note_entry.new.self c.args.task c.args.place c.in-Enter.nr c.in-Enter.args c.in-Enter.verdict c.args.what.now c.args.opened same c.in-Enter.is c.note_entry.ensures

pub returns-in_default : goal.returns-in_default
returns-in_default c P S K e s history kind =
    idle-step P S K e c.args.self.now s history c.args.task kind.0.who
    (rw kind.0.what_is (idles-rest c.args.what.now c.in_default.not-Spawn c.in_default.not-Enter c.in_default.not-Native c.in_default.not-Resume c.in_default.not-Deliver c.requires.no_install))
