use Rattle.std.proofs.Common.{sym, ◌∙◌, ap, subst}
use Rattle.hist_model.specs.declared.event.Event.{Event}
use Rattle.judge_pass.specs.Opened.{HasOpened}
use Rattle.judge_pass.proofs.MadeTasks.{ev-is}
use Rattle.judge_pass.specs.declared.task_table.Task.{Task}
use Rattle.judge_pass.proofs.RanNatively.{ran-close, ran-openat, ran-other, ran-so}
use Rattle.judge_pass.proofs.Rows.{same-item}
use Rattle.judge_pass.proofs.judge.Judge.run_native.Goals as goal

pub returns-in_ok-set-in-Opens : goal.returns-in_ok-set-in-Opens
returns-in_ok-set-in-Opens c P S K e s history kind =
    let same = same-item c.args.self.now.tasks.items c.args.task c.index.result.now c.index-2.result.now c.requires.task c.index.ensures c.index-2.ensures in
    ran-so P S K e c.args.self.now _ c.args.task c.args.number kind.0 history (λ h.
    ran-openat P S K c.args.task c.args.number c.args.self.now s h c.requires.task c.index.result.now c.index.ensures (ap (λ (t : Task). t.entered) same ∙ c.in-Opens.is) c.args.opened
    (subst (λ (y : Event). HasOpened S K y c.args.opened) (sym (ev-is e _ _ kind.0.who kind.0.what_is)) kind.1)
    c.set.new.self.rows c.in_ok-set-in-Opens.ensures.rows c.in_ok-set-in-Opens.ensures.made)

pub returns-in_ok-set-in-Closes : goal.returns-in_ok-set-in-Closes
returns-in_ok-set-in-Closes c P S K e s history kind =
    let same = same-item c.args.self.now.tasks.items c.args.task c.index.result.now c.index-2.result.now c.requires.task c.index.ensures c.index-2.ensures in
    ran-so P S K e c.args.self.now _ c.args.task c.args.number kind.0 history (λ h.
    ran-close P S K c.args.task c.args.number c.args.self.now s h c.requires.task c.index.result.now c.index.ensures c.in-Closes.number (ap (λ (t : Task). t.entered) same ∙ c.in-Closes.is)
    c.set-in-Closes.new.self.rows c.in_ok-set-in-Closes.ensures.rows c.in_ok-set-in-Closes.ensures.made)

pub returns-in-Other : goal.returns-in-Other
returns-in-Other c P S K e s history kind =
    let same = same-item c.args.self.now.tasks.items c.args.task c.index.result.now c.index-2.result.now c.requires.task c.index.ensures c.index-2.ensures in
    ran-so P S K e c.args.self.now _ c.args.task c.args.number kind.0 history (λ h.
    ran-other P S K c.args.task c.args.number c.args.self.now s h c.requires.task c.index.result.now c.index.ensures (ap (λ (t : Task). t.entered) same ∙ c.in-Other.is))
