use Rattle.std.proofs.Common.{ap, ◌∙◌}
use Rattle.judge_pass.specs.Within.{calls_kept}
use Rattle.judge_pass.proofs.Installed.{installed-call-so, installed-none-so, task-call}
use Rattle.judge_pass.proofs.KeptWithin.{kept-calls, within-files, within-installed}
use Rattle.judge_pass.proofs.judge.Judge.note_installed.Goals as goal

pub returns-in-Some : goal.returns-in-Some
returns-in-Some c =
    let files = within-files c.args.self.now c.note_file.new.self c.requires.within c.note_file.ensures.same in
    record {
      stands = λ P S K e s history step.
          installed-call-so P S K e c.args.self.now s history c.args.task c.requires.task c.args.answer.now step c.index.result.now c.index.ensures c.in-Some.call c.in-Some.is c.note_file.new.self c.note_answered.new.self
          c.note_file.ensures.same (c.in_ok-note_file.ensures.rows c.index.result.now) (c.in_ok-note_file.ensures.made c.index.result.now) c.note_answered.ensures;
      within = within-installed c.note_file.new.self c.note_answered.new.self c.in-Some.call c.args.answer.now files
          (rw c.note_file.ensures.same (task-call c.args.self.now c.args.task c.in-Some.call c.index.result.now c.requires.within c.requires.task c.index.ensures c.in-Some.is)) c.note_answered.ensures;
      calls = kept-calls c.note_file.new.self c.note_answered.new.self c.in-Some.call c.args.answer.now c.note_answered.ensures ∙ ap calls_kept c.note_file.ensures.same;
    }

pub returns-in_default : goal.returns-in_default
returns-in_default c = record {
  stands = λ P S K e s history step. installed-none-so P S K e c.args.self.now s history c.args.task c.requires.task c.args.answer.now step c.index.result.now c.index.ensures c.in_default.is _;
  within = within-files c.args.self.now c.note_file.new.self c.requires.within c.note_file.ensures.same;
  calls = ap calls_kept c.note_file.ensures.same;
}
