use Rattle.std.proofs.Common.{arith, w32}
use Rattle.std.proofs.lemmas.Int.{to_z-of_z}
use Rattle.judge_pass.proofs.MadeTasks.{entered-other, entry-of}
use Rattle.judge_pass.proofs.judge.Judge.enter.Goals as goal

pub returns : goal.returns
returns c entered f P S K e s history step =
    entered-other P S K e c.args.self.now s history c.args.task c.requires.task c.args.nr c.args.args.now entered step f (omega arith) c.index_mut.result.now c.index_mut.ensures.value
    c.of.result (entry-of c.args.nr _ c.args.args.now entered c.of.result (omega arith) (to_z-of_z w32 c.args.nr c.ranges.nr) c.of.ensures)
