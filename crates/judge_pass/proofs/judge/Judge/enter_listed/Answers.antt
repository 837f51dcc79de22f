use Rattle.std.proofs.Common.{arith, refl, sym, w32}
use Rattle.std.proofs.lemmas.Int.{to_z-of_z}
use Rattle.hist_model.specs.declared.event.Entered.TheVariants.{Notify}
use Rattle.judge_pass.proofs.MadeTasks.{entered-listed-so, entry-of}
use Rattle.judge_pass.proofs.judge.Judge.enter_listed.Goals as goal

pub returns : goal.returns
returns c P S K e s history kind =
    let same = to_z-of_z w32 c.args.nr c.ranges.nr in
    entered-listed-so P S K e c.args.self.now s history c.args.task c.requires.task c.args.nr c.args.args.now c.args.id kind.0 (omega arith) c.index_mut-row.result.now c.index_mut-row.ensures.value
    c.of-row.result (entry-of c.args.nr _ c.args.args.now (Notify c.args.id) c.of-row.result (omega arith) same c.of-row.ensures)
    c.enter.new.self _ (sym kind.1) refl refl same refl refl refl refl c.new.ensures.items c.in_ok-call.ensures.rows c.enter.ensures.first c.in_ok-call.call c.in_ok-call.ensures.number
