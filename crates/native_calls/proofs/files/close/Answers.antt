use Rattle.native_calls.proofs.Runs.{closed, not-closed, unchanged}
use Rattle.native_calls.proofs.files.close.Goals as goal

pub returns-in-Ok-clause-run : goal.returns-in-Ok-clause-run
returns-in-Ok-clause-run c s T = closed s c.args.group c.args.number ((s.contents c.args.group).slot c.args.number) c.close.new.self (c.in-Ok.ensures.open s T) (c.in-Ok.ensures.step s T)

pub returns-in-Err-clause-run : goal.returns-in-Err-clause-run
returns-in-Err-clause-run c s T =
    not-closed s c.args.group c.args.number ((s.contents c.args.group).slot c.args.number) c.close.new.self (c.in-Err.ensures.open s T) (unchanged s c.args.group c.args.groups.now c.close.new.self T c.in-Err.ensures.refused)
