use Rattle.std.proofs.Common.{◌≡◌, length, rules}
use Rattle.task_groups.proofs.Stand.{live-held}
use Rattle.native_calls.proofs.Runs.{stored, unmapped, unchanged}
use Rattle.native_calls.proofs.memory.write_sysinfo.Goals as goal

pub returns-in-Ok-clause-run : goal.returns-in-Ok-clause-run
returns-in-Ok-clause-run c s T =
    let size : length c.host.result ≡ 112 = search rules in
    stored s c.args.group c.args.addr (length c.host.result) c.args.figures.now c.host.result c.store.new.self size (c.in-Ok.ensures.fault s T) c.host.ensures
    (c.in-Ok.ensures.step s T (live-held s c.args.groups.now T c.args.group c.requires.live))

pub returns-in-Err-clause-run : goal.returns-in-Err-clause-run
returns-in-Err-clause-run c s T =
    let size : length c.host.result ≡ 112 = search rules in
    unmapped s c.args.group c.args.addr (length c.host.result) c.args.figures.now c.store.new.self size (c.in-Err.ensures.fault s T) (unchanged s c.args.group c.args.groups.now c.store.new.self T c.in-Err.ensures.refused)
