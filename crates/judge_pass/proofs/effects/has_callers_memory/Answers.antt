-- Both groups have ordinals, by which they are compared.
use Rattle.std.proofs.Common.{◌≡◌, ◌<◌, sym}
use Rattle.hist_model.specs.Steps.{mem}
use Rattle.history_frames.specs.Ordinals.{group_of, groups_made}
use Rattle.judge_pass.proofs.CallersGroup.{callers_group}
use Rattle.judge_pass.proofs.SameGroups.{same_groups}
use Rattle.judge_pass.proofs.effects.has_callers_memory.Goals as goal

pub returns-in-Some : goal.returns-in-Some
returns-in-Some c = λ P S K w n h seat is.
    let own = callers_group P S K c.args.judge.now n c.args.call.now c.caller_group.result h is c.caller_group.ensures in
    let made : c.in-Some.group < groups_made K = rw c.in-Some.is at seat.memory_made in
    let open_is : mem K w ≡ group_of K c.in-Some.group = rw c.in-Some.is at seat.memory_is in
    rw (open_is, own.is) (sym (same_groups K c.in-Some.group c.caller_group.result made own.made))
