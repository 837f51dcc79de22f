use Rattle.std.proofs.Common.{◌≡◌, Option, Some, None, Ok, Err, refl, rules, ap, subst, sym, ◌∙◌, w32, to_z, of_z}
use Rattle.std.specs.Prelude.{if◌then◌else◌}
use Rattle.sys_abi.specs.Errnos.{efault, enosys}
use Rattle.hist_model.specs.Memory.{all_mapped, sysinfo_size}
use Rattle.hist_model.specs.Natives.{Gives, Fails, Writes, close_natively}
use Rattle.hist_model.specs.Sysinfo.{host_sysinfo}
use Rattle.hist_model.specs.declared.request.Obj.{Obj}
use Rattle.hist_model.specs.declared.script.Figures.{Figures}
use Rattle.task_groups.specs.Stands.{state}
use Rattle.task_groups.proofs.Answered.{slots}
use Rattle.native_calls.specs.Done.{GroupsRun}
use Rattle.hist_model.specs.Steps.{pid_named}
use Rattle.native_calls.specs.declared.call.NativeCall.TheVariants.{Close, GetPid, Sysinfo, Request, Unknown}
use Rattle.native_calls.proofs.Runs.{groups-alone, run-as, tree-alone}
use Rattle.native_calls.proofs.running.act.Goals as goal

pub returns-in-Close-clause-run : goal.returns-in-Close-clause-run
returns-in-Close-clause-run c =
    run-as c.args.container.now c.args.caller c.args.call (Close c.in-Close.number) c.close.result c.args.tree.now.tree c.args.tree.now.tree c.args.groups.now c.close.new.groups c.in-Close.is
    (λ S K living handles n g stand made own. groups-alone (state S K living handles) c.args.caller.group None _ c.close.result c.args.tree.now.tree c.close.new.groups (subst (λ (x : Option Obj). GroupsRun (state S K living handles) c.args.caller.group None (close_natively c.in-Close.number x) c.close.result c.close.new.groups)
    (slots S K living handles c.args.caller.group g own.group_is c.in-Close.number) (c.close.ensures.run (state S K living handles) stand.groups_stand)))

pub returns-in-GetPid-clause-run : goal.returns-in-GetPid-clause-run
returns-in-GetPid-clause-run c =
    run-as c.args.container.now c.args.caller c.args.call GetPid (Ok c.args.caller.pid) c.args.tree.now.tree c.args.tree.now.tree c.args.groups.now c.args.groups.now c.in-GetPid.is
    (λ S K living handles n g stand made own. tree-alone (state S K living handles) c.args.caller.group (Gives (pid_named K n)) (Ok c.args.caller.pid) c.args.tree.now.tree c.args.tree.now.tree c.args.groups.now stand.groups_stand
    (record { answer_is = ap Ok own.pid_is; tree = refl; quiet = refl }))

pub returns-in-Sysinfo-clause-run : goal.returns-in-Sysinfo-clause-run
returns-in-Sysinfo-clause-run c =
    run-as c.args.container.now c.args.caller c.args.call (Sysinfo c.in-Sysinfo.addr) c.write_sysinfo.result c.args.tree.now.tree c.args.tree.now.tree c.args.groups.now c.write_sysinfo.new.groups c.in-Sysinfo.is
    (λ S K living handles n g stand made own. groups-alone (state S K living handles) c.args.caller.group (Some _) _ c.write_sysinfo.result c.args.tree.now.tree c.write_sysinfo.new.groups (subst (λ (f : Figures). GroupsRun (state S K living handles) c.args.caller.group (Some (c.in-Sysinfo.addr, host_sysinfo f)) (if all_mapped S.map c.in-Sysinfo.addr sysinfo_size then Writes else Fails efault) c.write_sysinfo.result c.write_sysinfo.new.groups)
    (sym made.figures_are) (c.write_sysinfo.ensures.run (state S K living handles) stand.groups_stand)))

pub returns-in-Request-default-Ok-clause-run : goal.returns-in-Request-default-Ok-clause-run
returns-in-Request-default-Ok-clause-run c =
    let made = c.in-Request-default-Ok in
    let from : to_z w32 (of_z w32 made.dirfd) ≡ made.dirfd = search rules in
    run-as c.args.container.now c.args.caller c.args.call (Request made.dirfd (Ok made.request)) c.run_request.result c.args.tree.now.tree c.run_request.new.tree.tree c.args.groups.now c.run_request.new.groups
    (made.is ∙ ap (Request made.dirfd) made.request-is)
    (λ S K living handles n g stand known own. let run = (rw from at c.run_request.ensures.run) S K living handles g stand.groups_stand own.group_is stand.tree_is known.root_is in search rules)

pub returns-in-Request-default-Err-clause-run : goal.returns-in-Request-default-Err-clause-run
returns-in-Request-default-Err-clause-run c =
    let made = c.in-Request-default-Err in
    run-as c.args.container.now c.args.caller c.args.call (Request made.dirfd (Err made.errno)) _ c.args.tree.now.tree c.args.tree.now.tree c.args.groups.now c.args.groups.now (made.is ∙ ap (Request made.dirfd) made.request-is)
    (λ S K living handles n g stand known own. tree-alone (state S K living handles) c.args.caller.group (Fails made.errno) _ c.args.tree.now.tree c.args.tree.now.tree c.args.groups.now stand.groups_stand
    (record { answer_is = search rules; tree = refl; quiet = refl }))

pub returns-in-Unknown-clause-run : goal.returns-in-Unknown-clause-run
returns-in-Unknown-clause-run c =
    run-as c.args.container.now c.args.caller c.args.call Unknown (Err enosys) c.args.tree.now.tree c.args.tree.now.tree c.args.groups.now c.args.groups.now c.in-Unknown.is
    (λ S K living handles n g stand made own. tree-alone (state S K living handles) c.args.caller.group (Fails enosys) (Err enosys) c.args.tree.now.tree c.args.tree.now.tree c.args.groups.now stand.groups_stand
    (record { answer_is = refl; tree = refl; quiet = refl }))
