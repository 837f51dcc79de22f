use Rattle.std.proofs.Common.{rules, ◌≡◌, true, w32, to_z, of_z}
use Rattle.hist_model.specs.Files.{files}
use Rattle.hist_model.specs.Natives as natives
use Rattle.task_groups.specs.Stands.{state}
use Rattle.native_calls.proofs.Runs.{opens, set_runs, tree-alone}
use Rattle.native_calls.proofs.requests.run_request.Goals as goal

pub returns-then-makes_device-clause-run : goal.returns-then-makes_device-clause-run
returns-then-makes_device-clause-run c S K living handles g T at t r =
    let from : to_z w32 (of_z w32 c.args.dirfd) ≡ c.args.dirfd = search rules in
    let base = rw from at (c.base_of-base.ensures S K living handles g T at t r) in
    tree-alone (state S K living handles) c.args.group _ _ c.args.tree.now.tree c.args.tree.now.tree c.args.groups.now T (search rules)

pub returns-then-not-may_set-clause-run : goal.returns-then-not-may_set-clause-run
returns-then-not-may_set-clause-run c S K living handles g T at t r =
    let from : to_z w32 (of_z w32 c.args.dirfd) ≡ c.args.dirfd = search rules in
    let base = rw from at (c.base_of-base.ensures S K living handles g T at t r) in
    tree-alone (state S K living handles) c.args.group _ _ c.args.tree.now.tree c.args.tree.now.tree c.args.groups.now T (search rules)

pub returns-in_err-node-in-OpenAt-clause-run : goal.returns-in_err-node-in-OpenAt-clause-run
returns-in_err-node-in-OpenAt-clause-run c S K living handles g T at t r =
    let from : to_z w32 (of_z w32 c.args.dirfd) ≡ c.args.dirfd = search rules in
    let base = rw from at (c.base_of-base.ensures S K living handles g T at t r) in
    tree-alone (state S K living handles) c.args.group _ _ c.args.tree.now.tree c.args.tree.now.tree c.args.groups.now T (search rules)

pub returns-else-makes_device-clause-run : goal.returns-else-makes_device-clause-run
returns-else-makes_device-clause-run c S K living handles g T at t r =
    let from : to_z w32 (of_z w32 c.args.dirfd) ≡ c.args.dirfd = search rules in
    let base = rw from at (c.base_of-base.ensures S K living handles g T at t r) in
    tree-alone (state S K living handles) c.args.group _ c.change.result c.args.tree.now.tree c.change.new.tree.tree c.args.groups.now T (search rules)

pub returns-else-not-may_set-clause-run : goal.returns-else-not-may_set-clause-run
returns-else-not-may_set-clause-run c =
    let may : c.may_set.result ≡ true = search rules in
    let from : to_z w32 (of_z w32 c.args.dirfd) ≡ c.args.dirfd = search rules in
    let said = rw c.items-in-SetXattr.ensures at (c.may_set.ensures c.in-SetXattr.path c.in-SetXattr.value) in
    let base = rw from at c.base_of-base.ensures in
    set_runs c.args.request.now c.in-SetXattr.path c.in-SetXattr.name c.in-SetXattr.value c.in-SetXattr.flags c.args.root.ordinal c.args.group _ c.args.dirfd c.may_set.result
    c.args.tree.now.tree c.change-in-SetXattr.new.tree.tree c.args.groups.now c.change-in-SetXattr.result c.in-SetXattr.is said may base c.change-in-SetXattr.ensures.run

pub returns-in_ok-node-in-OpenAt-clause-run : goal.returns-in_ok-node-in-OpenAt-clause-run
returns-in_ok-node-in-OpenAt-clause-run c S K living handles g T at t r =
    let from : to_z w32 (of_z w32 c.args.dirfd) ≡ c.args.dirfd = search rules in
    let base = rw from at (c.base_of-base.ensures S K living handles g T at t r) in
    let found = rw (c.items-in-OpenAt.ensures, t, r, base) at c.in_ok-node-in-OpenAt.ensures in
    opens S K living handles c.args.group g (natives.base_of S (files S K) g c.args.dirfd) c.args.request.now c.in-OpenAt.dirfd c.in-OpenAt.path c.in-OpenAt.flags c.in_ok-node-in-OpenAt.node.ordinal c.open.result
    c.args.tree.now.tree c.open.new.groups at c.in-OpenAt.is found (c.open.ensures.run (state S K living handles) T)

pub returns-in_default-clause-run : goal.returns-in_default-clause-run
returns-in_default-clause-run c S K living handles g T at t r =
    tree-alone (state S K living handles) c.args.group _ _ c.args.tree.now.tree c.args.tree.now.tree c.args.groups.now T (search rules)
