use Rattle.std.proofs.Common.{◌≡◌, length, Some, ap, ◌∙◌, arith}
use Rattle.std.proofs.lemmas.List.{length-map}
use Rattle.tasks.specs.Rows.{new_progress}
use Rattle.tasks.specs.Table.{Member, member, members, next_name, new_member, table_of}
use Rattle.tasks.proofs.Read.{child-added, new-task, read-same, within-task}
use Rattle.tasks.proofs.table.Tasks.add_child.Goals as goal

pub returns : goal.returns
returns c t at =
    let T = c.args.self.now in
    let n : c.len-ordinal.result ≡ length (members T.tasks.items) = omega (arith, length-map T.tasks.items member, T.tasks.ok.0) in
    let r = read-same T.tasks.items c.args.parent c.index.result.now t (within-task T.tasks.items c.args.parent t at) c.index.ensures at in
    child-added (table_of T) (table_of c.enter.new.self) (table_of c.add.new.self) c.args.parent c.len-ordinal.result t _ (new_member (next_name t) c.args.pid (Some c.args.parent) c.args.group c.args.program t.progress.dispositions)
    (c.enter.ensures.entered t at) n
    (new-task c.next_child-name.result (next_name t) c.args.pid (Some c.args.parent) _ _ c.new-4.result (new_progress c.args.group c.args.program t.progress.dispositions) (c.next_child-name.ensures t at) c.new-2.ensures.items c.new-3.ensures.items
    (c.new-4.ensures ∙ ap (λ (x : Member). new_progress c.args.group c.args.program x.progress.dispositions) r))
    c.add.ensures
