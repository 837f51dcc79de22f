use Rattle.std.proofs.Common.{◌≡◌, Some, None, List, refl, ap, sym, ◌∙◌}
use Rattle.tasks.specs.Table.{Member, member, table_of, with_progress}
use Rattle.tasks.proofs.Read.{past-task, put-task, read-task}
use Rattle.tasks.proofs.table.Tasks.put.Goals as goal

pub returns-in-Some : goal.returns-in-Some
returns-in-Some c =
    let T = c.args.self.now in
    let i = c.in-Some.ensures.item in
    record {
      some = λ t at. ap (λ (xs : List Member). record (table_of T) { tasks = xs })
          (put-task T.tasks.items c.args.o c.in-Some.task.now _ t (with_progress t c.args.progress) i.3.0 i.1 at (λ q. ap (λ (x : Member). with_progress x c.args.progress) q));
      none = λ q. let z : None ≡ Some (member c.in-Some.task.now) = sym q ∙ read-task T.tasks.items c.args.o c.in-Some.task.now i.3.0 i.1 in cc;
    }

pub returns-in_default : goal.returns-in_default
returns-in_default c =
    let n = past-task c.args.self.now.tasks.items c.args.o c.in_default.ensures.item.3 in
    record { some = λ t at. let z : None ≡ Some t = sym n ∙ at in cc; none = λ q. refl }
