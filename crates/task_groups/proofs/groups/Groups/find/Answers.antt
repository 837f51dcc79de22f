use Rattle.std.proofs.Common.{◌≡◌, ap, ◌∙◌}
use Rattle.task_groups.specs.Rows.{Row}
use Rattle.task_groups.proofs.Rows.{read-row}
use Rattle.task_groups.proofs.groups.Groups.find.Goals as goal

pub returns : goal.returns
returns c s =
    let (r, at) = c.requires in
    let e = read-row c.args.self.now.rows.items c.args.o c.index.result.now r c.index.ensures at in
    let same : c.deref.result.now ≡ r.descriptors = c.deref.ensures.value ∙ ap (λ (x : Row). x.descriptors) e in
    rw at ((rw same at c.find.ensures) (s.rows c.args.o r at).descriptors_rise)
