use Rattle.std.proofs.Common.{Option, ap, sym, ◌∙◌}
use Rattle.task_groups.specs.Rows.{Row, descriptor_in, mark_in}
use Rattle.task_groups.proofs.Rows.{put-there}
use Rattle.task_groups.proofs.Answered.{some-unmapped, all-are-mapped}
use Rattle.task_groups.proofs.Stand.{stored}
use Rattle.task_groups.proofs.groups.Groups.store.Goals as goal

pub returns-then-mapped_count-bytes-clause-fault : goal.returns-then-mapped_count-bytes-clause-fault
returns-then-mapped_count-bytes-clause-fault c s T =
    sym (some-unmapped s.map c.args.self.now.map.items c.args.addr _ c.mapped_count.result T.map_is T.low (rw c.deref.ensures.value at c.mapped_count.ensures.count) c.if-mapped_count-bytes.true)

pub returns-clause-fault : goal.returns-clause-fault
returns-clause-fault c s T =
    sym (all-are-mapped s.map c.args.self.now.map.items c.args.addr _ c.mapped_count.result T.map_is T.low (rw c.deref.ensures.value at c.mapped_count.ensures.count) c.if-mapped_count-bytes.false)

pub returns-clause-step : goal.returns-clause-step
returns-clause-step c s T l =
    let w = c.write.ensures T.sound c.requires.row.0 c.requires.row.1 in
    stored s c.args.self.now T c.write.new.self c.args.o c.requires.row.0 w.0 c.args.addr c.args.bytes.now c.requires.row.1 l w.1 w.2

pub returns-clause-marks : goal.returns-clause-marks
returns-clause-marks c sound m =
    let w = c.write.ensures sound c.requires.row.0 c.requires.row.1 in
    ap (λ (x : Option Row). mark_in (descriptor_in x m)) (put-there c.args.self.now c.write.new.self c.args.o c.requires.row.0 _ c.requires.row.1 w.1)
    ∙ ap (λ (x : Option Row). mark_in (descriptor_in x m)) (sym c.requires.row.1)
