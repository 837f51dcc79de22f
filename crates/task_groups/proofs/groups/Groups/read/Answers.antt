use Rattle.std.proofs.Common.{◌≡◌, true, ap, arith, rules, add-zero, ◌∙◌}
use Rattle.hist_model.specs.Memory.{is_mapped}
use Rattle.task_groups.specs.Rows.{Row}
use Rattle.task_groups.proofs.Rows.{read-row}
use Rattle.task_groups.proofs.Answered.{read-bytes}
use Rattle.task_groups.proofs.groups.Groups.read.Goals as goal

pub returns-clause-answer : goal.returns-clause-answer
returns-clause-answer c s T l =
    let G = c.args.self.now in
    let r = c.requires.0 in
    let there = c.requires.1 in
    let list : c.deref-3.result.now ≡ r.pages = c.deref-3.ensures.value ∙ ap (λ (x : Row). x.pages) (read-row G.rows.items c.args.o c.index.result.now r (search rules) there) in
    let first : is_mapped G.map.items c.args.addr ≡ true = rw (c.deref.ensures.value, add-zero) at (c.mapped_rest.ensures.within 0 (omega arith)) in
    let out = (rw list at c.append.ensures.items) (T.sound.rows c.args.o r there).pages_rise in
    read-bytes s G c.args.o r c.args.addr c.args.len c.mapped_count-count.result c.append.new.out.items T there l first
    (rw (c.deref-2.ensures.value, c.from-len.ensures) at c.mapped_count-count.ensures.count) (rw c.clear.ensures.items at out)
