use Rattle.std.proofs.Common.{arith}
use Rattle.std.proofs.lemmas.Option.{slice_get_within}
use Rattle.tasks.specs.Table.{member, table_of}
use Rattle.tasks.proofs.Asked.{child-none, child-some, child-unmade}
use Rattle.tasks.proofs.Read.{item-read}
use Rattle.tasks.proofs.table.Tasks.child.Goals as goal

pub returns-in_err-place-clause-none : goal.returns-in_err-place-clause-none
returns-in_err-place-clause-none c = rw c.from_residual-in_err-place.ensures (λ S K rest s l.
    child-unmade S K (table_of c.args.self.now) s.is_table c.args.o c.args.k (member c.in_ok-task.task.now) rest c.in_ok-task.ensures.some (λ j p q g. c.in_err-place.ensures (omega (arith, q))))

pub returns-in-Some-clause-some : goal.returns-in-Some-clause-some
returns-in-Some-clause-some c =
    let h = rw c.deref.ensures.value at c.in-Some.ensures.lookup in
    let t = c.in_ok-task.task.now in
    child-some c.args.self.now c.args.o c.args.k c.in_ok-place.place (member t) c.in-Some.entry.now c.in_ok-task.ensures.some (omega (arith, c.in_ok-place.ensures)) (item-read t.children.items c.in_ok-place.place c.in-Some.entry.now h.3.0 h.1)

pub returns-in-Some-clause-none : goal.returns-in-Some-clause-none
returns-in-Some-clause-none c =
    let h = rw c.deref.ensures.value at c.in-Some.ensures.lookup in
    let t = c.in_ok-task.task.now in
    child-none c.args.self.now c.args.o c.args.k c.in_ok-place.place (member t) c.in-Some.entry.now c.in_ok-task.ensures.some (omega (arith, c.in_ok-place.ensures)) (item-read t.children.items c.in_ok-place.place c.in-Some.entry.now h.3.0 h.1)

pub returns-in-None-clause-none : goal.returns-in-None-clause-none
returns-in-None-clause-none c S K rest s l =
    let h = rw c.deref.ensures.value at c.in-None.ensures.lookup in
    let t = c.in_ok-task.task.now in
    child-unmade S K (table_of c.args.self.now) s.is_table c.args.o c.args.k (member t) rest c.in_ok-task.ensures.some (λ j p q g. omega (arith, slice_get_within t.children.items j _ g, q, c.in_ok-place.ensures, h.3))
