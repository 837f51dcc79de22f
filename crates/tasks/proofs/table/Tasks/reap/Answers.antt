use Rattle.std.proofs.Common.{◌≡◌, Some, refl, sym, ap, ◌∙◌, arith}
use Rattle.std.specs.Prelude.{Ok, Err, vec_len}
use Rattle.std.proofs.lemmas.Option.{slice_get_within}
use Rattle.hist_model.specs.declared.event.What.{What}
use Rattle.hist_model.specs.declared.event.What.TheVariants.{Reap}
use Rattle.sys_abi.specs.Errnos.{echild}
use Rattle.tasks.specs.Table.{lives_at, member, table_of, waited_for, with_progress, without_waiting}
use Rattle.tasks.proofs.Counted.{counted-put, counted-step, counted-written}
use Rattle.tasks.proofs.Reaped.{childless-wait, found-child, found-wait, idle-wait, stands-reaped}
use Rattle.tasks.proofs.Read.{no-items, no-length, some-length}
use Rattle.tasks.proofs.Listed.{get-within}
use Rattle.tasks.proofs.Stood.{quiet-is, stands-noted}
use Rattle.tasks.proofs.table.Tasks.reap.Goals as goal

pub returns-then-is_empty-clause-answer : goal.returns-then-is_empty-clause-answer
returns-then-is_empty-clause-answer c S K s l d =
    let t = c.in_ok-task.field-0.now in
    childless-wait S K (table_of c.args.self.now) s.is_table c.args.o (member t) c.in_ok-task.ensures.some d (no-items t.waiting.items (omega (arith, no-length (vec_len t.waiting) c.is_empty.result c.is_empty.ensures c.if-is_empty.true, t.waiting.ok.0)))

pub returns-then-is_empty-clause-stands : goal.returns-then-is_empty-clause-stands
returns-then-is_empty-clause-stands c S K e s p is =
    let w : What = Reap (Err echild) in
    record { is_table = stands-noted S K e c.args.o (table_of c.args.self.now) (table_of c.note.new.self) w s.is_table p is (quiet-is w refl) refl refl c.note.ensures }

pub returns-then-is_empty-clause-count : goal.returns-then-is_empty-clause-count
returns-then-is_empty-clause-count c g = counted-step c.args.self.now c.note.new.self c.args.o (Reap (Err echild)) g refl c.note.ensures

pub returns-in_err-place-clause-answer : goal.returns-in_err-place-clause-answer
returns-in_err-place-clause-answer c S K s l d =
    let t = c.in_ok-task.field-0.now in
    let x = get-within t.waiting.items 0 (omega (arith, some-length (vec_len t.waiting) c.is_empty.result c.is_empty.ensures c.if-is_empty.false, t.waiting.ok.0)) in
    rw c.from_residual-in_err-place.ensures (idle-wait S K (table_of c.args.self.now) s.is_table c.args.o (member t) c.in_ok-task.ensures.some d 0 x.0 x.1 c.in_err-place.ensures.none)

pub take_waiting-child-requires : goal.take_waiting-child-requires
take_waiting-child-requires c = let i = c.in_ok-place.ensures.some in (i.0, i.1, slice_get_within i.0.waiting c.in_ok-place.place i.2 i.3)

pub returns-clause-answer : goal.returns-clause-answer
returns-clause-answer c S K s l d =
    let T = table_of c.args.self.now in
    let i = c.in_ok-place.ensures.some in
    let x = c.take_waiting-child.ensures i.0 i.1 in
    let z : Some i.2 ≡ Some c.take_waiting-child.result = sym i.3 ∙ x.0 in
    let same : i.2 ≡ c.take_waiting-child.result = cc in
    let f = found-child T (table_of c.take_waiting-child.new.self) s.is_table.whole c.args.o c.in_ok-place.place c.take_waiting-child.result i.0 c.collect.result _ i.1 x.0 x.1 c.collect.ensures.name c.requires in
    ap (λ m. Reap (Ok m)) f.3 ∙ found-wait S K T s.is_table c.args.o i.0 i.1 d c.in_ok-place.place c.take_waiting-child.result f.0 x.0 f.1 (ap (λ a. lives_at T.tasks (Some a)) (sym same) ∙ i.4) c.in_ok-place.ensures.first

pub returns-clause-stands : goal.returns-clause-stands
returns-clause-stands c S K e s p is = record {
  is_table = stands-reaped S K e c.args.o (table_of c.args.self.now) (table_of c.take_waiting-child.new.self) (table_of c.collect.new.self) (table_of c.note-2.new.self) c.in_ok-place.place c.take_waiting-child.result _ c.collect.result s.is_table p
      c.take_waiting-child.ensures c.collect.ensures.waited c.collect.ensures.name c.requires is c.note-2.ensures;
}

pub returns-clause-count : goal.returns-clause-count
returns-clause-count c g =
    let i = c.in_ok-place.ensures.some in
    counted-step c.collect.new.self c.note-2.new.self c.args.o (Reap (Ok c.collect.result)) g refl c.note-2.ensures
    ∙ (counted-written c.take_waiting-child.new.self c.collect.new.self c.take_waiting-child.result (λ t. with_progress t (waited_for t.progress)) g c.collect.ensures.waited (λ t. refl) (λ t. refl)
    ∙ counted-put c.args.self.now c.take_waiting-child.new.self c.args.o i.0 (without_waiting i.0 c.in_ok-place.place) g i.1 (c.take_waiting-child.ensures i.0 i.1).1 refl refl)
