use Rattle.std.proofs.Common.{◌<◌, length, inl, inr, ap, sym, ◌∙◌, arith}
use Rattle.std.proofs.lemmas.Bool.{cases_eq}
use Rattle.std.specs.Prelude.{slice_get}
use Rattle.tasks.specs.Table.{member, table_of}
use Rattle.tasks.proofs.Reaped.{ended-below, lives-there}
use Rattle.tasks.proofs.Read.{item-read}
use Rattle.tasks.proofs.table.Tasks.first_ended.Goals as goal

pub loop-place-init : goal.loop-place-init
loop-place-init c j l e = omega arith

pub loop-place-preserved : goal.loop-place-preserved
loop-place-preserved c j l e = elim (cases_eq j c.loop-place.place) [
  | inl q ↦
      let t = c.in_ok-task.task.now in
      let h : c.loop-place.place < length t.waiting.items = omega (arith, c.loop-place-test.true, c.len.ensures, t.waiting.ok.0) in
      lives-there (table_of c.args.self.now) c.args.o j (member t) c.index.result.now c.in_ok-task.ensures.some (ap (slice_get t.waiting.items) q ∙ item-read t.waiting.items c.loop-place.place c.index.result.now h c.index.ensures) (sym c.lives.ensures ∙ c.if-not-lives.false) e
  | inr q ↦ c.loop-place.invariant j (omega (arith, l, q)) e
]

pub returns-clause-none : goal.returns-clause-none
returns-clause-none c j e =
    let t = c.in_ok-task.task.now in
    c.loop-place.invariant j (omega (arith, ended-below (table_of c.args.self.now) c.args.o j (member t) c.in_ok-task.ensures.some e, c.loop-place-test.false, c.len.ensures, t.waiting.ok.0)) e
