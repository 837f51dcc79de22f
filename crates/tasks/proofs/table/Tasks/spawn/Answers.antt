use Rattle.std.proofs.Common.{◌≡◌, None, refl, sym, ap, ◌∙◌, arith}
use Rattle.std.specs.Prelude.{Ok, Err}
use Rattle.std.proofs.lemmas.List.{length-map}
use Rattle.hist_model.specs.Look.{Name}
use Rattle.hist_model.specs.Steps.{next_child, spawn_answer}
use Rattle.hist_model.specs.declared.event.What.TheVariants.{Spawn}
use Rattle.history_frames.specs.Ordinals.{task_name_of}
use Rattle.history_frames.proofs.Held.{next-free}
use Rattle.sys_abi.specs.Errnos.{eagain}
use Rattle.tasks.specs.Stands.{living_in}
use Rattle.tasks.specs.Table.{member, table_of, with_entry}
use Rattle.tasks.proofs.Asked.{next-is}
use Rattle.tasks.proofs.Counted.{counted-child, counted-put, counted-step}
use Rattle.tasks.proofs.Read.{number-there}
use Rattle.tasks.proofs.Spawned.{stands-refused, stands-spawned}
use Rattle.tasks.proofs.Stood.{task-there}
use Rattle.tasks.proofs.table.Tasks.spawn.Goals as goal

pub returns-in-Some-clause-answer : goal.returns-in-Some-clause-answer
returns-in-Some-clause-answer c S K s l =
    let T = table_of c.args.self.now in
    let t = task-there S K T s.is_table c.args.o l in
    ap (λ (m : Name). Spawn m (Ok (c.in-Some.pid, c.args.kind))) (c.next_child-child.ensures t.0 t.1 ∙ next-is S K T s.is_table c.args.o t.0 t.1)
    ∙ ap (λ x. Spawn (next_child K (task_name_of K c.args.o)) (spawn_answer x c.args.kind)) (c.in-Some.ensures S K s)

pub returns-in-Some-clause-stands : goal.returns-in-Some-clause-stands
returns-in-Some-clause-stands c S K e s h is =
    let T = table_of c.args.self.now in
    let t = task-there S K T s.is_table c.args.o h.own.there in
    record {
      is_table = stands-spawned S K e c.args.o T (table_of c.add_child.new.self) (table_of c.note.new.self) c.args.kind c.args.group c.args.program c.in-Some.pid c.next_child-child.result s.is_table h is
          (c.next_child-child.ensures t.0 t.1 ∙ next-is S K T s.is_table c.args.o t.0 t.1) (next-free S.pidbase S.pidmax K c.in-Some.pid (sym (c.in-Some.ensures S K s)))
          (omega (arith, c.requires.ready.ordinal, length-map c.args.self.now.tasks.items member, c.args.self.now.tasks.ok.0)) c.add_child.ensures c.note.ensures;
    }

pub returns-in-Some-clause-count : goal.returns-in-Some-clause-count
returns-in-Some-clause-count c g =
    let t = number-there (table_of c.args.self.now) c.args.o c.requires.ready.number in
    counted-step c.add_child.new.self c.note.new.self c.args.o (Spawn c.next_child-child.result (Ok (c.in-Some.pid, c.args.kind))) g refl c.note.ensures
    ∙ counted-child c.args.self.now c.add_child.new.self c.args.o _ c.args.group t.0 _ g t.1 (c.add_child.ensures t.0 t.1).tasks refl refl

pub returns-in-None-clause-answer : goal.returns-in-None-clause-answer
returns-in-None-clause-answer c S K s l =
    let T = table_of c.args.self.now in
    let t = task-there S K T s.is_table c.args.o l in
    ap (λ (m : Name). Spawn m (Err eagain)) (c.next_child-child.ensures t.0 t.1 ∙ next-is S K T s.is_table c.args.o t.0 t.1)
    ∙ ap (λ x. Spawn (next_child K (task_name_of K c.args.o)) (spawn_answer x c.args.kind)) (c.in-None.ensures S K s)

pub returns-in-None-clause-stands : goal.returns-in-None-clause-stands
returns-in-None-clause-stands c S K e s h is = record {
  is_table = stands-refused S K e c.args.o (table_of c.args.self.now) (table_of c.enter.new.self) (table_of c.note-in-None.new.self) c.next_child-child.result eagain s.is_table h.own is c.enter.ensures.entered c.note-in-None.ensures;
}

pub returns-in-None-clause-count : goal.returns-in-None-clause-count
returns-in-None-clause-count c g =
    let t = number-there (table_of c.args.self.now) c.args.o c.requires.ready.number in
    let k : living_in c.note-in-None.new.self g ≡ living_in c.args.self.now g = counted-step c.enter.new.self c.note-in-None.new.self c.args.o (Spawn c.next_child-child.result (Err eagain)) g refl c.note-in-None.ensures
    ∙ counted-put c.args.self.now c.enter.new.self c.args.o t.0 (with_entry t.0 None) g t.1 (c.enter.ensures.entered t.0 t.1) refl refl in
    omega (arith, k)
