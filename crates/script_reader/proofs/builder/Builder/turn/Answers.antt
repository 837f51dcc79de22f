-- The task is the one that the line names, and the worker's number is one that there may be.
use Rattle.std.proofs.Common.{◌≡◌, ap, sym, subst, ◌∙◌, false}
use Rattle.std.proofs.lemmas.Bool.{ltb-true}
use Rattle.script_reader.specs.Above.{statement_fault, with_statement}
use Rattle.script_reader.specs.Faults.{Admits}
use Rattle.script_reader.specs.Plain.{AreSound, stated}
use Rattle.script_reader.specs.Views.{above_in}
use Rattle.script_reader.specs.declared.statement.Statement.TheVariants.{Steps}
use Rattle.script_reader.specs.declared.word.Section.TheVariants.{Schedule}
use Rattle.script_reader.proofs.builder.Builder.turn.Goals as goal

pub counts-requires : goal.counts-requires
counts-requires c = let sound = subst AreSound c.in-Worker.is c.requires in ltb-true c.in-Worker.worker 16 (sound Schedule false).0

pub returns-in_ok-task-in-Task : goal.returns-in_ok-task-in-Task
returns-in_ok-task-in-Task c =
    let above = above_in c.args.self.now in
    let same : stated c.args.turn ≡ Steps c.in_ok-task-in-Task.task c.in-Task.count = ap stated c.in-Task.is ∙ ap (λ name. Steps name c.in-Task.count) (sym c.in_ok-task-in-Task.ensures) in
    subst (λ s. Admits (statement_fault s above) (with_statement s above) c.steps.result (above_in c.steps.new.self)) (sym same) c.steps.ensures
