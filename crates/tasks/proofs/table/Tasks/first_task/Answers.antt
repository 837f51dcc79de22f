use Rattle.std.proofs.Common.{◌≡◌, ◌∷◌, sym, ◌∙◌, arith}
use Rattle.std.specs.Prelude.{vec_len}
use Rattle.std.proofs.lemmas.Bool.{eqb-true}
use Rattle.std.proofs.lemmas.List.{length-map}
use Rattle.tasks.specs.Table.{member, row_in, table_of}
use Rattle.tasks.proofs.Asked.{root-unmade, none-made}
use Rattle.tasks.proofs.table.Tasks.first_task.Goals.{else-number-eq0-via-then-number-eq0+else-not-is_empty, else-number-eq0-via-else-number-eq0}
use Rattle.tasks.proofs.table.Tasks.first_task.Goals as goal

pub returns-else-number-eq0-clause-none : goal.returns-else-number-eq0-clause-none
returns-else-number-eq0-clause-none c S K rest h = elim c.else-number-eq0.branch [
  | else-number-eq0-via-then-number-eq0+else-not-is_empty w ↦
      let T = c.args.self.now in
      let z : vec_len T.tasks ≡ 0 = eqb-true (vec_len T.tasks) 0 (sym w.is_empty.ensures ∙ w.if-not-is_empty.false) in
      none-made K (c.args.number ∷ rest) (omega (arith, h.is_table.looks.count, length-map T.tasks.items member, length-map (table_of T).tasks (row_in (table_of T).tasks), T.tasks.ok.0))
  | else-number-eq0-via-else-number-eq0 w ↦ root-unmade K c.args.number rest h.is_table.sound (λ q. w.if-number-eq0.false q)
]
