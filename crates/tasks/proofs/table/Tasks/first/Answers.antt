use Rattle.std.proofs.Common.{[], ◌∷◌, None, refl, sym, ap, ◌∙◌}
use Rattle.hist_model.specs.declared.event.Disposition.TheVariants.{Default}
use Rattle.tasks.specs.Rows.{new_progress}
use Rattle.tasks.specs.Sets.{all_signals}
use Rattle.tasks.specs.Table.{members, new_member, table_of}
use Rattle.tasks.proofs.Begun.{first-pid, no-first, stands-begun}
use Rattle.tasks.proofs.Counted.{counted-more}
use Rattle.tasks.proofs.Read.{first-added, new-task}
use Rattle.tasks.proofs.table.Tasks.first.Goals as goal

pub returns-in_default-clause-no_pid : goal.returns-in_default-clause-no_pid
returns-in_default-clause-no_pid c h S s = no-first S.pidbase S.pidmax (sym (c.in_default.ensures S [] s))

pub returns-clause-stands : goal.returns-clause-stands
returns-clause-stands c S s q =
    let p = first-pid S.pidbase S.pidmax c.in-Some.pid (sym (c.in-Some.ensures S [] s)) in
    let m = new_member (0 ∷ []) c.in-Some.pid None 0 c.args.program (all_signals Default) in
    let a = first-added (table_of c.args.self) (table_of c.add.new.self) _ _ _ m (ap members c.reserve-2.ensures.items) c.reserve.ensures.items
    (new-task _ (0 ∷ []) c.in-Some.pid None _ _ _ (new_progress 0 c.args.program (all_signals Default)) (c.new-name.ensures ∙ c.in_ok-from_slice.ensures.items) c.new.ensures.items c.new-2.ensures.items (c.new-3.ensures ∙ ap (new_progress 0 c.args.program) c.all.ensures))
    c.add.ensures in
    record { is_table = stands-begun S (table_of c.args.self) (table_of c.add.new.self) c.in-Some.pid c.args.program s.is_table p q a }

pub returns-clause-count : goal.returns-clause-count
returns-clause-count c g =
    let m = new_member (0 ∷ []) c.in-Some.pid None 0 c.args.program (all_signals Default) in
    let a = first-added (table_of c.args.self) (table_of c.add.new.self) _ _ _ m (ap members c.reserve-2.ensures.items) c.reserve.ensures.items
    (new-task _ (0 ∷ []) c.in-Some.pid None _ _ _ (new_progress 0 c.args.program (all_signals Default)) (c.new-name.ensures ∙ c.in_ok-from_slice.ensures.items) c.new.ensures.items c.new-2.ensures.items (c.new-3.ensures ∙ ap (new_progress 0 c.args.program) c.all.ensures))
    c.add.ensures in
    counted-more c.args.self c.add.new.self 0 m g a.tasks refl refl
