use Rattle.std.proofs.Common.{◌≡◌, ◌-◌, [], length, refl, sym, ap, ◌∙◌, arith}
use Rattle.tasks.specs.Stands.{StandsFor}
use Rattle.model_kernel.proofs.Starts.{first-counts}
use Rattle.model_kernel.proofs.start.first_tasks.Goals as goal

pub unreachable-requires : goal.unreachable-requires
unreachable-requires c =
    let S = c.args.script.now in
    let s : StandsFor S [] c.new-tasks.result = c.new-tasks.ensures S (sym (ap (λ x. x.pidbase) c.script.view_is)) (sym (ap (λ x. x.pidmax) c.script.view_is)) in
    let none : S.pidmax ≡ 0 = c.in-Err-Refused.ensures.no_pid (rw c.in-Err-Refused.field-0-is refl) S s in
    omega (arith, c.script.invariant.numbers, ap (λ x. x.pidmax) c.script.view_is)

pub returns-in-Ok : goal.returns-in-Ok
returns-in-Ok c =
    let S = c.args.script.now in
    let s : StandsFor S [] c.new-tasks.result = c.new-tasks.ensures S (sym (ap (λ x. x.pidbase) c.script.view_is)) (sym (ap (λ x. x.pidmax) c.script.view_is)) in
    record { stand = c.in-Ok.ensures.stands S s (ap (λ x. length x - 1) (c.items.ensures ∙ ap (λ x. x.programs) c.script.view_is)); counts = first-counts S c.new-tasks.result c.in-Ok.tasks s c.in-Ok.ensures.count }
