use Rattle.std.proofs.Common.{[], refl, arith, ◌∙◌}
use Rattle.sorted_list.proofs.Found.{rise-none}
use Rattle.task_groups.specs.Descriptors.{console_descriptors}
use Rattle.task_groups.specs.Lists.{page_number}
use Rattle.task_groups.specs.State.{new_contents}
use Rattle.task_groups.proofs.Answered.{console-leads, console-rise, no-byte}
use Rattle.task_groups.proofs.Lists.{uses-none}
use Rattle.task_groups.proofs.Rows.{added-row, row-is}
use Rattle.task_groups.proofs.Stand.{added}
use Rattle.task_groups.proofs.groups.Groups.fresh.Goals as goal

pub returns : goal.returns
returns c s T =
    let old = c.args.self in
    added s old T _ (record { living = 1; handles = 0; pages = []; descriptors = console_descriptors }) new_contents
    (added-row old.rows.items _ (record { living = 1; handles = 0; pages = c.new.result; descriptors = c.in_ok-descriptors.descriptors }) _ c.in_ok-push.ensures.items
    (row-is (record { living = 1; handles = 0; pages = c.new.result; descriptors = c.in_ok-descriptors.descriptors }) 1 0 [] console_descriptors refl refl c.new.ensures.items (c.in_ok-descriptors.ensures.items ∙ c.console.ensures)))
    refl refl T.sound.store (λ p. omega (arith, uses-none p)) (λ zs b. refl)
    (record { pages_rise = rise-none page_number; once = λ p. omega (arith, uses-none p); descriptors_rise = console-rise; freed = λ z. absurd (omega arith); closed = λ z. absurd (omega arith) })
    refl refl (record { bytes = λ l b m. no-byte old.pages b; slots = λ l n. console-leads n })
