-- The task that was found has the name.
use Rattle.std.proofs.Common.{rules, ◌≡◌, ap, ◌∙◌, of_z, to_z, w32}
use Rattle.hist_model.specs.Files.{files}
use Rattle.hist_model.specs.Natives.{base_of}
use Rattle.model_kernel.specs.Kernels.{past}
use Rattle.judge_pass.proofs.OpenedThere.{as_descriptor}
use Rattle.judge_pass.proofs.opened.directory_of.Goals as goal

pub returns : goal.returns
returns c g made lives named low =
    let k = c.args.kernel.now in
    let found = c.in_ok-task.ensures.some c.requires in
    let name = found.1 ∙ c.items.ensures in
    let whole : to_z w32 (of_z w32 c.in_ok-number.number) ≡ c.in_ok-number.number = search rules in
    c.directory.ensures g found.0 (rw name lives) (rw name named)
    ∙ ap (base_of k.script (files k.script (past k)) g) (whole ∙ as_descriptor _ _ c.try_from.result _ c.in_ok-number.number c.try_from.ensures c.in_ok-number.ensures.value)
