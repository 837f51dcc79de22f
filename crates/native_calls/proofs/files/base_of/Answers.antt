use Rattle.std.proofs.Common.{rules, ◌≡◌, ap, ◌∙◌}
use Rattle.hist_model.specs.Trees.{ordinal_of}
use Rattle.hist_model.specs.Natives.{directory_in}
use Rattle.hist_model.specs.Files.{files}
use Rattle.task_groups.specs.Stands.{state}
use Rattle.task_groups.proofs.Answered.{slots}
use Rattle.native_calls.proofs.files.base_of.Goals as goal

pub returns-in-Ok : goal.returns-in-Ok
returns-in-Ok c S K living handles g T at t r =
    let d : ordinal_of c.open_directory.result ≡ directory_in (files S K).tree ((files S K).slot g c.in-Ok.number) =
    (rw t at (c.open_directory.ensures (state S K living handles) T)) ∙ ap (λ x. directory_in (files S K).tree x) (slots S K living handles c.args.group g at c.in-Ok.number) in
    search rules
