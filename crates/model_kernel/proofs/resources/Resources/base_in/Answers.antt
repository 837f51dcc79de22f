use Rattle.std.proofs.Common.{rules, ◌≡◌, w32, to_z, of_z, ap, ◌∙◌}
use Rattle.hist_model.specs.Files.{files}
use Rattle.hist_model.specs.Natives.{base_of}
use Rattle.model_kernel.proofs.Words.{memories_in}
use Rattle.model_kernel.proofs.resources.Resources.base_in.Goals as goal

pub returns : goal.returns
returns c S K living g T at =
    let from : to_z w32 (of_z w32 c.args.dirfd) ≡ c.args.dirfd = search rules in
    c.base_of.ensures S K living (memories_in c.args.self.now.workers) g T.groups at T.tree_is T.container.root_is ∙ ap (base_of S (files S K) g) from
