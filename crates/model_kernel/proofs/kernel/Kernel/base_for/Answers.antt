use Rattle.std.proofs.Common.{rules, ◌≡◌, w32, to_z, of_z, ap, subst, sym, ◌∙◌}
use Rattle.hist_model.specs.Files.{files}
use Rattle.hist_model.specs.Natives.{base_of}
use Rattle.hist_model.specs.Steps.{place_or}
use Rattle.hist_model.specs.Trees.{ordinal_of}
use Rattle.model_kernel.proofs.Words.{living_in, past}
use Rattle.model_kernel.proofs.kernel.Kernel.base_for.Goals as goal

pub returns-in-Some : goal.returns-in-Some
returns-in-Some c =
    let k = c.args.self.now in
    let (g, own, at) = c.in-Some.ensures.group in
    let same : to_z w32 (of_z w32 c.args.dirfd) ≡ c.args.dirfd = search rules in
    let found = subst (λ d. ordinal_of c.base_in.result ≡ base_of k.script (files k.script (past k)) g d) same (c.base_in.ensures k.script (past k) (living_in k.tasks) g c.requires.resources at) in
    (c.in-Some.ensures.some, found ∙ ap (λ h. base_of k.script (files k.script (past k)) (place_or h) c.args.dirfd) (sym own))
