use Rattle.std.proofs.Common.{rules, arith, ◌≡◌, ◌∙◌, w32, to_z, of_z, subst, sym}
use Rattle.hist_model.specs.Files.{files}
use Rattle.hist_model.specs.Natives.{base_of}
use Rattle.hist_model.specs.Trees.{ordinal_of}
use Rattle.model_kernel.proofs.Words.{living_in, past}
use Rattle.model_kernel.proofs.Taken.{group-live}
use Rattle.model_kernel.proofs.kernel.Kernel.directory.Goals as goal

pub base_in-requires : goal.base_in-requires
base_in-requires c =
    rw c.group.ensures.at (group-live c.args.self.now c.args.task c.requires (sym c.has_ended.ensures.at ∙ c.if-has_ended.false) (omega (arith, c.has_few_events.ensures)))

pub returns : goal.returns
returns c g made lives named =
    let k = c.args.self.now in
    let (m, at, own) = c.group.ensures.group k.script (past k) c.requires.tasks made in
    let same : to_z w32 (of_z w32 c.args.dirfd) ≡ c.args.dirfd = search rules in
    subst (λ d. ordinal_of c.base_in.result ≡ base_of k.script (files k.script (past k)) g d) same
    (c.base_in.ensures k.script (past k) (living_in k.tasks) g c.requires.resources (at ∙ (sym own ∙ named)))
