use Rattle.std.proofs.Common.{ap, sym, ◌∙◌}
use Rattle.hist_model.specs.Files.{files}
use Rattle.hist_model.specs.Steps.{place_or}
use Rattle.model_kernel.proofs.Words.{groups_after, past}
use Rattle.model_kernel.proofs.kernel.Kernel.descriptor.Goals as goal

pub returns-clause-open : goal.returns-clause-open
returns-clause-open c lives =
    let k = c.args.self.now in
    let (g, own, at) = c.in_ok-living_group.ensures.group in
    c.get.ensures (groups_after k (past k)) c.requires.resources.groups ∙ ap (λ h. (files k.script (past k)).slot (place_or h) c.args.number) (at ∙ sym own)
