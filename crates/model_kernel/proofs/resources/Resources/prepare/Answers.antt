use Rattle.std.proofs.Common.{◌≡◌, rules, of_z, to_z, w32, subst}
use Rattle.native_calls.specs.Prepared.{IsPrepared}
use Rattle.listener.proofs.Stand.{if-ok}
use Rattle.model_kernel.proofs.Words.{memories_in}
use Rattle.model_kernel.proofs.resources.Resources.prepare.Goals as goal

pub returns : goal.returns
returns c =
    if-ok _ _ c.prepare.result
    (λ call prepared S K living g T at.
    let same : to_z w32 (of_z w32 c.args.nr) ≡ c.args.nr = search rules in
    subst (λ nr. IsPrepared S K g nr c.args.args.now call) same (prepared S K living (memories_in c.args.self.now.workers) g T.groups at))
    c.prepare.ensures
