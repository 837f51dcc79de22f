use Rattle.std.proofs.Common.{◌≡◌, true, false, None, Option, Some, refl, sym, ap, ◌∙◌, ℕ, is_some}
use Rattle.model_kernel.proofs.Words.{past}
use Rattle.model_kernel.proofs.kernel.Kernel.has_request.Goals as goal

nothing : (o : Option ℕ) → is_some o ≡ false → o ≡ None
nothing None h = refl
nothing (Some r) h = cc

pub returns-clause-some : goal.returns-clause-some
returns-clause-some c k h none =
    let z : true ≡ false = sym h ∙ (c.has_request.ensures.stands c.args.self.now.script.firstid (past c.args.self.now) k.resources.listener ∙ ap is_some none) in cc

pub returns-clause-none : goal.returns-clause-none
returns-clause-none c k h = nothing _ (sym (c.has_request.ensures.stands c.args.self.now.script.firstid (past c.args.self.now) k.resources.listener) ∙ h)
