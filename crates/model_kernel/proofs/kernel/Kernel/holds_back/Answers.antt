use Rattle.std.proofs.Common.{◌≡◌, true, sym, ap, ◌∙◌, subst}
use Rattle.listener.specs.Stands.{StandsFor}
use Rattle.model_kernel.proofs.Words.{Kernel, past}
use Rattle.model_kernel.proofs.kernel.Kernel.holds_back.Goals as goal

pub returns-then-self : goal.returns-then-self
returns-then-self c d listed =
    let k = c.args.self.now in
    let killable : k.script.killable ≡ true = sym (ap (λ (x : Kernel). x.script.killable) c.self.view_is) ∙ c.if-self.true in
    let stand = subst (λ (x : Kernel). StandsFor k.script.firstid (past k) x.resources.listener) (sym c.self.view_is) c.requires.resources.listener in
    rw killable (c.was_received.ensures k.script.firstid (past k) d stand listed)
