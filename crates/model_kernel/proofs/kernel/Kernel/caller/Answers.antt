-- The caller that the listener names is that of the kernel's own history, for which it stands.
use Rattle.std.proofs.Common.{ℕ, List, Option, Some, None, ◌≡◌, IfNone, IfSome}
use Rattle.hist_model.specs.Calls.{named}
use Rattle.listener.specs.Stands.{IsCaller, StandsFor}
use Rattle.model_kernel.proofs.Words.{Event, IsKernel, Kernel, past}
use Rattle.model_kernel.proofs.kernel.Kernel.caller.Goals as goal

called : (k : Kernel) (x : ℕ) (r : Option ℕ) → IfSome r (λ o. (first : ℕ) (K : List Event) → StandsFor first K k.resources.listener → IsCaller K x o) → IfSome r (λ o. IsKernel k → IsCaller (past k) x o)
called k x (Some o) h = λ i. h k.script.firstid (past k) i.resources.listener
called k x None h = tt

uncalled : (k : Kernel) (x : ℕ) (r : Option ℕ) → IfNone r ((first : ℕ) (K : List Event) → StandsFor first K k.resources.listener → named K x ≡ None) → IfNone r (IsKernel k → named (past k) x ≡ None)
uncalled k x (Some o) h = tt
uncalled k x None h = λ i. h k.script.firstid (past k) i.resources.listener

pub returns-clause-some : goal.returns-clause-some
returns-clause-some c = called c.args.self.now c.args.id c.caller.result c.caller.ensures.some

pub returns-clause-none : goal.returns-clause-none
returns-clause-none c = uncalled c.args.self.now c.args.id c.caller.result c.caller.ensures.none
