-- The table of requests has one of a worker exactly where the history has one that was put and not taken.
-- By the lemma of `listener` on the requests of one that stands for its history.
use Rattle.std.proofs.Common.{◌≡◌, ℕ, true, false, Option, Some, None, refl, ap, ◌∙◌, is_some}
use Rattle.listener.specs.Requests.{has_request}
use Rattle.listener.proofs.Stand.{asks}
use Rattle.hist_model.specs.Steps.{request_of}
use Rattle.model_kernel.proofs.Words.{IsKernel, Kernel, past}

is-asking : (o : Option ℕ) → (o ≡ None → ⊥) → is_some o ≡ true
is-asking None some = absurd (some refl)
is-asking (Some r) some = refl

module _ (k : Kernel) (w : ℕ) (i : IsKernel k) where
  same : has_request k.resources.listener.requests w ≡ is_some (request_of (past k) w)
  same = asks k.script.firstid (past k) k.resources.listener i.resources.listener w

  pub has-one : (request_of (past k) w ≡ None → ⊥) → has_request k.resources.listener.requests w ≡ true
  has-one some = same ∙ is-asking (request_of (past k) w) some

  pub has-none : request_of (past k) w ≡ None → has_request k.resources.listener.requests w ≡ false
  has-none none = same ∙ ap is_some none
