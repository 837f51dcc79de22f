-- What the same step comes to, done once more.
-- By unfolding `after_times` at the last time.
use Rattle.std.proofs.Common.{ℕ, zero, suc, ◌+◌, add-one, subst, List, refl, sym, ap, ◌∙◌}
use Rattle.hist_model.specs.declared.event.Event.{Event}
use Rattle.hist_model.specs.declared.script.Script.{Script}
use Rattle.model_kernel.specs.Kernels.{IsKernel, past}
use Rattle.model_kernel.specs.declared.kernel.Kernel.{Kernel}
use Rattle.asked_steps.specs.Stands.{CameTo}
use Rattle.turn_player.specs.Turns.{after_times}

pub came-here : (k : Kernel) → IsKernel k → CameTo k (past k) k
came-here k kernel = record { kernel = kernel; script = refl; past = refl }

pub no_times : (f : List Event → List Event) (k : Kernel) → IsKernel k → CameTo k (after_times f (past k) 0) k
unfolding after_times
no_times f k kernel = came-here k kernel

module _ (step : Script → List Event → List Event) (old mid new : Kernel) (count : ℕ) where
  one-more : CameTo old (after_times (step old.script) (past old) count) mid → CameTo mid (step mid.script (past mid)) new
      → CameTo old (after_times (step old.script) (past old) (suc count)) new
  unfolding after_times
  one-more before after = record {
    kernel = after.kernel;
    script = after.script ∙ before.script;
    past = after.past ∙ ap (λ s. step s (past mid)) before.script ∙ ap (step old.script) before.past;
  }

  pub one_more : CameTo old (after_times (step old.script) (past old) count) mid → CameTo mid (step mid.script (past mid)) new
      → CameTo old (after_times (step old.script) (past old) (count + 1)) new
  one_more before after = subst (λ n. CameTo old (after_times (step old.script) (past old) n) new) (sym (add-one count)) (one-more before after)

-- what each step keeps all of them keep
pub times_keep : (P : List Event → Type 0) (f : List Event → List Event) → ((K : List Event) → P K → P (f K)) → (K : List Event) (count : ℕ) → P K → P (after_times f K count)
unfolding after_times
times_keep P f keeps K zero h = h
times_keep P f keeps K (suc count) h = keeps (after_times f K count) (times_keep P f keeps K count h)
