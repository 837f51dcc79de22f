-- Tasks of a legal history: their PIDs, their calls and their names.
-- By what is so in every history of the kernel.
use Rattle.mediation.proofs.Common.{alive, call_of, caller, CallsAreLast, Event, holder, IsLegal, List, listed, Name, pid_of}
use Rattle.mediation.proofs.Common.{Rules, Some, System, task_place, true, ℕ, ◌≡◌}
use Rattle.mediation.proofs.Rows.{of-kernel}
use Rattle.mediation.proofs.KernelTasks as kernel
pub use Rattle.mediation.proofs.KernelTasks.{same-name, event_at-last, listed-was, waits-in-call, place-is, made-place, makes-pid}

module _ (S : System) (R : Rules) (K : List Event) where
  pub calls_are_last : IsLegal S R K → CallsAreLast K
  calls_are_last legal = kernel.calls_are_last S K (of-kernel S R K legal)

  -- the task of a listed call waits in it
  pub waits-here : (c : ℕ) → IsLegal S R K → listed K c ≡ true → call_of K (caller K c) ≡ Some c
  waits-here c legal = kernel.waits-here S K c (of-kernel S R K legal)

  -- a living task holds its number
  pub living-holder : (m : Name) (t p : ℕ) → IsLegal S R K → alive K m ≡ true → task_place K m ≡ Some t → pid_of K t ≡ Some p → holder K p ≡ Some t
  living-holder m t p legal = kernel.living-holder S K m t p (of-kernel S R K legal)
