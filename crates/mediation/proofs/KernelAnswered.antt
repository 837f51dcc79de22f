-- What the kernel answers ID_VALID, SEND and ADDFD, what a take tells, what a call returns, and that a task stays in its call.
-- By the row of each step.
use Rattle.mediation.proofs.Common.{arith, call_of, Each, Event, length, List, Name, Resume, Script, Some, System, system_of, Task, true, What, ℕ, ◌<◌, ◌^◌, ◌≡◌}
use Rattle.hist_model.specs.Steps.{IsOfKernel}
use Rattle.mediation.proofs.KernelRows.{KernelRow, TaskRow, each-kernel}
use Rattle.mediation.specs.KernelAnswers.{ChecksWaiting, PutsForWaiting, ReturnsAsAnswered, SendsToWaiting, StaysInCall, TakesItsRequest, is_step_of_waiting}

-- a task that is in a call does none of the steps that ask that it is in none
stays-row : (S : System) (K : List Event) (n : Name) (what : What) (c : ℕ) → TaskRow S K n what → call_of K n ≡ Some c → is_step_of_waiting what ≡ true
stays-row S K n what c row waits = grind arith

module _ (S : Script) where
  pub checks-waiting : (K : List Event) → IsOfKernel (system_of S) K → length K < 2 ^ 64 → Each ChecksWaiting K
  checks-waiting = each-kernel (system_of S) ChecksWaiting (λ K e history room row w x a who what. rw (who, what) at row)

  pub sends-to-waiting : (K : List Event) → IsOfKernel (system_of S) K → length K < 2 ^ 64 → Each SendsToWaiting K
  sends-to-waiting = each-kernel (system_of S) SendsToWaiting (λ K e history room row w x b a who what. rw (who, what) at row)

  pub puts-for-waiting : (K : List Event) → IsOfKernel (system_of S) K → length K < 2 ^ 64 → Each (PutsForWaiting S) K
  puts-for-waiting = each-kernel (system_of S) (PutsForWaiting S) (λ K e history room row w q a who what. rw (who, what) at row)

  pub takes-its-request : (K : List Event) → IsOfKernel (system_of S) K → length K < 2 ^ 64 → Each TakesItsRequest K
  takes-its-request = each-kernel (system_of S) TakesItsRequest (λ K e history room row w a who what. rw (who, what) at row)

  pub returns-as-answered : (K : List Event) → IsOfKernel (system_of S) K → length K < 2 ^ 64 → Each ReturnsAsAnswered K
  returns-as-answered = each-kernel (system_of S) ReturnsAsAnswered (λ K e history room row n b who what.
      let r : KernelRow (system_of S) K (Task n) (Resume b) = rw (who, what) at row in record { call = r.1.0; waited_in = r.1.1; answered = r.1.2; reply_is = r.1.3 })

  pub stays-in-call : (K : List Event) → IsOfKernel (system_of S) K → length K < 2 ^ 64 → Each StaysInCall K
  stays-in-call = each-kernel (system_of S) StaysInCall (λ K e history room row n c who waits. let r : KernelRow (system_of S) K (Task n) e.what = rw who at row in stays-row (system_of S) K n e.what c r waits)
