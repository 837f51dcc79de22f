-- What tasks and a broker do is a history of the kernel.
-- By the rows of the kernel's steps, none of which closes the listener.
use Rattle.std.proofs.Common.{arith, false, List, [], ◌∷◌, length, refl, ℕ, ◌<◌, ◌^◌, ◌≡◌, ◌≤◌}
use Rattle.std.proofs.lemmas.Bool.{le-leb}
use Rattle.hist_model.specs.Kinds.{closes}
use Rattle.hist_model.specs.Legal.{OfKernel, started, system_of}
use Rattle.hist_model.specs.Look.{Name}
use Rattle.hist_model.specs.Steps.{deed_step, IsKernelStep, IsOfKernel, task_step, start}
use Rattle.hist_model.specs.Systems.{System}
use Rattle.hist_model.specs.declared.event.Event.{Event}
use Rattle.hist_model.specs.declared.event.What.{What}
use Rattle.hist_model.specs.declared.script.Script.{Script}
use Rattle.mediation.proofs.KernelRows.{deed_row, KernelWorkerRow, task_row, TaskRow}
use Rattle.broker_verdict.specs.Brokers.{after, AreTurns, asked, Asks, IsTurn, Steps, Turn, turn_event}

task-open : (S : System) (K : List Event) (n : Name) (what : What) → TaskRow S K n what → closes what ≡ false
task-open S K n what r = grind arith

worker-open : (S : System) (K : List Event) (w : ℕ) (what : What) → KernelWorkerRow S K w what → closes what ≡ false
worker-open S K w what r = grind arith

open-turn : (S : Script) (K : List Event) (t : Turn) → closes (turn_event S K t).what ≡ false
open-turn S K (Steps n) = task-open (system_of S) K n (task_step (system_of S) K n) (task_row (system_of S) K n)
open-turn S K (Asks w d) = worker-open (system_of S) K w (deed_step (system_of S) K w d) (deed_row (system_of S) K w d)

kernel-turn : (S : Script) (f : Event) (K : List Event) (t : Turn) → IsTurn t → closes f.what ≡ false → IsKernelStep (system_of S) (f ∷ K) (turn_event S (f ∷ K) t)
kernel-turn S f K (Steps n) i h = (h, refl, i)
kernel-turn S f K (Asks w d) i h = (h, (d, refl), le-leb w 16 i)

after-kernel : (S : Script) (turns : List Turn) (f : Event) (K : List Event) → AreTurns turns → closes f.what ≡ false → IsOfKernel (system_of S) (f ∷ K) → IsOfKernel (system_of S) (after S turns (f ∷ K))
unfolding after
after-kernel S [] f K all h k = k
after-kernel S (t ∷ more) f K all h k =
    after-kernel S more (turn_event S (f ∷ K) t) (f ∷ K) all.1 (open-turn S (f ∷ K) t) (kernel-turn S f K t all.0 h, k)

longer : (S : Script) (turns : List Turn) (K : List Event) → length K ≤ length (after S turns K)
unfolding after
longer S [] K = omega arith
longer S (t ∷ more) K = let ih = longer S more (turn_event S K t ∷ K) in omega (arith, ih)

pub asked_of_kernel : (S : Script) (turns : List Turn) → AreTurns turns → length (asked S turns) < 2 ^ 64 → OfKernel S (asked S turns)
asked_of_kernel S turns all l =
    let m = longer S turns (started S) in
    (after-kernel S turns (start (system_of S)) [] all refl (refl, tt), l, omega (arith, m))
