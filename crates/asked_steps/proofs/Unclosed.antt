-- No step of a task or a worker closes the listener.
-- By cases on what the step is.
use Rattle.std.proofs.Common.{◌≡◌, ℕ, Bool, true, false, List, [], ◌∷◌, Option, Some, None, refl, ◌==◌}
use Rattle.std.specs.Prelude.{if◌then◌else◌, Result}
use Rattle.hist_model.specs.Calls.{count, queue, settled}
use Rattle.hist_model.specs.Deeds.{Deed}
use Rattle.hist_model.specs.Deeds as deed
use Rattle.hist_model.specs.Kinds.{closes}
use Rattle.hist_model.specs.Look.{Name}
use Rattle.hist_model.specs.Signals.{call_of}
use Rattle.hist_model.specs.Steps.{deed_step, deliver_or, install_step, instr_step, living_step, next_instr, owes_native, take_step, task_step, wait_step}
use Rattle.hist_model.specs.Tasks.{alive}
use Rattle.hist_model.specs.Systems.{System}
use Rattle.hist_model.specs.declared.event.Delivered.{Delivered}
use Rattle.hist_model.specs.declared.event.Event.{Event}
use Rattle.hist_model.specs.declared.event.What.{What}
use Rattle.hist_model.specs.declared.event.What.TheVariants.{Skip}
use Rattle.hist_model.specs.declared.script.Instr.{Instr}
use Rattle.hist_model.specs.declared.script.Instr.TheVariants as instr

either : (b : Bool) (x y : What) → closes x ≡ false → closes y ≡ false → closes (if b then x else y) ≡ false
either true x y p q = p
either false x y p q = q

delivered : (due : Option ℕ) (effect : ℕ → Delivered) (other : What) → closes other ≡ false → closes (deliver_or due effect other) ≡ false
delivered (Some sig) effect other h = refl
delivered None effect other h = h

installed : (S : System) (K : List Event) (c : ℕ) (requests : List ℕ) → closes (install_step S K c requests) ≡ false
installed S K c [] = refl
installed S K c (r ∷ rs) = refl

waited : (K : List Event) (child ended : Option ℕ) → closes (wait_step K child ended) ≡ false
waited K None ended = refl
waited K (Some child) None = refl
waited K (Some child) (Some t) = refl

executed : (S : System) (K : List Event) (n : Name) (i : Option Instr) → closes (instr_step S K n i) ≡ false
executed S K n None = refl
executed S K n (Some (instr.Poke a b)) = refl
executed S K n (Some (instr.Fill a len b)) = refl
executed S K n (Some (instr.Call nr args)) = refl
executed S K n (Some (instr.Spawn p)) = refl
executed S K n (Some (instr.Thread p)) = refl
executed S K n (Some (instr.Kill whom s)) = refl
executed S K n (Some (instr.Handler s m)) = refl
executed S K n (Some instr.Wait) = waited K _ _
executed S K n (Some instr.Exit) = refl

living : (S : System) (K : List Event) (n : Name) (call : Option ℕ) → closes (living_step S K n call) ≡ false
living S K n (Some c) = either (settled K c) _ _ refl (delivered _ _ _ (installed S K c (queue K c)))
living S K n None = either (owes_native K n) _ _ refl (delivered _ _ _ (executed S K n (next_instr S K n)))

pub task_unclosed : (S : System) (K : List Event) (n : Name) → closes (task_step S K n) ≡ false
unfolding task_step
task_unclosed S K n = either (alive K n) _ Skip (living S K n (call_of K n)) refl

taken : (answer : Option (Result ℕ ℕ)) (listed : Bool) → closes (take_step answer listed) ≡ false
taken (Some a) listed = refl
taken None true = refl
taken None false = refl

pub deed_unclosed : (S : System) (K : List Event) (w : ℕ) (d : Deed) → closes (deed_step S K w d) ≡ false
deed_unclosed S K w deed.Recv = either (count K == 0) _ _ refl refl
deed_unclosed S K w (deed.OpenMem p) = refl
deed_unclosed S K w (deed.OpenBase p d) = refl
deed_unclosed S K w (deed.Check x) = refl
deed_unclosed S K w (deed.Read a n) = refl
deed_unclosed S K w (deed.Act q cap) = refl
deed_unclosed S K w (deed.Plant a b cap) = refl
deed_unclosed S K w (deed.AddfdPut a) = refl
deed_unclosed S K w deed.AddfdTake = taken _ _
deed_unclosed S K w (deed.Send x back) = refl
deed_unclosed S K w deed.LetGo = refl
