-- Whatever is asked for, the history stays one of the kernel, and the listener open.
-- By cases on whether a step is one, since it is its actor's, with the answer of the kernel.
use Rattle.std.proofs.Common.{◌≡◌, ℕ, ◌<◌, Bool, true, false, length, List, [], ◌∷◌, Option, Some, None, refl, arith}
use Rattle.std.specs.Prelude.{nat_le}
use Rattle.hist_model.specs.Deeds.{Deed}
use Rattle.hist_model.specs.Kinds.{closes, skips}
use Rattle.hist_model.specs.Legal.{started, system_of}
use Rattle.hist_model.specs.Look.{Name, ev}
use Rattle.hist_model.specs.Names.{is_task_name}
use Rattle.hist_model.specs.Steps.{IsKernelAnswer, deed_step, is_actor, task_step}
use Rattle.hist_model.specs.Tasks.{is_made}
use Rattle.hist_model.specs.declared.event.Actor.{Actor}
use Rattle.hist_model.specs.declared.event.Actor.TheVariants.{Task, Worker}
use Rattle.hist_model.specs.declared.event.Event.{Event}
use Rattle.hist_model.specs.declared.event.What.{What}
use Rattle.hist_model.specs.declared.script.Script.{Script}
use Rattle.step_requests.specs.declared.request.Asked.{Asked}
use Rattle.asked_steps.specs.Asking.{deed_of, refused}
use Rattle.asked_steps.specs.Steps.{IsBegun, after_asked, after_deed, after_task, after_unless, is_closed, with_step}
use Rattle.asked_steps.specs.declared.refusal.Refusal.{Refusal}
use Rattle.asked_steps.proofs.Unclosed.{deed_unclosed, task_unclosed}

pub started_begun : (S : Script) → IsBegun S (started S)
started_begun S = (omega arith, (refl, tt))

-- ---- a history of the kernel

none-below : 0 < length {A = Event} [] → ⊥
none-below l = omega (arith, l)

pub step_kept : (S : Script) (K : List Event) (who : Actor) (what : What) → IsBegun S K → is_closed K ≡ false → IsKernelAnswer (system_of S) K who what → is_actor who ≡ true → IsBegun S (with_step who what K)
step_kept S [] who what begun open-still answer actor = absurd (none-below begun.0)
step_kept S (f ∷ K) who what begun open-still answer actor = by (skips what) refl
  where
    by : (b : Bool) → skips what ≡ b → IsBegun S (with_step who what (f ∷ K))
    by true q = rw q begun
    by false q =
        let some : 0 < length (ev who what ∷ f ∷ K) = omega arith in
        rw q (some, ((open-still, answer, actor), begun.1))

pub task_kept : (S : Script) (K : List Event) (n : Name) → is_task_name n ≡ true → IsBegun S K → is_closed K ≡ false → IsBegun S (after_task S K n)
task_kept S K n name begun open-still = by (is_made K n) refl
  where
    by : (b : Bool) → is_made K n ≡ b → IsBegun S (after_task S K n)
    by true q = rw q (step_kept S K (Task n) (task_step (system_of S) K n) begun open-still refl name)
    by false q = rw q begun

deed-kept : (S : Script) (K : List Event) (w : ℕ) (d : Option Deed) → nat_le w 16 ≡ true → IsBegun S K → is_closed K ≡ false → IsBegun S (after_deed S K w d)
deed-kept S K w None number begun open-still = begun
deed-kept S K w (Some d) number begun open-still = step_kept S K (Worker w) (deed_step (system_of S) K w d) begun open-still (d, refl) number

unless-kept : (S : Script) (K : List Event) (w : ℕ) (asked : Asked) (why : Option Refusal) → nat_le w 16 ≡ true → IsBegun S K → is_closed K ≡ false → IsBegun S (after_unless S K w asked why)
unless-kept S K w asked (Some why) number begun open-still = begun
unless-kept S K w asked None number begun open-still = deed-kept S K w (deed_of asked) number begun open-still

pub asked_kept : (S : Script) (K : List Event) (w : ℕ) (asked : Asked) → nat_le w 16 ≡ true → IsBegun S K → is_closed K ≡ false → IsBegun S (after_asked S K w asked)
asked_kept S K w asked number begun open-still = unless-kept S K w asked (refused K w asked) number begun open-still

-- ---- whose listener is open

pub open_kept_step : (K : List Event) (who : Actor) (what : What) → is_closed K ≡ false → closes what ≡ false → is_closed (with_step who what K) ≡ false
open_kept_step K who what q h = by (skips what) refl
  where
    by : (b : Bool) → skips what ≡ b → is_closed (with_step who what K) ≡ false
    by true s = rw s q
    by false s = rw s h

pub task_keeps_open : (S : Script) (K : List Event) (n : Name) → is_closed K ≡ false → is_closed (after_task S K n) ≡ false
task_keeps_open S K n q = by (is_made K n) refl
  where
    by : (b : Bool) → is_made K n ≡ b → is_closed (after_task S K n) ≡ false
    by true m = rw m (open_kept_step K (Task n) (task_step (system_of S) K n) q (task_unclosed (system_of S) K n))
    by false m = rw m q

deed-keeps-open : (S : Script) (K : List Event) (w : ℕ) (d : Option Deed) → is_closed K ≡ false → is_closed (after_deed S K w d) ≡ false
deed-keeps-open S K w None q = q
deed-keeps-open S K w (Some d) q = open_kept_step K (Worker w) (deed_step (system_of S) K w d) q (deed_unclosed (system_of S) K w d)

unless-keeps-open : (S : Script) (K : List Event) (w : ℕ) (asked : Asked) (why : Option Refusal) → is_closed K ≡ false → is_closed (after_unless S K w asked why) ≡ false
unless-keeps-open S K w asked (Some why) q = q
unless-keeps-open S K w asked None q = deed-keeps-open S K w (deed_of asked) q

pub asked_keeps_open : (S : Script) (K : List Event) (w : ℕ) (asked : Asked) → is_closed K ≡ false → is_closed (after_asked S K w asked) ≡ false
asked_keeps_open S K w asked q = unless-keeps-open S K w asked (refused K w asked) q
