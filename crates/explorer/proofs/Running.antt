-- What a try of an actor comes to for a run: it is able to step, and did, or it isn't.
-- By what its machine says of the try, and what its step changes of what the workers have in hand.
use Rattle.std.proofs.Common.{◌≡◌, ℕ, ◌+◌, ◌<◌, ◌≤◌, ◌%◌, arith, Some, None, Bool, true, false, List, ◌∷◌, ◌++◌, ◌-◌, length, refl, sym, ◌∙◌, ap, ap₂, append-nil}
use Rattle.broker_machine.specs.Serving as machine
use Rattle.broker_machine.specs.declared.machine.Machine.{Machine}
use Rattle.hist_model.specs.Kinds.{skips}
use Rattle.hist_model.specs.Legal.{rules_of, system_of, with_step}
use Rattle.hist_model.specs.Look.{Name, ev}
use Rattle.hist_model.specs.Names.{is_task_name}
use Rattle.hist_model.specs.Sessions.{session}
use Rattle.hist_model.specs.Steps.{step}
use Rattle.hist_model.specs.declared.event.Actor.{Actor}
use Rattle.hist_model.specs.declared.event.Actor.TheVariants.{Task, Worker}
use Rattle.hist_model.specs.declared.event.Event.{Event}
use Rattle.hist_model.specs.declared.event.What.{What}
use Rattle.hist_model.specs.declared.policy.Policy.{Policy}
use Rattle.hist_model.specs.declared.script.Script.{Script}
use Rattle.history_frames.specs.Ordinals.{task_name_of}
use Rattle.model_kernel.specs.Kernels.{IsKernel, past}
use Rattle.model_kernel.specs.declared.kernel.Kernel.{Kernel}
use Rattle.delay_bounded.specs.Circle.{at_place, in_hand, is_able, may_step, places}
use Rattle.explorer.specs.InHand.{Tells}
use Rattle.explorer.specs.Runs.{Comes, Finds, IsGoing, Tries, able_in, script_in, story}
use Rattle.explorer.proofs.Rounds.{able_there, nobody_there, unable_there}
use Rattle.explorer.specs.declared.run.Run.{Run}
use Rattle.outcome_text.specs.Sight.{done_on, marked, marks}
use Rattle.outcome_text.specs.declared.mark.Mark.{Mark}

task_after : (K : List Event) (n : Name) (a : What) (w : ℕ) → in_hand (ev (Task n) a ∷ K) w ≡ in_hand K w
unfolding session
task_after K n a w = refl

module _ (P : Policy) (old new : Run) (going : IsGoing P old) where
  -- an actor that may step, and whose step is one
  able : (a : Actor) → may_step (story old) a ≡ true → skips (step (system_of (script_in old)) (rules_of P (script_in old).figures) (story old) a) ≡ false → is_able P (script_in old) (story old) a ≡ true
  able a m s = rw (m, s) refl

  unable : (a : Actor) → may_step (story old) a ≡ true → skips (step (system_of (script_in old)) (rules_of P (script_in old).figures) (story old) a) ≡ true → is_able P (script_in old) (story old) a ≡ false
  unable a m s = rw (m, s) refl

  -- nothing has changed
  same_run : new.hands ≡ old.hands → new.marks ≡ old.marks → machine.IsAt P (script_in old) (story old) new.machine → Comes P old (story old) new
  same_run h m at = record { at = at; hands = rw h going.hands; marks_are = rw m going.marks_are }

  pub task_tried : (n : Name) → is_task_name n ≡ true → new.hands ≡ old.hands → new.marks ≡ old.marks → (b : Bool) → machine.Tries P old.machine (Task n) b new.machine → Tries P old (Task n) b new
  unfolding marks
  task_tried n named h m true t =
      (record { at = t.0; marks_are = rw m (going.marks_are ∙ sym (append-nil (marks (script_in old) (story old)))); hands = λ w l. rw h (going.hands w l) ∙ sym (task_after (story old) n (step (system_of (script_in old)) (rules_of P (script_in old).figures) (story old) (Task n)) w) }, able (Task n) named t.1)
  task_tried n named h m false t = (same_run h m t.0, unable (Task n) named (ap skips t.1))

  pub worker_waits : (w : ℕ) → may_step (story old) (Worker w) ≡ true → new.hands ≡ old.hands → new.marks ≡ old.marks → machine.Tries P old.machine (Worker w) false new.machine → Tries P old (Worker w) false new
  worker_waits w m h k t = (same_run h k t.0, unable (Worker w) m (ap skips t.1))

  pub worker_stepped : (w : ℕ) → may_step (story old) (Worker w) ≡ true → Tells (with_step P (script_in old) (Worker w) (story old)) new.hands → new.marks.list.items ≡ marks (script_in old) (with_step P (script_in old) (Worker w) (story old))
      → machine.Tries P old.machine (Worker w) true new.machine → Tries P old (Worker w) true new
  worker_stepped w m h k t = (record { at = t.0; hands = h; marks_are = k }, able (Worker w) m t.1)

-- a worker's step is marked as the history has it
pub step_marked : (P : Policy) (old : Run) (new : Machine) → IsGoing P old → (w : ℕ) → machine.Tries P old.machine (Worker w) true new → (k : Kernel) → k ≡ new.kernel
    → (what : What) → ((e : Event) (K : List Event) → past new.kernel ≡ e ∷ K → what ≡ e.what) → (list : List Mark)
    → list ≡ old.marks.list.items ++ marked (length (past k) - 1) (done_on k.script (past k) (Worker w) what) → list ≡ marks (script_in old) (with_step P (script_in old) (Worker w) (story old))
unfolding marks
step_marked P old new going w t k is what newest list h =
    let S = script_in old in
    let K = story old in
    let e = ev (Worker w) (step (system_of S) (rules_of P S.figures) K (Worker w)) in
    let script : k.script ≡ S = ap (λ (x : Kernel). x.script) is ∙ t.0.script in
    let events : past k ≡ e ∷ K = ap past is ∙ t.0.events in
    let same : what ≡ e.what = newest e K t.0.events in
    let place : length (past k) - 1 ≡ length K = omega (arith, ap length events) in
    let node : done_on k.script (past k) (Worker w) what ≡ done_on S (e ∷ K) (Worker w) e.what =
    ap (λ (T : Script). done_on T (past k) (Worker w) what) script ∙ (ap (λ (H : List Event). done_on S H (Worker w) what) events ∙ ap (done_on S (e ∷ K) (Worker w)) same) in
    h ∙ ap₂ (λ (ms more : List Mark). ms ++ more) going.marks_are (ap₂ marked place node)

-- where nothing had changed, a try is one of the run before
pub tried_still : (P : Policy) (old mid new : Run) → Comes P old (story old) mid → (a : Actor) (b : Bool) → Tries P mid a b new → Tries P old a b new
tried_still P old mid new c a true t = rw (c.at.script, c.at.events) at t
tried_still P old mid new c a false t = rw (c.at.script, c.at.events) at t

-- the name that was tested is the task's
pub is_named : (k j : Kernel) → j ≡ k → IsKernel k → (o : ℕ) (text : List ℕ) → (IsKernel j → text ≡ task_name_of (past j) o) → (r : Bool) → r ≡ is_task_name text → r ≡ true → is_task_name (task_name_of (past k) o) ≡ true
is_named k j e i o text f r g h = let is : text ≡ task_name_of (past k) o = rw e at (f (rw e i)) in rw (← is) (sym g ∙ h)

module _ (P : Policy) (W : ℕ) (old mid new : Run) (p t q n : ℕ) (same : Comes P old (story old) mid) (number : n ≡ places W (story old)) (rest : able_in P W old p t ≡ able_in P W old p q) where
  -- the next place's actor had its turn
  pub turn_found : q < n → Tries P mid (at_place (story mid) ((p + q) % n)) true new → Finds P W old p t (Some (record { place = (p + q) % n; next = q + 1 })) new
  turn_found l tried =
      let still = tried_still P old mid new same (at_place (story mid) ((p + q) % n)) true tried in
      let here = rw (same.at.events, number) at still in
      rw number (here.0, rest ∙ able_there P (script_in old) W (story old) p q (rw number at l) here.1, omega arith, here.1)

  -- or isn't able to step
  pub none_yet : q < n → Tries P mid (at_place (story mid) ((p + q) % n)) false new → Comes P old (story old) new × (able_in P W old p t ≡ able_in P W old p (q + 1))
  none_yet l tried =
      let still = tried_still P old mid new same (at_place (story mid) ((p + q) % n)) false tried in
      let here = rw (same.at.events, number) at still in
      (here.0, rest ∙ unable_there P (script_in old) W (story old) p q (rw number at l) here.1)

  -- no place is left
  pub none_found : n ≤ q → Finds P W old p t None mid
  none_found l = (same, rest ∙ nobody_there P (script_in old) W (story old) p q (rw number at l))
