-- Whatever the lines of a schedule are, the history stays one of the kernel.
-- By induction on steps and on lines, each of which keeps that, and keeps the listener open.
use Rattle.std.proofs.Common.{◌≡◌, ℕ, ◌≤◌, Bool, true, false, List, [], ◌∷◌, refl, arith, le-leb}
use Rattle.std.specs.Prelude.{nat_le, if◌then◌else◌}
use Rattle.std.specs.List.{All}
use Rattle.hist_model.specs.Legal.{rules_of, started, system_of}
use Rattle.hist_model.specs.Look.{Name}
use Rattle.hist_model.specs.Names.{is_task_name}
use Rattle.hist_model.specs.Sessions.{deed, session}
use Rattle.hist_model.specs.Steps.{worker_step}
use Rattle.hist_model.specs.declared.event.Actor.TheVariants.{Listener, Worker}
use Rattle.hist_model.specs.declared.event.Event.{Event}
use Rattle.hist_model.specs.declared.event.What.TheVariants.{Close}
use Rattle.hist_model.specs.declared.policy.Policy.{Policy}
use Rattle.hist_model.specs.declared.script.Script.{Script}
use Rattle.step_requests.specs.declared.request.Asked.{Asked}
use Rattle.step_requests.specs.declared.request.Turn.{Turn}
use Rattle.step_requests.specs.declared.request.Turn.TheVariants as turn
use Rattle.asked_steps.specs.Steps.{IsBegun, after_asked, is_closed, with_step}
use Rattle.asked_steps.proofs.Kept.{asked_keeps_open, asked_kept, open_kept_step, started_begun, step_kept, task_keeps_open, task_kept}
use Rattle.asked_steps.proofs.Unclosed.{deed_unclosed}
use Rattle.turn_player.specs.Turns.{IsTurn, after_turn, after_turns, is_allowed, next_deed, served, stepped, turned}
use Rattle.turn_player.proofs.Lines.{head_is, tail_is}
use Rattle.turn_player.proofs.Times.{times_keep}

-- a history of the kernel whose listener is open
abbrev pub GoesOn : Script → List Event → Type 0
GoesOn S K = IsBegun S K × (is_closed K ≡ false)

pub task-goes-on : (S : Script) (n : Name) → is_task_name n ≡ true → (K : List Event) → GoesOn S K → GoesOn S (stepped S n K)
task-goes-on S n name K (begun, open-still) = (task_kept S K n name begun open-still, task_keeps_open S K n open-still)

-- a worker of this project does a deed, and so does what the kernel answers
step-goes-on : (P : Policy) (S : Script) (w : ℕ) → nat_le w 16 ≡ true → (K : List Event) (allowed : Bool) → GoesOn S K
    → GoesOn S (if allowed then with_step (Worker w) (worker_step (system_of S) (rules_of P S.figures) K w) K else K)
unfolding worker_step
step-goes-on P S w number K true (begun, open-still) =
    let d = deed (rules_of P S.figures) (session K w) in (
      step_kept S K (Worker w) (worker_step (system_of S) (rules_of P S.figures) K w) begun open-still (d, refl) number,
      open_kept_step K (Worker w) (worker_step (system_of S) (rules_of P S.figures) K w) open-still (deed_unclosed (system_of S) K w d),
    )
step-goes-on P S w number K false on = on

pub served-goes-on : (P : Policy) (S : Script) (w : ℕ) → nat_le w 16 ≡ true → (K : List Event) → GoesOn S K → GoesOn S (served P S w K)
served-goes-on P S w number K on = step-goes-on P S w number K (is_allowed K w (next_deed P S w K)) on

pub low : (w : ℕ) → w ≤ 15 → nat_le w 16 ≡ true
low w l = le-leb w 16 (omega (arith, l))

pub request-goes-on : (S : Script) (w : ℕ) (asked : Asked) → w ≤ 15 → (K : List Event) → GoesOn S K → GoesOn S (after_asked S K w asked)
request-goes-on S w asked number K (begun, open-still) =
    (asked_kept S K w asked (low w number) begun open-still, asked_keeps_open S K w asked open-still)

turn-goes-on : (P : Policy) (S : Script) (K : List Event) (t : Turn) → IsTurn t → GoesOn S K → GoesOn S (after_turn P S K t)
turn-goes-on P S K (turn.Steps n count) name on = times_keep (GoesOn S) (stepped S n) (task-goes-on S n name) K count on
turn-goes-on P S K (turn.Serves w count) number on = times_keep (GoesOn S) (served P S w) (served-goes-on P S w (low w number)) K count on
turn-goes-on P S K (turn.Asks w asked) number on = request-goes-on S w asked number K on

turns-go-on : (P : Policy) (S : Script) (K : List Event) (turns : List Turn) → All IsTurn turns → GoesOn S K → GoesOn S (after_turns P S K turns)
unfolding after_turns
turns-go-on P S K [] all on = on
turns-go-on P S K (t ∷ turns) all on =
    turns-go-on P S (after_turn P S K t) turns (tail_is (t ∷ turns) t turns refl all) (turn-goes-on P S K t (head_is (t ∷ turns) t turns refl all) on)

pub turned_kept : (P : Policy) (S : Script) (turns : List Turn) → All IsTurn turns → IsBegun S (turned P S turns)
turned_kept P S turns all =
    let (begun, open-still) = turns-go-on P S (started S) turns all (started_begun S, refl) in
    step_kept S (after_turns P S (started S) turns) Listener Close begun open-still refl refl
