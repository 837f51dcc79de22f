-- What the lines of a schedule come to, one after another, and what the workers remember behind each.
-- By one more line; an event of one actor leaves the sessions of all workers but that one.
use Rattle.std.proofs.Common.{◌≡◌, ℕ, suc, ◌<◌, Bool, true, false, subst, List, [], ◌∷◌, length, Option, Some, None, refl, sym, ap, ◌∙◌, arith}
use Rattle.std.specs.Prelude.{◌==◌, ◌&&◌, ◌||◌, get_or}
use Rattle.std.specs.List.{All, list_any}
use Rattle.std.proofs.lemmas.Bool.{and_from, eqb-true, or_left, or_right}
use Rattle.broker_core.specs.declared.worker.Worker.{Worker}
use Rattle.broker_machine.proofs.Sessions.{session-other}
use Rattle.broker_machine.specs.Workers.{AllRemember}
use Rattle.hist_model.specs.Deeds.{Deed}
use Rattle.hist_model.specs.Kinds.{skips}
use Rattle.hist_model.specs.Legal.{system_of}
use Rattle.hist_model.specs.Look.{Name, ev, is_worker}
use Rattle.hist_model.specs.Sessions.{session}
use Rattle.hist_model.specs.Steps.{deed_step, task_step}
use Rattle.hist_model.specs.Tasks.{is_made}
use Rattle.hist_model.specs.declared.event.Actor.{Actor}
use Rattle.hist_model.specs.declared.event.Actor.TheVariants as actor
use Rattle.hist_model.specs.declared.event.Event.{Event}
use Rattle.hist_model.specs.declared.event.What.{What}
use Rattle.hist_model.specs.declared.policy.Policy.{Policy}
use Rattle.hist_model.specs.declared.script.Script.{Script}
use Rattle.model_kernel.specs.Kernels.{IsBegun, past}
use Rattle.model_kernel.specs.declared.kernel.Kernel.{Kernel}
use Rattle.step_requests.specs.Turns.{AreApart, asks, serves}
use Rattle.step_requests.specs.declared.request.Asked.{Asked}
use Rattle.step_requests.specs.declared.request.Turn.{Turn}
use Rattle.step_requests.specs.declared.request.Turn.TheVariants as turn
use Rattle.asked_steps.specs.Asking.{deed_of, refused}
use Rattle.asked_steps.specs.Steps.{after_asked, after_deed, after_task, after_unless, with_step}
use Rattle.asked_steps.specs.Stands.{CameTo}
use Rattle.turn_player.specs.Serving.{Knows, OthersAsBefore, ServerKnows, ServersKnow}
use Rattle.turn_player.specs.Turns.{IsTurn, after_times, after_turn, after_turns, is_allowed, next_deed, served, stepped}
use Rattle.turn_player.proofs.Times.{times_keep}

-- ---- lines, from the first one on

-- of lines that are turns the first is one, and so are the others
pub head_is : (lines : List Turn) (t : Turn) (behind : List Turn) → lines ≡ t ∷ behind → All IsTurn lines → IsTurn t
head_is lines t behind q all = subst (λ (xs : List Turn). All IsTurn xs) q all 0 t (omega arith)

pub tail_is : (lines : List Turn) (t : Turn) (behind : List Turn) → lines ≡ t ∷ behind → All IsTurn lines → All IsTurn behind
tail_is lines t behind q all = λ k d l. subst (λ (xs : List Turn). All IsTurn xs) q all (suc k) d (omega (arith, l))

pub no-turns : (P : Policy) (S : Script) (K : List Event) → after_turns P S K [] ≡ K
unfolding after_turns
no-turns P S K = refl

-- what a line comes to, and those behind it
pub line_taken : (P : Policy) (S : Script) (mid new : Kernel) (t : Turn) (turns : List Turn) → mid.script ≡ S → CameTo mid (after_turn P mid.script (past mid) t) new
    → after_turns P S (past mid) (t ∷ turns) ≡ after_turns P S (past new) turns
unfolding after_turns
line_taken P S mid new t turns script came =
    ap (λ H. after_turns P S H turns) (ap (λ s. after_turn P s (past mid) t) (sym script) ∙ sym came.past)

pub then_came : (old mid new : Kernel) (K : List Event) → CameTo old (past mid) mid → CameTo mid K new → CameTo old (past new) new
then_came old mid new K before step = record { kernel = step.kernel; script = step.script ∙ before.script; past = refl }

-- no line is left
pub all_done : (P : Policy) (old new : Kernel) (turns rest : List Turn) → CameTo old (past new) new
    → after_turns P old.script (past old) turns ≡ after_turns P old.script (past new) rest → length rest ≡ 0 → CameTo old (after_turns P old.script (past old) turns) new
all_done P old new turns [] came leads none = record { kernel = came.kernel; script = came.script; past = sym (leads ∙ no-turns P old.script (past new)) }
all_done P old new turns (t ∷ rest) came leads none = absurd (omega (arith, none))

-- ---- sessions

-- a step of another actor leaves a worker's session as it is
step-other : (K : List Event) (who : Actor) (what : What) (w : ℕ) → is_worker who w ≡ false → session (with_step who what K) w ≡ session K w
step-other K who what w h = by (skips what) refl
  where
    by : (b : Bool) → skips what ≡ b → session (with_step who what K) w ≡ session K w
    by true s = rw s refl
    by false s = rw s (session-other (ev who what) K w h)

module _ (S : Script) (w : ℕ) where
  -- the session is as before
  abbrev IsAs : List Event → List Event → Type 0
  IsAs K H = session H w ≡ session K w

  task-other : (n : Name) (K : List Event) → IsAs K (after_task S K n)
  task-other n K = by (is_made K n) refl
    where
      by : (b : Bool) → is_made K n ≡ b → IsAs K (after_task S K n)
      by true q = rw q (step-other K (actor.Task n) (task_step (system_of S) K n) w refl)
      by false q = rw q refl

  served-other : (P : Policy) (v : ℕ) (K : List Event) → (v == w) ≡ false → IsAs K (served P S v K)
  served-other P v K other = by (is_allowed K v (next_deed P S v K)) refl
    where
      by : (b : Bool) → is_allowed K v (next_deed P S v K) ≡ b → IsAs K (served P S v K)
      by true q = rw q (step-other K (actor.Worker v) _ w other)
      by false q = rw q refl

  deed-other : (v : ℕ) (K : List Event) (d : Option Deed) → (v == w) ≡ false → IsAs K (after_deed S K v d)
  deed-other v K None other = refl
  deed-other v K (Some d) other = step-other K (actor.Worker v) (deed_step (system_of S) K v d) w other

  asked-other : (v : ℕ) (K : List Event) (asked : Asked) → (v == w) ≡ false → IsAs K (after_asked S K v asked)
  asked-other v K asked other = elim (refused K v asked) as (λ why. IsAs K (after_unless S K v asked why)) [
    | Some why ↦ refl
    | None ↦ deed-other v K (deed_of asked) other
  ]

  times-other : (f : List Event → List Event) → ((K : List Event) → IsAs K (f K)) → (K : List Event) (count : ℕ) → IsAs K (after_times f K count)
  times-other f keeps K count = times_keep (IsAs K) f (λ H h. keeps H ∙ h) K count refl

  -- and so does a line that isn't the worker's
  line-other : (P : Policy) (K : List Event) (t : Turn) → serves w t ≡ false → asks w t ≡ false → IsAs K (after_turn P S K t)
  line-other P K (turn.Steps n count) s a = times-other (stepped S n) (task-other n) K count
  line-other P K (turn.Serves v count) s a = times-other (served P S v) (λ H. served-other P v H s) K count
  line-other P K (turn.Asks v asked) s a = asked-other v K asked a

-- ---- what the workers remember

-- of lines that are apart, those of a worker that steps ask for nothing
asks-nothing : (t : Turn) (behind : List Turn) (w : ℕ) → AreApart (t ∷ behind) → list_any (serves w) (t ∷ behind) ≡ true → asks w t ≡ false
asks-nothing t behind w apart s = by (asks w t) refl
  where
    by : (b : Bool) → asks w t ≡ b → asks w t ≡ false
    by false q = q
    by true q =
        let both : (list_any (serves w) (t ∷ behind) && list_any (asks w) (t ∷ behind)) ≡ true = and_from _ _ s (or_left _ _ q) in
        let no : true ≡ false = sym both ∙ apart w in
        cc

both-behind : (s a : Bool) (x y : Bool) → ((s || x) && (a || y)) ≡ false → (x && y) ≡ false
both-behind s a true true h = let no : true ≡ false = sym (and_from _ _ (or_right s true refl) (or_right a true refl)) ∙ h in cc
both-behind s a true false h = refl
both-behind s a false y h = refl

pub apart_behind : (lines : List Turn) (t : Turn) (behind : List Turn) → lines ≡ t ∷ behind → AreApart lines → AreApart behind
apart_behind lines t behind q apart w =
    both-behind (serves w t) (asks w t) (list_any (serves w) behind) (list_any (asks w) behind) (subst (λ xs. AreApart xs) q apart w)

module _ (P : Policy) (old new : Kernel) (t : Turn) (behind : List Turn) (ws xs : List Worker) where
  -- a worker that steps behind the line remembers its session then
  knows-behind : AreApart (t ∷ behind) → ServersKnow P old (t ∷ behind) ws → length xs ≡ length ws → CameTo old (after_turn P old.script (past old) t) new
      → ServerKnows P new t xs → OthersAsBefore t ws xs → ServersKnow P new behind xs
  knows-behind apart all same came server others w d l s = by (serves w t) refl
    where
      later : list_any (serves w) (t ∷ behind) ≡ true
      later = or_right _ _ s

      by : (b : Bool) → serves w t ≡ b → Knows P new w (get_or xs w d)
      by true q = server w d q
      by false q =
          let before : Knows P old w (get_or ws w d) = all w d (omega (arith, l, same)) later in
          let session_is : session (past new) w ≡ session (past old) w =
          ap (λ H. session H w) came.past ∙ line-other old.script w P (past old) t q (asks-nothing t behind w apart later)
          in
          rw (others w d q) (record { remembers = rw session_is before.remembers; figures = before.figures ∙ ap (λ s. s.figures) (sym came.script) })

pub knows_behind : (P : Policy) (old new : Kernel) (lines : List Turn) (t : Turn) (behind : List Turn) (ws xs : List Worker) → lines ≡ t ∷ behind → AreApart lines → ServersKnow P old lines ws
    → length ws ≡ 16 → length xs ≡ 16 → CameTo old (after_turn P old.script (past old) t) new → ServerKnows P new t xs → OthersAsBefore t ws xs → ServersKnow P new behind xs
knows_behind P old new lines t behind ws xs q apart all n m came server others =
    knows-behind P old new t behind ws xs (subst (λ ys. AreApart ys) q apart) (subst (λ ys. ServersKnow P old ys ws) q all) (m ∙ sym n) came server others

-- the worker of the first line does before it
pub knows_first : (P : Policy) (k : Kernel) (lines : List Turn) (t : Turn) (behind : List Turn) (ws : List Worker) → lines ≡ t ∷ behind → IsTurn t → length ws ≡ 16 → ServersKnow P k lines ws
    → ServerKnows P k t ws
knows_first P k lines t behind ws q is n all w d s = subst (λ ys. ServersKnow P k ys ws) q all w d (seated t w is s) (or_left _ _ s)
  where
    seated : (t : Turn) (w : ℕ) → IsTurn t → serves w t ≡ true → w < length ws
    seated (turn.Serves v count) w is s = let e : v ≡ w = eqb-true v w s in omega arith
    seated (turn.Steps m count) w is s = cc
    seated (turn.Asks v asked) w is s = cc

-- before the first line all do
pub knows_started : (P : Policy) (S : Script) (k : Kernel) (turns : List Turn) (ws : List Worker) → IsBegun S k → AllRemember P S.figures [] ws → ServersKnow P k turns ws
knows_started P S k turns ws begun all w d l s =
    let fresh = all w d l in
    let session_is : session (past k) w ≡ session [] w = ap (λ H. session H w) begun.events ∙ session-other _ [] w refl in
    record { remembers = rw session_is fresh.0; figures = fresh.1 ∙ ap (λ s. s.figures) (sym begun.script) }
