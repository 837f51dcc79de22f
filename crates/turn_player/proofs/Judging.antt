-- A play that is judged: one step, and steps one after another.
-- By what one step adds to a history, which is one event or none, and by cases on whether a clause was broken before.
use Rattle.std.proofs.Common.{◌≡◌, ◌⊎◌, inl, inr, ℕ, zero, suc, ◌+◌, ◌<◌, ◌^◌, Bool, true, false, List, [], ◌∷◌, ◌++◌, length, Option, Some, None, refl, sym, ap, subst, ◌∙◌, arith, add-one, append_assoc}
use Rattle.std.specs.Prelude.{is_some, IsSome}
use Rattle.std.specs.Option.{option_map}
use Rattle.hist_model.specs.Deeds.{Deed}
use Rattle.hist_model.specs.Kinds.{skips}
use Rattle.hist_model.specs.Legal.{rules_of, system_of}
use Rattle.hist_model.specs.Look.{Name, ev}
use Rattle.hist_model.specs.Steps.{deed_step, task_step, worker_step}
use Rattle.hist_model.specs.Tasks.{is_made}
use Rattle.hist_model.specs.declared.event.Actor.{Actor}
use Rattle.hist_model.specs.declared.event.Actor.TheVariants.{Task, Worker}
use Rattle.hist_model.specs.declared.event.Event.{Event}
use Rattle.hist_model.specs.declared.event.What.{What}
use Rattle.hist_model.specs.declared.policy.Policy.{Policy}
use Rattle.hist_model.specs.declared.script.Script.{Script}
use Rattle.asked_steps.specs.Asking.{deed_of, refused}
use Rattle.asked_steps.specs.Steps.{IsBegun, after_deed, after_task, after_unless, is_closed, with_step}
use Rattle.judge_pass.specs.Closed.{is_closed as is_closed_to_judges}
use Rattle.judge_pass.proofs.Found.{found_newest}
use Rattle.judge_pass.specs.Finding.{as_finding, finding, Watches}
use Rattle.judge_pass.specs.Stands.{IsHistory}
use Rattle.judge_pass.specs.declared.watch.FirstFault.{FirstFault}
use Rattle.judge_pass.specs.declared.watch.Watch.{Watch}
use Rattle.model_kernel.specs.Kernels.{IsKernel, past}
use Rattle.model_kernel.specs.declared.kernel.Kernel.{Kernel}
use Rattle.step_requests.specs.declared.request.Asked.{Asked}
use Rattle.step_requests.specs.declared.request.Turn.{Turn}
use Rattle.step_requests.specs.declared.request.Turn.TheVariants as turn
use Rattle.asked_steps.specs.Stands.{CameTo}
use Rattle.turn_player.specs.Judged.{GoesOnFrom, IsNewer, IsPlayed, IsWatched, requested, StopsAt}
use Rattle.turn_player.specs.Turns.{after_times, after_turn, is_allowed, next_deed, served, stepped}
use Rattle.turn_player.specs.declared.judged.Court.{Court}
use Rattle.turn_player.proofs.TurnedKept.{GoesOn}

-- ---- what a step adds

-- the second history is the first, or has one more event
abbrev pub Grows : List Event → List Event → Type 0
Grows K H = (H ≡ K) ⊎ ((e : Event) × (H ≡ e ∷ K))

step-grows : (who : Actor) (what : What) (K : List Event) → Grows K (with_step who what K)
step-grows who what K = by (skips what) refl
  where
    by : (b : Bool) → skips what ≡ b → Grows K (with_step who what K)
    by true q = inl (rw q refl)
    by false q = inr (ev who what, rw q refl)

pub task_grows : (S : Script) (n : Name) (K : List Event) → Grows K (stepped S n K)
task_grows S n K = by (is_made K n) refl
  where
    by : (b : Bool) → is_made K n ≡ b → Grows K (after_task S K n)
    by true q = rw q (step-grows (Task n) (task_step (system_of S) K n) K)
    by false q = inl (rw q refl)

pub served_grows : (P : Policy) (S : Script) (w : ℕ) (K : List Event) → Grows K (served P S w K)
served_grows P S w K = by (is_allowed K w (next_deed P S w K)) refl
  where
    by : (b : Bool) → is_allowed K w (next_deed P S w K) ≡ b → Grows K (served P S w K)
    by true q = rw q (step-grows (Worker w) (worker_step (system_of S) (rules_of P S.figures) K w) K)
    by false q = inl (rw q refl)

deed-grows : (S : Script) (K : List Event) (w : ℕ) (d : Option Deed) → Grows K (after_deed S K w d)
deed-grows S K w None = inl refl
deed-grows S K w (Some d) = step-grows (Worker w) (deed_step (system_of S) K w d) K

pub request_grows : (S : Script) (w : ℕ) (asked : Asked) (K : List Event) → Grows K (requested S w asked K)
request_grows S w asked K = elim (refused K w asked) as (λ why. Grows K (after_unless S K w asked why)) [
  | Some why ↦ inl refl
  | None ↦ deed-grows S K w (deed_of asked)
]

-- ---- histories that go on

pub grown : (K H : List Event) → Grows K H → GoesOnFrom H K
grown K H (inl q) = ([], q)
grown K H (inr q) = (q.0 ∷ [], q.1)

goes-on-more : (K H L : List Event) → GoesOnFrom L H → GoesOnFrom H K → GoesOnFrom L K
goes-on-more K H L more from = (more.0 ++ from.0, more.1 ∙ ap (λ (X : List Event). more.0 ++ X) from.1 ∙ sym (append_assoc more.0 from.0 K))

pub times_go_on : (f : List Event → List Event) → ((K : List Event) → Grows K (f K)) → (K : List Event) (count : ℕ) → GoesOnFrom (after_times f K count) K
unfolding after_times
times_go_on f grows K zero = ([], refl)
times_go_on f grows K (suc count) =
    let H : List Event = after_times f K count in goes-on-more K H (f H) (grown H (f H) (grows H)) (times_go_on f grows K count)

pub turn_goes_on : (P : Policy) (S : Script) (K : List Event) (t : Turn) → GoesOnFrom (after_turn P S K t) K
turn_goes_on P S K (turn.Steps n count) = times_go_on (stepped S n) (task_grows S n) K count
turn_goes_on P S K (turn.Serves w count) = times_go_on (served P S w) (served_grows P S w) K count
turn_goes_on P S K (turn.Asks w asked) = grown K (requested S w asked K) (request_grows S w asked K)

-- ---- what was found

pub none_found : (o : Option FirstFault) → is_some o ≡ false → o ≡ None
none_found None h = refl
none_found (Some f) h = cc

pub both-found : {A : Type 0} (o : Option FirstFault) → o ≡ None → IsSome o → A
both-found None q some = cc
both-found (Some f) q some = cc

-- ---- one step

-- the judge asks the same of a history
pub closed_alike : (K : List Event) → is_closed_to_judges K ≡ is_closed K
closed_alike [] = refl
closed_alike (e ∷ K) = refl

-- a history of the kernel with few events
pub few_events : (S : Script) (K : List Event) → IsBegun S K → length K < 2 ^ 62 → IsHistory S K
few_events S K begun few = record { of_kernel = begun.1; fits = omega arith }

-- nothing is found before
clean_before : (P : Policy) (S : Script) (K : List Event) (w : Watch) → w.found ≡ None → Watches P S K w → finding P S K ≡ None
clean_before P S K w clean watches = sym watches.found_is ∙ ap (option_map as_finding) clean

-- the newest event is what is found, if anything is
pub stops_newest : (P : Policy) (S : Script) (K : List Event) (e : Event) (new : Watch) → finding P S K ≡ None → Watches P S (e ∷ K) new → StopsAt (e ∷ K) new.found
stops_newest P S K e new clean watches = by new.found refl
  where
    by : (o : Option FirstFault) → new.found ≡ o → StopsAt (e ∷ K) o
    by None q = tt
    by (Some f) q = ap suc (sym (found_newest P S K e (as_finding f) clean (sym watches.found_is ∙ ap (option_map as_finding) q)))

module _ (P : Policy) (c : Court) (heard : ℕ) (is : IsNewer P c heard) where
  -- nothing has come
  pub heard_all : IsKernel c.kernel → IsBegun c.kernel.script (past c.kernel) → is_closed (past c.kernel) ≡ false → c.watch.found ≡ None → length (past c.kernel) ≡ heard → IsWatched P c
  heard_all kernel begun open-still clean number = elim is.newer as (λ n. IsWatched P c) [
    | inl q ↦ record { kernel = kernel; begun = begun; open_still = open-still; watches = rw q is.watches; stops = rw clean tt }
    | inr q ↦
        let more : length (past c.kernel) ≡ suc (length is.before) = ap length q.1 in
        absurd (omega (arith, more, number, is.number))
  ]

  -- one event has come
  pub heard_before : (length (past c.kernel) ≡ heard → ⊥) → (K : List Event) (e : Event) → past c.kernel ≡ e ∷ K → Watches P c.kernel.script K c.watch
  heard_before more K e at = elim is.newer as (λ n. Watches P c.kernel.script K c.watch) [
    | inl q ↦ absurd (more (ap length q ∙ is.number))
    | inr q ↦
        let both : e ∷ K ≡ q.0 ∷ is.before = sym at ∙ q.1 in
        let same : is.before ≡ K = cc in
        subst (λ (X : List Event). Watches P c.kernel.script X c.watch) same is.watches
  ]

  pub heard_one : (new : Watch) → IsKernel c.kernel → IsBegun c.kernel.script (past c.kernel) → is_closed (past c.kernel) ≡ false → c.watch.found ≡ None → (length (past c.kernel) ≡ heard → ⊥)
      → ((K : List Event) (e : Event) → past c.kernel ≡ e ∷ K → Watches P c.kernel.script (e ∷ K) new) → IsWatched P (record { kernel = c.kernel; watch = new })
  heard_one new kernel begun open-still clean more heard-it = elim is.newer as (λ n. IsWatched P (record { kernel = c.kernel; watch = new })) [
    | inl q ↦ absurd (more (ap length q ∙ is.number))
    | inr q ↦ record {
      kernel = kernel;
      begun = begun;
      open_still = open-still;
      watches = subst (λ (X : List Event). Watches P c.kernel.script X new) (sym q.1) (heard-it is.before q.0 q.1);
      stops = subst (λ (X : List Event). StopsAt X new.found) (sym q.1) (stops_newest P c.kernel.script is.before q.0 new (clean_before P c.kernel.script is.before c.watch clean is.watches) (heard-it is.before q.0 q.1));
    }
  ]

module _ (P : Policy) (old : Court) where
  -- nothing, where a clause was broken before
  pub played_over : (K : List Event) → IsWatched P old → is_some old.watch.found ≡ true → GoesOnFrom K (past old.kernel) → IsPlayed P old K old
  played_over K watched over from = record {
    watched = watched;
    script = refl;
    whole = λ none. both-found old.watch.found none over;
    begins = from;
    stays = λ some. (refl, some);
  }

  -- what the judge is to hear after a step
  pub newer : (K : List Event) (mid : Kernel) (heard : ℕ) → IsWatched P old → CameTo old.kernel K mid → Grows (past old.kernel) K → heard ≡ length (past old.kernel)
      → IsNewer P (record { kernel = mid; watch = old.watch }) heard
  newer K mid heard watched came grows number = record {
    before = past old.kernel;
    number = sym number;
    watches = rw came.script watched.watches;
    newer = elim grows as (λ g. (past mid ≡ past old.kernel) ⊎ ((e : Event) × (past mid ≡ e ∷ past old.kernel))) [
      | inl q ↦ inl (came.past ∙ q)
      | inr q ↦ inr (q.0, came.past ∙ q.1)
    ];
  }

  pub begun_on : (K : List Event) (mid : Kernel) → CameTo old.kernel K mid → GoesOn old.kernel.script K → IsBegun mid.script (past mid)
  begun_on K mid came on = rw (came.script, came.past) on.0

  pub open_on : (K : List Event) (mid : Kernel) → CameTo old.kernel K mid → GoesOn old.kernel.script K → is_closed (past mid) ≡ false
  open_on K mid came on = rw came.past on.1

  -- the step was made, and heard
  pub played_step : (K : List Event) (mid : Kernel) (new : Court) → is_some old.watch.found ≡ false → CameTo old.kernel K mid → IsWatched P new → new.kernel ≡ mid → IsPlayed P old K new
  played_step K mid new clean came watched same =
      let there : past new.kernel ≡ K = ap past same ∙ came.past in
      record {
        watched = watched;
        script = ap (λ (k : Kernel). k.script) same ∙ came.script;
        whole = λ none. there;
        begins = ([], sym there);
        stays = λ some. both-found old.watch.found (none_found old.watch.found clean) some;
      }

-- ---- one step after another

module _ (P : Policy) (old mid new : Court) where
  pub then_played : (K : List Event) (step : List Event → List Event) → IsPlayed P old K mid → IsPlayed P mid (step (past mid.kernel)) new → GoesOnFrom (step K) K → IsPlayed P old (step K) new
  then_played K step before after from = by mid.watch.found refl
    where
      script : new.kernel.script ≡ old.kernel.script
      script = after.script ∙ before.script

      stays : IsSome old.watch.found → (past new.kernel ≡ past old.kernel) × IsSome new.watch.found
      stays some =
          let one = before.stays some in
          let two = after.stays one.1 in
          (two.0 ∙ one.0, two.1)

      by : (o : Option FirstFault) → mid.watch.found ≡ o → IsPlayed P old (step K) new
      by None q =
          let there : past mid.kernel ≡ K = before.whole q in
          record {
            watched = after.watched;
            script = script;
            whole = λ none. after.whole none ∙ ap step there;
            begins = subst (λ (H : List Event). GoesOnFrom (step H) (past new.kernel)) there after.begins;
            stays = stays;
          }
      by (Some f) q =
          let over : (past new.kernel ≡ past mid.kernel) × IsSome new.watch.found = after.stays (rw q refl) in
          record {
            watched = after.watched;
            script = script;
            whole = λ none. both-found new.watch.found none over.1;
            begins = rw over.0 (goes-on-more (past mid.kernel) K (step K) from before.begins);
            stays = stays;
          }

-- nothing yet
pub played_none : (P : Policy) (c : Court) → IsWatched P c → IsPlayed P c (past c.kernel) c
played_none P c watched = record { watched = watched; script = refl; whole = λ none. refl; begins = ([], refl); stays = λ some. (refl, some) }

pub played_no_times : (P : Policy) (f : List Event → List Event) (c : Court) → IsWatched P c → IsPlayed P c (after_times f (past c.kernel) 0) c
unfolding after_times
played_no_times P f c watched = played_none P c watched

-- the same step once more
module _ (P : Policy) (step : Script → List Event → List Event) (old mid new : Court) (count : ℕ) where
  played-once-more : ((K : List Event) → Grows K (step old.kernel.script K)) → IsPlayed P old (after_times (step old.kernel.script) (past old.kernel) count) mid
      → IsPlayed P mid (step mid.kernel.script (past mid.kernel)) new → IsPlayed P old (after_times (step old.kernel.script) (past old.kernel) (suc count)) new
  unfolding after_times
  played-once-more grows before after =
      let K : List Event = after_times (step old.kernel.script) (past old.kernel) count in
      then_played P old mid new K (step old.kernel.script) before
      (subst (λ (S : Script). IsPlayed P mid (step S (past mid.kernel)) new) before.script after)
      (grown K (step old.kernel.script K) (grows K))

  pub played_once_more : ((K : List Event) → Grows K (step old.kernel.script K)) → IsPlayed P old (after_times (step old.kernel.script) (past old.kernel) count) mid
      → IsPlayed P mid (step mid.kernel.script (past mid.kernel)) new → IsPlayed P old (after_times (step old.kernel.script) (past old.kernel) (count + 1)) new
  played_once_more grows before after =
      subst (λ (n : ℕ). IsPlayed P old (after_times (step old.kernel.script) (past old.kernel) n) new) (sym (add-one count)) (played-once-more grows before after)
