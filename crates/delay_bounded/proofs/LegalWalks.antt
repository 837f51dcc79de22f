-- Each walk is legal, none of its events is a Skip, and none is a step of a worker above the limit; and nobody is able to step at its end.
-- By induction on the steps that are left: a turn is a step of an actor that a schedule may name.
use Rattle.std.proofs.Common.{◌≡◌, ℕ, zero, suc, ◌+◌, ◌-◌, ◌<◌, ◌≤◌, ◌^◌, Bool, true, false, not, if◌then◌else◌, nat_lt, List, [], ◌∷◌, ◌++◌, length, filter, All, refl, sym, ap, ◌∙◌, arith}
use Rattle.std.proofs.lemmas.List.Elements.{All-append, All-cons, All-filter, All-head, All-map, All-nil, All-tail, All-weaker, filter_passes}
use Rattle.std.proofs.lemmas.Bool.{and_parts}
use Rattle.hist_model.specs.Legal.{IsWithin, rules_of, started, system_of, with_step}
use Rattle.hist_model.specs.Look.{Name}
use Rattle.hist_model.specs.ScriptRules.{IsScript}
use Rattle.hist_model.specs.Steps.{IsLegal, step}
use Rattle.hist_model.specs.declared.event.Actor.{Actor}
use Rattle.hist_model.specs.declared.event.Actor.TheVariants.{Listener, Start, Task, Worker}
use Rattle.hist_model.specs.declared.event.Event.{Event}
use Rattle.hist_model.specs.declared.policy.Policy.{Policy}
use Rattle.hist_model.specs.declared.script.Script.{Script}
use Rattle.history_frames.specs.Ordinals.{count_of, task_name_of, tasks_made}
use Rattle.mediation.specs.Scheduled.{IsScheduled, IsUnclosed}
use Rattle.mediation.proofs.Mediation.{mediated}
use Rattle.mediation.proofs.Played.{goes_on-start, goes_on-step}
use Rattle.delay_bounded.specs.Circle.{able, at_place, is_able, may_step, places, round, with_turn}
use Rattle.delay_bounded.specs.Explored.{Walk, by_delays, closed, explored, is_spent, most_events, or_over, walks, with_delays}
use Rattle.delay_bounded.proofs.Rounds.{round_inside, round_splits}
use Rattle.delay_bounded.specs.Laws.{ClosesFinished, IsExplored, IsLowest, IsOver, IsWalked}
use Rattle.delay_bounded.specs.Schedules.{schedule_of}
use Rattle.delay_bounded.proofs.Finishing.{finished}
use Rattle.delay_bounded.proofs.MadeNames.{made_named}
use Rattle.delay_bounded.proofs.Schedules.{plays}
use Rattle.delay_bounded.proofs.Turns.{turn_by_turn}

-- ---- A turn

not_so : (b : Bool) → not b ≡ true → b ≡ false
not_so true e = cc
not_so false e = refl

module _ (P : Policy) (S : Script) (W : ℕ) (few : W ≤ 16) where
  scheduled : (K : List Event) (a : Actor) → IsWithin W a → is_able P S K a ≡ true → IsScheduled a
  scheduled K (Task n) w e = (and_parts _ _ e).0
  scheduled K (Worker n) w e = omega arith
  scheduled K Start w e = cc
  scheduled K Listener w e = cc

  within_place : (n q t : ℕ) (name : Name) → q < t + (W + 1) → (b : Bool) → nat_lt q t ≡ b → IsWithin W (if b then Task name else Worker (q - t))
  within_place n q t name l true e = tt
  within_place n q t name l false e = omega arith

  within : (K : List Event) (q : ℕ) → q < places W K → IsWithin W (at_place K q)
  within K q l = within_place 0 q (tasks_made K) (task_name_of K q) l (nat_lt q (tasks_made K)) refl

  lowest_of : (K : List Event) (a : Actor) → may_step K a ≡ true → IsLowest K a
  lowest_of K (Task n) m = tt
  lowest_of K (Worker w) m = m
  lowest_of K Start m = tt
  lowest_of K Listener m = tt

  -- the turn of an actor that is able to step
  pub walked_on : (K : List Event) (q : ℕ) → q < places W K → is_able P S K (at_place K q) ≡ true → IsWalked P S W K → IsWalked P S W (with_turn P S K q)
  walked_on K q l e k = record {
    goes_on = goes_on-step P S (at_place K q) K (scheduled K (at_place K q) (within K q l) e) k.goes_on;
    no_skip = (not_so _ (and_parts _ _ e).1, k.no_skip);
    within = (within K q l, k.within);
    lowest = (lowest_of K (at_place K q) (and_parts _ _ e).0, k.lowest);
  }

  pub walked_first : IsWalked P S W (started S)
  walked_first = record { goes_on = goes_on-start P S; no_skip = (refl, tt); within = (tt, tt); lowest = (tt, tt) }

  -- ---- The places of those that are able to step

  pub able_inside : (K : List Event) (p : ℕ) → All (λ q. q < places W K) (able P S W K p)
  unfolding able
  able_inside K p = All-filter (λ q. is_able P S K (at_place K q)) (λ q. q < places W K) (round p (places W K)) (round_inside p (places W K) (omega arith))

  pub able_able : (K : List Event) (p : ℕ) → All (λ q. is_able P S K (at_place K q) ≡ true) (able P S W K p)
  unfolding able
  able_able K p = filter_passes (λ q. is_able P S K (at_place K q)) (round p (places W K))

  -- ---- The walks

  -- nobody is able to step at the end of a walk that can be counted
  abbrev Good : Walk → Type 0
  Good w = IsWalked P S W w.events × (length w.events < most_events → IsOver P S W w.events)

  over_where_none : (K : List Event) (p : ℕ) → p < places W K → able P S W K p ≡ [] → IsOver P S W K
  unfolding able
  over_where_none K p inside none q l = by (is_able P S K (at_place K q)) refl
    where
      no_part : (before behind : List ℕ) → [] ≡ before ++ q ∷ behind → ⊥
      no_part [] behind e = cc
      no_part (b ∷ before) behind e = cc

      by : (b : Bool) → is_able P S K (at_place K q) ≡ b → is_able P S K (at_place K q) ≡ false
      by true e = let s = round_splits (λ q. is_able P S K (at_place K q)) p q (places W K) inside l e in absurd (no_part s.before s.behind (sym none ∙ s.whole))
      by false e = e

  more_places : (K : List Event) (q : ℕ) → places W K ≤ places W (with_turn P S K q)
  unfolding count_of
  more_places K q = omega arith

  module _ (K : List Event) (p : ℕ) (first : p < places W K) (k : IsWalked P S W K) (f : ℕ → ℕ → List Walk) (goes : (q r : ℕ) → q < places W (with_turn P S K q) → IsWalked P S W (with_turn P S K q) → All Good (f q r)) where
    goes_on : (q r : ℕ) → q < places W K → is_able P S K (at_place K q) ≡ true → All Good (f q r)
    goes_on q r l e = goes q r (omega (arith, more_places K q)) (walked_on K q l e k)

    each : (qs : List ℕ) (d : ℕ) → All (λ q. q < places W K) qs → All (λ q. is_able P S K (at_place K q) ≡ true) qs → All Good (by_delays f qs d)
    each [] d i a = All-nil Good
    each (q ∷ more) zero i a = goes_on q zero (All-head (λ q. q < places W K) q more i) (All-head (λ q. is_able P S K (at_place K q) ≡ true) q more a)
    each (q ∷ more) (suc d) i a = All-append Good (f q (suc d)) (by_delays f more d)
        (goes_on q (suc d) (All-head (λ q. q < places W K) q more i) (All-head (λ q. is_able P S K (at_place K q) ≡ true) q more a))
        (each more d (All-tail (λ q. q < places W K) q more i) (All-tail (λ q. is_able P S K (at_place K q) ≡ true) q more a))

    either : (qs : List ℕ) (d : ℕ) → able P S W K p ≡ qs → All (λ q. q < places W K) qs → All (λ q. is_able P S K (at_place K q) ≡ true) qs → All Good (or_over qs (record { left = d; events = K }) (by_delays f qs d))
    either [] d e i a = All-cons Good (record { left = d; events = K }) [] (k, λ l. over_where_none K p first e) (All-nil Good)
    either (q ∷ more) d e i a = each (q ∷ more) d i a

  all_walked : (n : ℕ) (K : List Event) (p d : ℕ) → most_events ≤ n + length K → p < places W K → IsWalked P S W K → All Good (walks P S W n K p d)
  unfolding walks
  all_walked zero K p d long first k = All-cons Good (record { left = d; events = K }) [] (k, λ l. absurd (omega arith)) (All-nil Good)
  all_walked (suc n) K p d long first k = either K p first k (λ q r. walks P S W n (with_turn P S K q) q r) (λ q r inside w. all_walked n (with_turn P S K q) q r (omega arith) inside w) (able P S W K p) d refl (able_inside K p) (able_able K p)

  -- ---- Their histories

  ends_legal : (K : List Event) → IsWalked P S W K → IsLegal (system_of S) (rules_of P S.figures) (with_step P S Listener K)
  unfolding step
  ends_legal [] k = absurd k.goes_on.unclosed
  ends_legal (e ∷ K) k = ((k.goes_on.unclosed, refl, refl, refl), k.goes_on.legal)

  ends : (w : Walk) → Good w → IsExplored P S W (closed P S w)
  unfolding step schedule_of
  ends w (k, over) = record {
    legal = λ l. (ends_legal w.events k, l, omega arith);
    mediated = λ l. mediated P S (closed P S w) (ends_legal w.events k) l;
    no_skip = (refl, k.no_skip);
    within = (tt, k.within);
    played = ap (λ (K : List Event). with_step P S Listener K) (plays P S W w.events (turn_by_turn P S W w.events k.goes_on k.no_skip k.within k.lowest));
  }

  filled : (K : List Event) → IsUnclosed K → 0 < length K
  filled [] u = absurd u
  filled (e ∷ K) u = omega arith

  -- a history that can be counted
  abbrev EndsFinished : List Event → Type 0
  EndsFinished H = length H < 2 ^ 64 → ClosesFinished H

  ends_finished : IsScript S → (w : Walk) → Good w → EndsFinished (closed P S w)
  unfolding step
  ends_finished rules w (k, over) few_events =
      (w.events, refl, finished P S W w.events k.goes_on.legal (omega arith) k.within (made_named S (rules_of P S.figures) rules w.events k.goes_on.legal) (over (omega arith)) (filled w.events k.goes_on.unclosed))

  module _ (Q : List Event → Type 0) (good : (w : Walk) → Good w → Q (closed P S w)) where
    all_with : (d : ℕ) → All Q (with_delays P S W d)
    unfolding with_delays
    all_with d =
        let walked = all_walked (most_events - length (started S)) (started S) 0 d (omega arith) (omega arith) walked_first in
        let spent = All-filter is_spent Good (walks P S W (most_events - length (started S)) (started S) 0 d) walked in
        All-map Q (closed P S) (filter is_spent (walks P S W (most_events - length (started S)) (started S) 0 d)) (All-weaker Good (λ w. Q (closed P S w)) good _ spent)

    all_of : (d : ℕ) → All Q (explored P S W d)
    unfolding explored
    all_of zero = all_with 0
    all_of (suc d) = All-append Q (explored P S W d) (with_delays P S W (suc d)) (all_of d) (all_with (suc d))

  pub all_explored : (d : ℕ) → All (IsExplored P S W) (explored P S W d)
  all_explored d = all_of (IsExplored P S W) ends d

  pub all_finished : IsScript S → (d : ℕ) → All EndsFinished (explored P S W d)
  all_finished rules d = all_of EndsFinished (ends_finished rules) d
