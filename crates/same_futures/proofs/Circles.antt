-- The same actors are able to step after both histories, at the same places, and a turn of one of them leaves the histories the same.
-- By the names of the tasks, by who has a notification in hand, and since each step is the same.
use Rattle.std.proofs.Common.{◌≡◌, inl, inr, ℕ, ◌+◌, Bool, List, ◌∷◌, refl, sym, ap, ◌∙◌, subst}
use Rattle.std.specs.Prelude.{zero, suc, filter}
use Rattle.hist_model.specs.Legal.{is_open_session, rules_of, system_of}
use Rattle.hist_model.specs.Look.{ev}
use Rattle.hist_model.specs.Sessions.{session}
use Rattle.hist_model.specs.Steps.{step}
use Rattle.hist_model.specs.declared.event.Actor.{Actor}
use Rattle.hist_model.specs.declared.event.Actor.TheVariants.{Start, Task, Worker, Listener}
use Rattle.hist_model.specs.declared.event.Event.{Event}
use Rattle.hist_model.specs.declared.event.What.{What}
use Rattle.hist_model.specs.declared.policy.Policy.{Policy}
use Rattle.hist_model.specs.declared.script.Script.{Script}
use Rattle.delay_bounded.specs.Circle.{able, all_in_hand, at_place, in_hand, is_able, may_step, places, round, with_turn}
use Rattle.listener.specs.State as call_state
use Rattle.tasks.specs.State.{State, after}
use Rattle.same_futures.specs.Same.{Same}
use Rattle.same_futures.specs.Places.{turn_of}
use Rattle.same_futures.specs.Turns.{IsTurn}
use Rattle.same_futures.specs.Workers.{IsSameSession}
use Rattle.same_futures.proofs.Futures.{same-after}
use Rattle.same_futures.proofs.Natives.{same-values}
use Rattle.same_futures.proofs.TableSteps.{made-alike, names-alike}
use Rattle.same_futures.proofs.Workers.{step-same}

hand-by : (own other : List What) → IsSameSession own other → is_open_session other ≡ is_open_session own
hand-by own other (inl q) = ap is_open_session q
hand-by own other (inr h) = h.1 ∙ sym h.0

module _ (S : Script) (ts : State) (cs : call_state.State) (K L : List Event) (same : Same S ts cs K L) where
  hand-same : (w : ℕ) → in_hand L w ≡ in_hand K w
  hand-same w = hand-by (session K w) (session L w) (same.workers w).session

  all-same : (w : ℕ) → all_in_hand L w ≡ all_in_hand K w
  all-same zero = refl
  all-same (suc w) = rw (all-same w, hand-same w) refl

  may-same : (a : Actor) → may_step L a ≡ may_step K a
  may-same Start = refl
  may-same (Task n) = refl
  may-same (Worker w) = rw (hand-same w, all-same w) refl
  may-same Listener = refl

  able-same : (P : Policy) (a : Actor) → is_able P S L a ≡ is_able P S K a
  able-same P a = rw (may-same a, step-same S ts cs K L same (rules_of P S.figures) a) refl

  place-same : (p : ℕ) → at_place L p ≡ at_place K p
  place-same p = rw (made-alike S ts cs K L same, names-alike S ts cs K L same p) refl

  pub able-alike : (P : Policy) (W p : ℕ) → able P S W L p ≡ able P S W K p
  unfolding able
  able-alike P W p =
      ap (λ (n : ℕ). filter (λ q. is_able P S L (at_place L q)) (round p (n + (W + 1)))) (made-alike S ts cs K L same)
      ∙ ap (λ (f : ℕ → Bool). filter f (round p (places W K)))
      (same-values (λ q. is_able P S L (at_place L q)) (λ q. is_able P S K (at_place K q)) (λ q. ap (is_able P S L) (place-same q) ∙ able-same P (at_place K q)))

  -- the step of the actor at a place
  pub turn-event : (P : Policy) (q : ℕ) → turn_of P S L q ≡ turn_of P S K q
  turn-event P q =
      ap (λ (a : Actor). ev a (step (system_of S) (rules_of P S.figures) L a)) (place-same q)
      ∙ ap (ev (at_place K q)) (step-same S ts cs K L same (rules_of P S.figures) (at_place K q))

  pub turn-alike : (P : Policy) (q : ℕ) → IsTurn S K (turn_of P S K q) → Same S (after S ts (turn_of P S K q)) (call_state.after cs (turn_of P S K q)) (with_turn P S K q) (with_turn P S L q)
  turn-alike P q t =
      let e = turn_of P S K q in
      subst (λ (f : Event). Same S (after S ts e) (call_state.after cs e) (e ∷ K) (f ∷ L)) (sym (turn-event P q)) (same-after S ts cs K L same e t)
