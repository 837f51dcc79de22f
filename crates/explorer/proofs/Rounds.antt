-- What the actor at the next place of the round changes of those that are able to step.
-- By what the round's places are.
use Rattle.std.proofs.Common.{◌≡◌, ℕ, ◌+◌, ◌<◌, ◌≤◌, ◌%◌, [], ◌∷◌, refl, true, false, List}
use Rattle.hist_model.specs.declared.event.Event.{Event}
use Rattle.hist_model.specs.declared.policy.Policy.{Policy}
use Rattle.hist_model.specs.declared.script.Script.{Script}
use Rattle.delay_bounded.specs.Circle.{at_place, is_able, places}
use Rattle.delay_bounded.proofs.Rounds.{round_done, round_more}
use Rattle.explorer.specs.Frames.{able_from}

module _ (P : Policy) (S : Script) (W : ℕ) (K : List Event) (p q : ℕ) where
  -- who stands at the next place is able to step
  pub able_there : q < places W K → is_able P S K (at_place K ((p + q) % places W K)) ≡ true → able_from P S W K p q ≡ ((p + q) % places W K) ∷ able_from P S W K p (q + 1)
  able_there l a = rw (round_more p (places W K) q l, a) refl

  -- and isn't
  pub unable_there : q < places W K → is_able P S K (at_place K ((p + q) % places W K)) ≡ false → able_from P S W K p q ≡ able_from P S W K p (q + 1)
  unable_there l a = rw (round_more p (places W K) q l, a) refl

  -- no place is left
  pub nobody_there : places W K ≤ q → able_from P S W K p q ≡ []
  nobody_there l = rw (round_done p (places W K) q l) refl
