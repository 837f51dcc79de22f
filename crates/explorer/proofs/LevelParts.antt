-- What was joined to the state at a place, or was added as one more, was joined to a level.
-- By the lists of its states and of their keys.
use Rattle.std.proofs.Common.{◌≡◌, inl, inr, ℕ, ◌<◌, List, [], ◌∷◌, ◌++◌, length, map, get_or, set, ap, ◌∙◌, subst}
use Rattle.std.proofs.lemmas.List.{get_or_read, map-append}
use Rattle.explorer.specs.Joining.{Begins, JoinsIn, JoinsTo, keys_in}
use Rattle.explorer.specs.declared.frames.Frame.{Frame}
use Rattle.explorer.specs.declared.level.Level.{Level}
use Rattle.explorer.specs.declared.state.Bound.{Bound}
use Rattle.explorer.specs.declared.state.State.{State}

module _ (b : Bound) (delays : ℕ) (frame : Frame) (from : State) (key : List ℕ) (old new : Level) where
  pub joins_there : (place : ℕ) → place < length old.states.items → ((k : List ℕ) → get_or (keys_in old) place k ≡ key) → (there joined : State) → there ≡ get_or old.states.items place there
      → JoinsTo b delays frame from there joined → new.states.items ≡ set old.states.items place joined → keys_in new ≡ keys_in old → JoinsIn b delays frame from key old new
  joins_there place l found there joined is j states keys = inl (record {
    place = place;
    inside = l;
    found = found [];
    joined = joined;
    joins = λ s. subst (λ (x : State). JoinsTo b delays frame from x joined) (get_or_read old.states.items place there l is s) j;
    states_are = states;
    keys_are = keys;
  })

  pub joins_last : (state : State) → Begins b delays frame from state → new.states.items ≡ old.states.items ++ state ∷ [] → keys_in new ≡ keys_in old ++ key ∷ [] → JoinsIn b delays frame from key old new
  joins_last state begins states keys = inr (record { state = state; begins = begins; states_are = states; keys_are = keys })

pub one_key_more : {V : Type 0} (f : V → List ℕ) (old new : List V) (x : V) → new ≡ old ++ x ∷ [] → map f new ≡ map f old ++ f x ∷ []
one_key_more f old new x e = ap (map f) e ∙ map-append f old (x ∷ [])
