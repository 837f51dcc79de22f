-- What joining the histories of a state to another one changes.
use Rattle.std.specs.Prelude.{◌≡◌, ◌⊎◌, ℕ, ◌+◌, ◌-◌, ◌<◌, Bool, if◌then◌else◌, nat_lt, List, [], ◌∷◌, ◌++◌, length}
use Rattle.std.specs.Prelude.{get_or, map, min, None, Option, set, Some}
use Rattle.explorer.specs.Paths.{is_first, left_of}
use Rattle.explorer.specs.declared.frames.Frame.{Frame}
use Rattle.explorer.specs.declared.level.Level.{Level}
use Rattle.explorer.specs.declared.state.Bound.{Bound}
use Rattle.explorer.specs.declared.state.State.{State}

-- ---- Counts

-- where histories are counted that had so many delays, and then some more: none where they aren't within the bound
abbrev pub place_of : Bound → ℕ → ℕ → Option ℕ
place_of b before delays = if b.is_meant then (if nat_lt b.most (before + delays) then None else Some (before + delays)) else Some before

-- of those that are counted in a place, how many come from another state after so many delays more
abbrev pub shifted : ℕ → ℕ → List ℕ → ℕ → ℕ
shifted most delays counts i = if nat_lt most i then 0 else (if nat_lt i delays then 0 else get_or counts (i - delays) 0)

abbrev pub coming_from : Bound → ℕ → List ℕ → ℕ → ℕ
coming_from b delays counts i = if b.is_meant then shifted b.most delays counts i else get_or counts i 0

abbrev pub CountsMore : Bound → ℕ → List ℕ → List ℕ → List ℕ → Type 0
CountsMore b delays from old new = (i : ℕ) → get_or new i 0 ≡ get_or old i 0 + coming_from b delays from i

-- ---- A state

-- the turns of the first history of another state, and one more
abbrev pub turns_behind : State → Frame → List Frame
turns_behind from frame = from.frames.items ++ frame ∷ []

-- the state begins with the histories that come from another one
pub record Begins (b : Bound) (delays : ℕ) (frame : Frame) (from new : State) : Type 0 where
  pub frames_are : new.frames.items ≡ turns_behind from frame
  pub left_is : new.left ≡ frame.left
  pub least_is : new.least ≡ from.least - delays
  pub counts : CountsMore b delays from.counts.items [] new.counts.items

-- the first history comes first of both
abbrev pub is_ahead : Frame → State → State → Bool
is_ahead frame from old = is_first frame.left (map left_of (turns_behind from frame)) old.left (map left_of old.frames.items)

-- those that come from another one were joined
pub record JoinsTo (b : Bound) (delays : ℕ) (frame : Frame) (from old new : State) : Type 0 where
  pub frames_are : new.frames.items ≡ (if is_ahead frame from old then turns_behind from frame else old.frames.items)
  pub left_is : new.left ≡ (if is_ahead frame from old then frame.left else old.left)
  pub least_is : new.least ≡ min old.least (from.least - delays)
  pub counts : CountsMore b delays from.counts.items old.counts.items new.counts.items

-- ---- A level

abbrev pub keys_in : Level → List (List ℕ)
keys_in l = map (λ key. key.items) l.keys.items

-- they were joined to the state at a place, which has this key
pub record JoinsAt (b : Bound) (delays : ℕ) (frame : Frame) (from : State) (key : List ℕ) (old new : Level) : Type 0 where
  pub place : ℕ
  pub inside : place < length old.states.items
  pub found : get_or (keys_in old) place [] ≡ key
  pub joined : State
  pub joins : (s : State) → JoinsTo b delays frame from (get_or old.states.items place s) joined
  pub states_are : new.states.items ≡ set old.states.items place joined
  pub keys_are : keys_in new ≡ keys_in old

-- or to a state more
pub record JoinsLast (b : Bound) (delays : ℕ) (frame : Frame) (from : State) (key : List ℕ) (old new : Level) : Type 0 where
  pub state : State
  pub begins : Begins b delays frame from state
  pub states_are : new.states.items ≡ old.states.items ++ state ∷ []
  pub keys_are : keys_in new ≡ keys_in old ++ key ∷ []

abbrev pub JoinsIn : Bound → ℕ → Frame → State → List ℕ → Level → Level → Type 0
JoinsIn b delays frame from key old new = JoinsAt b delays frame from key old new ⊎ JoinsLast b delays frame from key old new
