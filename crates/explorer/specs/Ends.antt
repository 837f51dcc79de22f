-- What joining histories to others that come to the same text changes.
use Rattle.std.specs.Prelude.{◌≡◌, ◌⊎◌, ℕ, ◌+◌, ◌<◌, Bool, true, false, bytes_eq, List, [], ◌∷◌, ◌++◌, length, get_or, map, set, None}
use Rattle.std.specs.List.{position}
use Rattle.explorer.specs.Paths.{is_first, left_of}
use Rattle.explorer.specs.declared.ends.End.{End}

-- ---- One end

-- the first history of the second comes first of both
abbrev pub is_ahead_of : End → End → Bool
is_ahead_of old other = is_first other.left (map left_of other.frames.items) old.left (map left_of old.frames.items)

-- the first history is that of another end
pub record HasFirstOf (e new : End) : Type 0 where
  pub frames_are : new.frames ≡ e.frames
  pub left_is : new.left ≡ e.left
  pub schedule_is : new.schedule ≡ e.schedule

abbrev pub KeepsFirst : Bool → End → End → End → Type 0
KeepsFirst true other old new = HasFirstOf other new
KeepsFirst false other old new = HasFirstOf old new

-- others were joined
pub record JoinsEnd (other old new : End) : Type 0 where
  pub text_is : new.text ≡ old.text
  pub count_is : new.count ≡ old.count + other.count
  pub first_is : KeepsFirst (is_ahead_of old other) other old new

-- ---- All ends

-- the end is that of a text
abbrev pub has_text : List ℕ → End → Bool
has_text text e = bytes_eq e.text.items text

-- they were joined to the end with their text
pub record JoinsThere (end : End) (old new : List End) : Type 0 where
  pub place : ℕ
  pub inside : place < length old
  pub found : (d : End) → has_text end.text.items (get_or old place d) ≡ true
  pub joined : End
  pub joins : (d : End) → JoinsEnd end (get_or old place d) joined
  pub ends_are : new ≡ set old place joined

-- or there is none, and they are an end more
pub record IsOneMore (end : End) (old new : List End) : Type 0 where
  pub none_found : position (has_text end.text.items) old ≡ None
  pub ends_are : new ≡ old ++ end ∷ []

abbrev pub JoinsEnds : End → List End → List End → Type 0
JoinsEnds end old new = JoinsThere end old new ⊎ IsOneMore end old new
