-- What contracts see of a capture, and what it comes to.
use Rattle.std.specs.Prelude.{◌≡◌, ℕ, ◌≤◌, List, [], ◌∷◌, ◌++◌, length, Option, Some, None, Result, Ok, Err, ⊤}
use Rattle.sys_abi.specs.Errnos.{efault}
use Rattle.hist_model.specs.Copies.{Progress, Wants, Complete, Faulty, progress, progress_with}
pub use Rattle.hist_model.specs.Copies.{wanted}
use Rattle.hist_model.specs.declared.copy.Part.{Part}
use Rattle.hist_model.specs.declared.request.Fault.{Fault}
use Rattle.hist_model.specs.declared.request.ArgCopy.{ArgCopy}
use Rattle.sys_abi.specs.declared.memory.NoMemory.{NoMemory}
use Rattle.arg_capture.specs.Plans.{IsSettled, rest_parts}
use Rattle.std.specs.Borrow.{Bor}

-- the texts that are whole, the bytes so far of the part in hand, what is left of that part and the parts after it, and for how
-- many of these parts there is room
pub record Reached : Type 0 where
  pub texts : List (List ℕ)
  pub taken : List ℕ
  pub parts : List Part
  pub rooms : ℕ
  pub places : ℕ

-- that, and the fault that ended it
pub record Captured : Type 0 where
  pub reached : Reached
  pub fault : Option ℕ

-- the first text goes on with these bytes before it
abbrev pub with_taken : List ℕ → Progress → Progress
with_taken taken (Wants address n) = Wants address n
with_taken taken (Complete []) = Complete []
with_taken taken (Complete (text ∷ texts)) = Complete ((taken ++ text) ∷ texts)
with_taken taken (Faulty e) = Faulty e

abbrev pub with_texts : List (List ℕ) → Progress → Progress
with_texts texts (Wants address n) = Wants address n
with_texts texts (Complete more) = Complete (texts ++ more)
with_texts texts (Faulty e) = Faulty e

abbrev pub unless_faulty : Option ℕ → Progress → Progress
unless_faulty (Some e) later = Faulty e
unless_faulty None later = later

-- what this comes to after some answers
abbrev pub reached_progress : Reached → List (Result (List ℕ) ℕ) → Progress
reached_progress r answers = with_texts r.texts (with_taken r.taken (progress r.parts answers))

-- how far a capture is after these further answers
abbrev pub continued : Captured → List (Result (List ℕ) ℕ) → Progress
continued c answers = unless_faulty c.fault (reached_progress c.reached answers)

-- the capture has had these answers of a plan, the oldest first: whatever comes later, it is as far as they make it
abbrev pub Follows : List Part → List (Result (List ℕ) ℕ) → Captured → Type 0
Follows parts answers c = (later : List (Result (List ℕ) ℕ)) → continued c later ≡ progress parts (answers ++ later)

-- an answer to a piece: EFAULT, or some bytes, at most as many as were asked for
abbrev pub Answers : Option (ℕ × ℕ) → Result (List ℕ) ℕ → Type 0
Answers (Some asked) (Ok bytes) = (1 ≤ length bytes) × (length bytes ≤ asked.1)
Answers (Some asked) (Err e) = ⊤
Answers None got = ⊥

-- the texts of a complete copy, or its fault
abbrev pub Finishes : Progress → Result ArgCopy ℕ → Type 0
Finishes (Complete texts) (Ok copy) = copy.texts ≡ texts
Finishes (Faulty e) (Err f) = f ≡ e
Finishes _ _ = ⊥

-- the answer of a read
abbrev pub answer_of : Result (Bor (List ℕ)) Fault → Result (List ℕ) ℕ
answer_of (Ok bytes) = Ok bytes.now
answer_of (Err fault) = Err efault

-- ---- steps of a reading

abbrev pub HasRoom : Reached → Type 0
HasRoom r = length r.parts ≤ r.rooms

-- there is room for the texts of any call
abbrev pub HasRoomForAny : Reached → Type 0
HasRoomForAny r = (4 ≤ r.rooms) × (4 ≤ r.places)

-- all but the room is as before
abbrev pub IsKept : Reached → Reached → Type 0
IsKept old new = (new.texts ≡ old.texts) × (new.taken ≡ old.taken) × (new.parts ≡ old.parts)

-- how a step of a reading ends: it comes to what is promised, whatever the later answers, perhaps by a fault; or for want of
-- memory, of which there was no need where there was room, nothing has changed
abbrev pub Takes : Reached → (List (Result (List ℕ) ℕ) → Progress) → Result (Option ℕ) NoMemory → Reached → Type 0
Takes old promised (Ok ended) new =
    ((later : List (Result (List ℕ) ℕ)) → unless_faulty ended (reached_progress new later) ≡ promised later)
    × (ended ≡ None → IsSettled (length new.taken) new.parts)
    × (HasRoom old → HasRoom new)
Takes old promised (Err e) new = IsKept old new × (HasRoom old → ⊥)

-- the part in hand is whole with these bytes
abbrev pub with_whole : Reached → List ℕ → List (Result (List ℕ) ℕ) → Progress
with_whole r bytes later = with_texts r.texts (with_taken r.taken (progress_with bytes (progress (rest_parts r.parts) later)))

-- the part in hand goes on with these bytes before what is left of it
abbrev pub with_more : Reached → List ℕ → Part → List (Result (List ℕ) ℕ) → Progress
with_more r bytes part later = with_texts r.texts (with_taken r.taken (with_taken bytes (progress (part ∷ rest_parts r.parts) later)))

-- the answer is taken
abbrev pub with_answer : Reached → Result (List ℕ) ℕ → List (Result (List ℕ) ℕ) → Progress
with_answer r answer later = reached_progress r (answer ∷ later)
