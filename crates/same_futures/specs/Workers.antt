-- A worker after two histories, as far as its next step can tell.
use Rattle.std.specs.Prelude.{◌≡◌, ◌⊎◌, ℕ, false, List, Option, Some, None}
use Rattle.hist_model.specs.Files.{files}
use Rattle.hist_model.specs.Legal.{is_open_session}
use Rattle.hist_model.specs.Sessions.{session}
use Rattle.hist_model.specs.Steps.{mem}
use Rattle.hist_model.specs.declared.event.Event.{Event}
use Rattle.hist_model.specs.declared.event.What.{What}
use Rattle.hist_model.specs.declared.script.Script.{Script}
use Rattle.history_frames.specs.Ordinals.{group_of}
use Rattle.same_futures.specs.Groups.{SameBytes}

-- the memories that are open are of the groups of one ordinal, which have the same bytes; or none is open
abbrev pub IsSameMemory : Script → List Event → List Event → Option ℕ → Option ℕ → Type 0
IsSameMemory S K L (Some g) (Some h) = (o : ℕ) × (group_of K o ≡ Some g) × (group_of L o ≡ Some h) × SameBytes S K L g h
IsSameMemory S K L None None = Unit {0}
IsSameMemory S K L _ _ = ⊥

-- the sessions have the same steps, or both are over
abbrev pub IsSameSession : List What → List What → Type 0
IsSameSession own other = (other ≡ own) ⊎ ((is_open_session own ≡ false) × (is_open_session other ≡ false))

-- the worker has the same base, a memory with the same bytes, and the same session
pub record SameWorker (S : Script) (K L : List Event) (w : ℕ) : Type 0 where
  pub base : (files S L).base w ≡ (files S K).base w
  pub memory : IsSameMemory S K L (mem K w) (mem L w)
  pub session : IsSameSession (session K w) (session L w)
