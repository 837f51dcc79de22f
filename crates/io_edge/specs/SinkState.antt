-- What is known of a sink, and what a write and a flush do to that.
use Rattle.std.specs.Prelude.{◌≡◌, ℕ, ◌≤◌, Bool, true, false, List, ◌++◌, length, take, Result, OnOk, OnErr}
use Rattle.io_edge.specs.Faults.{Rose}

-- What is known of a sink.
pub record SinkState : Type 0 where
  -- whether it tells its bytes; where it doesn't, the bytes taken say nothing
  pub tells : Bool
  -- the bytes that it took
  pub taken : List ℕ
  -- how often it failed
  pub faults : ℕ
  -- whether it took something since the last good flush that may not stand yet where it belongs
  pub pending : Bool

-- A prefix of this piece was added.
abbrev pub AddsPrefix : List ℕ → List ℕ → List ℕ → Type 0
AddsPrefix old piece new = (n : ℕ) × (n ≤ length piece) × (new ≡ old ++ take n piece)

-- What `write` of this piece did: it took the whole piece, or failed after a prefix of it.
pub record Writes {T E : Type 0} (old : SinkState) (piece : List ℕ) (result : Result T E) (new : SinkState) : Type 0 where
  pub tells : new.tells ≡ old.tells
  pub faults : old.faults ≤ new.faults
  pub cause : OnErr result (Rose old.faults new.faults)
  pub whole : OnOk result (old.tells ≡ true → new.taken ≡ old.taken ++ piece)
  pub part : OnErr result (old.tells ≡ true → AddsPrefix old.taken piece new.taken)

-- What `flush` did: what was taken stands, or it failed. It takes nothing.
pub record Flushes {T E : Type 0} (old : SinkState) (result : Result T E) (new : SinkState) : Type 0 where
  pub tells : new.tells ≡ old.tells
  pub faults : old.faults ≤ new.faults
  pub cause : OnErr result (Rose old.faults new.faults)
  pub taken : old.tells ≡ true → new.taken ≡ old.taken
  pub stands : OnOk result (new.pending ≡ false)
