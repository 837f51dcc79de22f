-- What is known of a source of files, and what its calls do to that.
use Rattle.std.specs.Prelude.{◌≡◌, ℕ, ◌+◌, ◌^◌, ◌<◌, ◌≤◌, ◌↔◌, Bool, true, List, [], ◌++◌, length, take, drop, Option, None, Some, IsSome}
use Rattle.std.specs.Prelude.{IsSomeAnd, Result, IsOk, IsErr, IfOk, OnOk, OnErr}
use Rattle.io_edge.specs.Faults.{Rose}

-- What is known of a source of files.
pub record FileState : Type 0 where
  -- whether it tells its bytes; where it doesn't, the bytes, the current file's name and what is left of it say nothing
  pub tells : Bool
  -- the bytes of the file of each name, if there is one
  pub bytes : List ℕ → Option (List ℕ)
  -- the current file's name, if there is a current file
  pub current : Option (List ℕ)
  -- the bytes of the current file that no read gave yet
  pub left : List ℕ
  -- how many bytes reads gave since the last `open`
  pub given : ℕ
  -- whether it tells its bytes and fails only where a name isn't there
  pub sound : Bool
  -- how often it failed
  pub faults : ℕ

-- No call changes the files, or whether they are told or sound, and no count falls.
pub record SameFiles (old new : FileState) : Type 0 where
  pub tells : new.tells ≡ old.tells
  pub bytes : new.bytes ≡ old.bytes
  pub sound : new.sound ≡ old.sound
  pub faults : old.faults ≤ new.faults

-- What `open` of this name did: it failed, and there is no current file, or the whole file is left.
pub record Opens {T E : Type 0} (old : FileState) (name : List ℕ) (result : Result T E) (new : FileState) : Type 0 where
  pub same : SameFiles old new
  pub cause : OnErr result (Rose old.faults new.faults)
  pub exact : old.sound ≡ true → (IsErr result ↔ (old.bytes name ≡ None))
  pub closed : OnErr result (new.current ≡ None)
  pub opened : OnOk result (IsSome new.current)
  pub named : OnOk result (old.tells ≡ true → new.current ≡ Some name)
  pub whole : OnOk result (old.tells ≡ true → old.bytes name ≡ Some new.left)
  pub given : new.given ≡ 0

-- What `read` into a buffer did, which held `buf` before and `filled` after: it failed, and the current file stands
-- where it stood, or n of its bytes are at the buffer's front, 0 of them only at the end or where there is no room.
pub record Reads {E : Type 0} (old : FileState) (buf : List ℕ) (result : Result ℕ E) (filled : List ℕ) (new : FileState) : Type 0 where
  pub same : SameFiles old new
  pub cause : OnErr result (Rose old.faults new.faults)
  pub exact : old.sound ≡ true → IsOk result
  pub current : new.current ≡ old.current
  pub bound : IfOk result (λ n. n ≤ length buf)
  pub enough : IfOk result (λ n. old.tells ≡ true → n ≤ length old.left)
  pub next : IfOk result (λ n. old.tells ≡ true → filled ≡ take n old.left ++ drop n buf)
  pub left : IfOk result (λ n. old.tells ≡ true → new.left ≡ drop n old.left)
  pub ends : IfOk result (λ n. n ≡ 0 → 0 < length buf → old.tells ≡ true → old.left ≡ [])
  pub given : IfOk result (λ n. old.given + n < 2 ^ 64 → new.given ≡ old.given + n)
  pub err_given : OnErr result (new.given ≡ old.given)
  pub err_left : OnErr result (old.tells ≡ true → new.left ≡ old.left)
  pub err_filled : OnErr result (old.tells ≡ true → filled ≡ buf)

-- What the reading of a file that is longer than a limit did: it read one byte more than the limit of it and no more, and opened no
-- file after it. How many bytes were read is known of every source, also of one that tells none of them.
pub record ReadsPast (limit : ℕ) (old : FileState) (name : List ℕ) (new : FileState) : Type 0 where
  pub given : new.given ≡ limit + 1
  pub named : old.tells ≡ true → new.current ≡ Some name
  pub longer : old.tells ≡ true → IsSomeAnd (old.bytes name) (λ bytes. limit < length bytes)
