-- What rows of the judge's tables become, one by one.
use Rattle.std.specs.Prelude.{◌≡◌, ℕ, ◌+◌, ◌-◌, ◌%◌, ◌^◌, ◌<◌, Bool, false, ◌&&◌, ◌||◌, not, if◌then◌else◌, ◌==◌}
use Rattle.std.specs.Prelude.{List, [], ◌∷◌, slice_get, All, Option, Some, None, is_some, Result, ℤ, pos, negsuc}
use Rattle.std.specs.List.{find, list_any}
use Rattle.hist_model.specs.Look.{is_place}
use Rattle.hist_model.specs.declared.script.Script.{Script}
use Rattle.broker_judge.specs.declared.reads.Worth.TheVariants.{Foreign}
use Rattle.judge_pass.specs.declared.calls.Call.{Call}
use Rattle.judge_pass.specs.declared.calls.Queued.{Queued}
use Rattle.judge_pass.specs.declared.directories.OpenDirectory.{OpenDirectory}
use Rattle.judge_pass.specs.declared.done.Put.{Put}
use Rattle.judge_pass.specs.declared.seats.Seat.{Seat}

-- ---- calls

-- the call waits for an answer
abbrev pub is_unanswered : Call → Bool
is_unanswered call = call.is_listed && not (call.is_settled || list_any (λ q. q.has_send) call.queue.items)

-- the call was received, and waits for an answer
abbrev pub waits : Call → Bool
waits call = call.is_listed && (is_some call.fetcher && not (call.is_settled || list_any (λ q. q.has_send) call.queue.items))

-- the oldest of the requests, whether it has SEND, and the others
abbrev pub first_effect : List Queued → Option ℕ
first_effect [] = None
first_effect (q ∷ qs) = Some q.effect

abbrev pub first_sends : List Queued → Bool
first_sends [] = false
first_sends (q ∷ qs) = q.has_send

abbrev pub behind_first : List Queued → List Queued
behind_first [] = []
behind_first (q ∷ qs) = qs

-- how many calls were entered before the one with this id, modulo 2^64
abbrev pub number_of : ℕ → ℕ → ℕ
number_of first id = (id + (2 ^ 64 - first)) % 2 ^ 64

abbrev pub is_listed_row : Option Call → Bool
is_listed_row (Some call) = call.is_listed
is_listed_row None = false

-- the number of the listed call with this id
abbrev pub number_named : ℕ → List Call → ℕ → Option ℕ
number_named first rows id = if is_listed_row (slice_get rows (number_of first id)) then Some (number_of first id) else None

-- ---- effects

abbrev pub with_installed : Result ℕ ℕ → Put → Put
with_installed answer put = record put { installed = Some answer }

-- the call that the id of a request named
abbrev pub call_put : Option Put → Option ℕ
call_put (Some put) = put.call
call_put None = None

-- ---- directories

-- the row is of this number of a group
abbrev pub is_row : ℕ → ℕ → OpenDirectory → Bool
is_row g n row = (row.group == g) && (row.number == n)

abbrev pub node_in : Option OpenDirectory → Option ℕ
node_in (Some row) = Some row.node.ordinal
node_in None = None

-- the directory to which the first of these rows leads that is of this number of a group
unfoldable pub row_named : List OpenDirectory → ℕ → ℕ → Option ℕ
row_named rows g n = node_in (find (is_row g n) rows)

-- the directory to which a descriptor of a group leads: AT_FDCWD to the container's root
abbrev pub dirfd_named : Script → List OpenDirectory → ℕ → ℤ → Option ℕ
dirfd_named S rows g (pos n) = row_named rows g n
dirfd_named S rows g (negsuc n) = if n == 99 then Some S.root.ordinal else None

-- the groups of the rows are some of so many
abbrev pub AreMade : ℕ → List OpenDirectory → Type 0
AreMade groups rows = All (λ row. row.group < groups) rows

-- ---- seats

abbrev pub hand_in : Option Seat → Option ℕ
hand_in (Some seat) = seat.call
hand_in None = None

-- the seat of a worker has the call in hand
abbrev pub holds_call : List Seat → Option ℕ → ℕ → Bool
holds_call seats (Some w) call = is_place (hand_in (slice_get seats w)) call
holds_call seats None call = false

-- nothing was done or read yet for the call that the seat has in hand, if it has one
pub record Begins (place : ℕ) (call : Option ℕ) (seat : Seat) : Type 0 where
  pub call_is : seat.call ≡ call
  pub place_is : seat.received_at ≡ place
  pub no_reads : seat.reads.items ≡ []
  pub no_places : seat.read_at.items ≡ []
  pub none_followed : seat.followed ≡ 0
  pub unchecked : seat.is_checked ≡ false
  pub no_effect : seat.effect ≡ None
  pub unsent : seat.has_sent ≡ false
  pub unrefused : seat.is_base_refused ≡ false
  pub base_worthless : seat.base_worth ≡ Foreign

-- what the seat has open stays
pub record KeepsHandles (old new : Seat) : Type 0 where
  pub memory_same : new.memory ≡ old.memory
  pub base_same : new.base ≡ old.base

-- nothing has happened to the seat
pub record IsIdle (seat : Seat) : Type 0 where
  pub begun : Begins 0 None seat
  pub no_memory : seat.memory ≡ None
  pub no_base : seat.base ≡ None

-- each of them is such a seat
abbrev pub AreIdle : List Seat → Type 0
AreIdle seats = All IsIdle seats
