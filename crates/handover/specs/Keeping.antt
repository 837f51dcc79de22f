-- What is kept of a history whose workers are replaced: a ledger of each worker, and those from which one was replaced.
use Rattle.std.specs.Prelude.{◌≡◌, ℕ, ◌<◌, Bool, true, false, List, [], ◌∷◌, Option, Some, None, length, get_or}
use Rattle.hist_model.specs.Kinds.{skips}
use Rattle.hist_model.specs.Look.{is_worker}
use Rattle.hist_model.specs.declared.event.Event.{Event}
use Rattle.worker_ledger.specs.Heard.{all_heard}
use Rattle.worker_ledger.specs.declared.ledger.Ledger.{Ledger}
use Rattle.handover.specs.Handing.{Handed, handed, worker_steps}
use Rattle.handover.specs.Ledgers.{taken, told_in}
use Rattle.handover.specs.declared.ledgers.Handover.{Handover}
use Rattle.handover.specs.declared.ledgers.Ledgers.{Ledgers}

-- ---- The ledgers

-- the ledger says how many steps the worker took, and what it was told in its session
pub record Keeps (K : List Event) (w : ℕ) (l : Ledger) : Type 0 where
  pub number : l.no ≡ w
  pub count : l.count ≡ taken K w
  pub told : all_heard l.own.items ≡ told_in K w

-- and so does the one of each worker
abbrev pub AllKeep : List Event → List Ledger → Type 0
AllKeep K ledgers = (w : ℕ) (d : Ledger) → w < length ledgers → Keeps K w (get_or ledgers w d)

abbrev pub handed_as : Handover → Handed
handed_as h = record { place = h.place; worker = h.worker; text = h.ledger.items }

abbrev pub all_handed : List Handover → List Handed
all_handed [] = []
all_handed (h ∷ more) = handed_as h ∷ all_handed more

-- these are the ledgers of a history's workers, and those from which workers were replaced in it
pub record AreLedgers (K : List Event) (l : Ledgers) : Type 0 where
  pub number : length l.ledgers.items ≡ 17
  pub keep : AllKeep K l.ledgers.items
  pub every : 0 < l.every
  pub steps : l.steps ≡ worker_steps K
  pub handed : all_handed l.handed.items ≡ handed l.every K

-- ---- The newest event

abbrev pub newest_of : List Event → Option Event
newest_of [] = None
newest_of (e ∷ K) = Some e

-- it is a skip
abbrev pub newest_skips : List Event → Bool
newest_skips [] = false
newest_skips (e ∷ K) = skips e.what

-- it is this worker's, and these are the ledgers before it
abbrev pub AreBehind : ℕ → List Event → Ledgers → Type 0
AreBehind w [] l = ⊥
AreBehind w (e ∷ K) l = (is_worker e.who w ≡ true) × AreLedgers K l
