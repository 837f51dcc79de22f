-- The ledgers of workers that are replaced while a history goes on, and those from which they were in the end.
use Rattle.std.specs.Prelude.{◌≡◌, ℕ, false, List, Option, Some, None, Vec, ⊤}
use Rattle.std.specs.Option.{option_map}
use Rattle.std.specs.declared.alloc.Global.{Global}
use Rattle.hist_model.specs.declared.event.Event.{Event}
use Rattle.handover.specs.Handing.{Handed, handed}
use Rattle.handover.specs.Keeping.{AreBehind, AreLedgers, all_handed}
use Rattle.handover.specs.declared.ledgers.Handover.{Handover}
use Rattle.handover.specs.declared.ledgers.Ledgers.{Ledgers}
use Rattle.worker_gate.specs.declared.keeper.LedgerKeeper.{LedgerKeeper}

-- ---- On the way

-- after how many steps of workers one is replaced, where any is
abbrev pub every_of : LedgerKeeper → Option ℕ
every_of k = option_map (λ (l : Ledgers). l.every) k.ledgers

-- these are the ledgers of the history's workers, where there are some
abbrev pub AreKept : List Event → Option Ledgers → Type 0
AreKept K None = ⊤
AreKept K (Some l) = AreLedgers K l

-- the newest event is this worker's, and these are the ledgers before it, where there are some
abbrev pub AreKeptBehind : ℕ → List Event → Option Ledgers → Type 0
AreKeptBehind w H None = ⊤
AreKeptBehind w H (Some l) = AreBehind w H l

-- the ledgers are those of the history, unless there was no memory to keep them up
abbrev pub KeepsUp : List Event → LedgerKeeper → Type 0
KeepsUp K k = k.is_lost ≡ false → AreKept K k.ledgers

-- ---- In the end

-- the ledgers from which workers are replaced in a history, where one is after each so many of their steps
abbrev pub handed_if : Option ℕ → List Event → Option (List Handed)
handed_if every K = option_map (λ n. handed n K) every

-- those that were kept
abbrev pub handed_in : Option (Vec Handover Global) → Option (List Handed)
handed_in kept = option_map (λ (v : Vec Handover Global). all_handed v.items) kept
