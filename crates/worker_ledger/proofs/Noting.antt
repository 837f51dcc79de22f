-- An answer that joins those of a session stands behind them.
-- By cases on whether there is a session.
use Rattle.std.proofs.Common.{◌≡◌, List, [], ◌∷◌, ◌++◌, length, refl, arith}
use Rattle.worker_ledger.proofs.Parts.{heard_more}
use Rattle.worker_ledger.specs.Heard.{all_heard, heard}
use Rattle.worker_ledger.specs.Notes.{told_more}
use Rattle.worker_ledger.specs.declared.heard.Heard.{Heard}

pub joined_some : (own new : List Heard) (h : Heard) → (length own ≡ 0 → ⊥) → new ≡ own ++ (h ∷ []) → all_heard new ≡ told_more (heard h) (all_heard own)
joined_some [] new h some e = absurd (some refl)
joined_some (g ∷ own) new h some e = rw e (heard_more (g ∷ own) h)

pub joined_none : (own : List Heard) (h : Heard) → length own ≡ 0 → all_heard own ≡ told_more (heard h) (all_heard own)
joined_none [] h none = refl
joined_none (g ∷ own) h none = absurd (omega arith)
