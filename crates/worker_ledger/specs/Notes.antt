-- What a ledger says after one more answer, and what bytes are read as one.
use Rattle.std.specs.Prelude.{◌≡◌, ℕ, ◌+◌, ◌-◌, ◌<◌, ◌^◌, nat_lt, Bool, true, false, if◌then◌else◌, List, [], ◌∷◌, ◌++◌, Option, Some, None}
use Rattle.broker_core.specs.Answers.{Answer, Received, is_not_yet}
use Rattle.worker_ledger.specs.Heard.{all_heard}
use Rattle.worker_ledger.specs.Ledgers.{AreAnswers, ledger_text}
use Rattle.worker_ledger.specs.declared.ledger.Ledger.{Ledger}

abbrev pub is_received : Answer → Bool
is_received (Received notif) = true
is_received _ = false

-- an answer joins those of a session; without a session there is none
abbrev pub told_more : Answer → List Answer → List Answer
told_more a [] = []
told_more a (b ∷ own) = (b ∷ own) ++ (a ∷ [])

-- what a worker was told in its session after one more answer: a notification begins a session, and letting go ends it
abbrev pub noted : Bool → Answer → List Answer → List Answer
noted lets_go a own = if is_received a then a ∷ [] else (if lets_go then [] else told_more a own)

-- the count after one more answer, which stays at 2^64 - 1
abbrev pub next_count : ℕ → ℕ
next_count n = if nat_lt n (2 ^ 64 - 1) then n + 1 else n

-- the answer was noted; where there is none yet, nothing was
abbrev pub Notes : Bool → Answer → Ledger → Ledger → Type 0
Notes lets_go a old new =
    (new.count ≡ (if is_not_yet a then old.count else next_count old.count))
    × (all_heard new.own.items ≡ (if is_not_yet a then all_heard old.own.items else noted lets_go a (all_heard old.own.items)))

-- the ledger says the same
abbrev pub IsUnchanged : Ledger → Ledger → Type 0
IsUnchanged old new = (new.count ≡ old.count) × (all_heard new.own.items ≡ all_heard old.own.items)

-- the ledger of this worker has this text, and no other ledger has
pub record HasText (bytes : List ℕ) (w : ℕ) (l : Ledger) : Type 0 where
  pub number : l.no ≡ w
  pub small : l.count < 2 ^ 64
  pub told : AreAnswers (all_heard l.own.items)
  pub text : bytes ≡ ledger_text w l.count (all_heard l.own.items)
  pub only : (count : ℕ) (own : List Answer) → count < 2 ^ 64 → AreAnswers own → bytes ≡ ledger_text w count own
      → (l.count ≡ count) × (all_heard l.own.items ≡ own)

-- the ledger that bytes are the text of, if they are one's
abbrev pub IsReadAs : List ℕ → ℕ → Option Ledger → Type 0
IsReadAs bytes w (Some l) = HasText bytes w l
IsReadAs bytes w None = (count : ℕ) (own : List Answer) → count < 2 ^ 64 → AreAnswers own → bytes ≡ ledger_text w count own → ⊥
