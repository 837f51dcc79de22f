-- An answer that a ledger keeps, as the worker was told it.
use Rattle.std.specs.Prelude.{◌≡◌, List, [], ◌∷◌, Option, Some, None}
use Rattle.broker_core.specs.Answers.{Answer, Received, Done, Bytes, Number, NotYet, Failed}
use Rattle.worker_ledger.specs.declared.heard.Heard.{Heard}
use Rattle.worker_ledger.specs.declared.heard.Heard.TheVariants as kept

abbrev pub heard : Heard → Answer
heard (kept.Notif notif) = Received notif
heard kept.Done = Done
heard (kept.Bytes bytes) = Bytes bytes.items
heard (kept.Number n) = Number n
heard (kept.Fault e) = Failed e

abbrev pub all_heard : List Heard → List Answer
all_heard [] = []
all_heard (h ∷ more) = heard h ∷ all_heard more

-- the answer is kept; one that hasn't come isn't
abbrev pub IsHeard : Answer → Option Heard → Type 0
IsHeard a (Some h) = heard h ≡ a
IsHeard a None = a ≡ NotYet
