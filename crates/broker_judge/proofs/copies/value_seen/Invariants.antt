-- The bytes so far stand before what comes of those that are left.
use Rattle.std.proofs.Common.{◌≡◌, ℕ, ◌-◌, ◌^◌, ◌<◌}
use Rattle.hist_model.specs.Copies.{further}
use Rattle.broker_verdict.specs.SeatCopies.{Seen, value_seen}
use Rattle.broker_judge.specs.Copied.{seen_at}
use Rattle.broker_judge.proofs.Known.{led_all}
use Rattle.broker_judge.proofs.copies.value_seen.Given as goal

abbrev pub invariant-loop-place : goal.invariant-loop-place
invariant-loop-place l =
    (byte : ℕ → Seen) (addr : ℕ) → addr < 2 ^ 64 → ((i : ℕ) → i < l.size → seen_at l.seen i ≡ byte (further addr i))
    → value_seen byte l.size addr ≡ led_all l.value.items (value_seen byte (l.size - l.place) (further addr l.place))
