-- The bytes so far stand before what comes of those that are left.
use Rattle.std.proofs.Common.{◌≡◌, ℕ, ◌-◌, ◌^◌, ◌<◌}
use Rattle.hist_model.specs.Copies.{further}
use Rattle.broker_verdict.specs.SeatCopies.{Seen, text_seen}
use Rattle.broker_judge.specs.Copied.{seen_at}
use Rattle.broker_judge.proofs.Known.{led_all}
use Rattle.broker_judge.proofs.copies.text_seen.Given as goal

abbrev pub invariant-loop-place : goal.invariant-loop-place
invariant-loop-place l =
    (byte : ℕ → Seen) (addr : ℕ) → addr < 2 ^ 64 → ((i : ℕ) → i < l.limit → seen_at l.seen i ≡ byte (further addr i))
    → text_seen byte l.fault l.limit addr ≡ led_all l.text.items (text_seen byte l.fault (l.limit - l.place) (further addr l.place))
