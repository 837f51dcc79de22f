-- The events of a history so far, kept the oldest first, and seen the newest first.
-- By the library's lengths of reversed and of taken lists, and by `past_more` of `Scans`.
use Rattle.std.proofs.Common.{◌≡◌, ℕ, ◌+◌, ◌<◌, ◌≤◌, List, ◌∷◌, length, take, get_or, reverse, sym, ap, ◌∙◌, arith}
use Rattle.std.proofs.lemmas.List.{length-reverse, length-take}
use Rattle.hist_model.specs.ReportJournal.{event_line, journal_line}
use Rattle.hist_model.specs.declared.event.Event.{Event}
use Rattle.hist_model.proofs.Scans.{past_more as one_more}

-- one more event is past
pub past_more : (xs : List Event) (i : ℕ) (d : Event) → i < length xs → reverse (take (i + 1) xs) ≡ get_or xs i d ∷ reverse (take i xs)
past_more xs i d h = one_more xs i d h

-- so many events are past
pub length_taken : (xs : List Event) (i : ℕ) → i ≤ length xs → length (reverse (take i xs)) ≡ i
length_taken xs i h = simp (length-reverse, length-take) (omega arith)

-- the line of an event whose place was counted
pub counted_line : (xs : List Event) (i n : ℕ) (e : Event) → i ≤ length xs → n ≡ i → event_line n e ≡ journal_line (reverse (take i xs)) e
counted_line xs i n e h c = ap (λ m. event_line m e) (c ∙ sym (length_taken xs i h))
