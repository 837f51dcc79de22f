-- How a play of generated input ended, from how the top call ended over a sink in memory.
-- By cases on the status.
use Rattle.std.proofs.Common.{◌≡◌, ℕ, ◌≤◌, Bool, true, false, ◌&&◌, List, [], length, inl, inr, refl, sym, subst, arith, Option, None, Some}
use Rattle.std.specs.Prelude.{nat_le, nat_lt, if◌then◌else◌}
use Rattle.std.proofs.lemmas.Bool.{ltb-true, ltb-false}
use Rattle.io_edge.specs.FileState.{FileState}
use Rattle.io_edge.specs.SinkState.{SinkState}
use Rattle.broker_app.specs.Words.{Form, Stress}
use Rattle.broker_app.specs.Answers.{Answers, IsUsage}
use Rattle.play_words.specs.Generated.{StressEnds}
use Rattle.program_files.specs.declared.status.Status.{Status}
use Rattle.program_files.specs.declared.status.Status.TheVariants.{Done, Usage, WriteFault, NoMemory}
use Rattle.broker_c.proofs.Prefixes.{adds_whole}
use Rattle.broker_c.proofs.Ranges.{in_range, out_of_range}
use Rattle.broker_c.specs.Held.{empty_sink}
use Rattle.broker_c.specs.Outcomes.{BeginsSummary, IsCount, StressGives, settled}

-- a prefix of the summary was printed
begun : (from count : ℕ) (new : SinkState) (status : Status) → StressEnds from count empty_sink new status → BeginsSummary from count new.taken
begun from count new Done e = (e.0.0, adds_whole _ new.taken (e.0.1 refl))
begun from count new WriteFault e = (e.1.0, e.1.1 refl)
begun from count new NoMemory e = (e.0, e.1 refl)
begun from count new status e = absurd e

-- all that was printed fits
fitting : (from count room : ℕ) (failed : Bool) (new : SinkState) (status : Status) → IsCount count → length new.taken ≤ room → StressEnds from count empty_sink new status
    → StressGives from count room new.taken (settled false failed status)
fitting from count room failed new WriteFault counts le e = inr (begun from count new WriteFault e)
fitting from count room true new Done counts le e = inr (begun from count new Done e)
fitting from count room true new NoMemory counts le e = inr (begun from count new NoMemory e)
fitting from count room false new Done counts le e = (counts, (e.0.0, e.0.1 refl), le)
fitting from count room false new NoMemory counts le e = inr (begun from count new NoMemory e)
fitting from count room failed new status counts le e = absurd e

-- what is printed of input that has so many calls
counted : (from count room : ℕ) (failed : Bool) (new : SinkState) (status : Status) → IsCount count → StressEnds from count empty_sink new status
    → StressGives from count room new.taken (settled (nat_lt room (length new.taken)) failed status)
counted from count room failed new status counts e = by (nat_lt room (length new.taken)) refl
  where
    by : (over : Bool) → nat_lt room (length new.taken) ≡ over → StressGives from count room new.taken (settled over failed status)
    by true is = (counts, begun from count new status e, ltb-true room (length new.taken) is)
    by false is = fitting from count room failed new status counts (ltb-false room (length new.taken) is) e

-- nothing is printed where it can't have so many
uncounted : (from count room : ℕ) (over failed : Bool) (new : SinkState) (status : Status) → nat_lt room (length new.taken) ≡ over → ¬ (IsCount count) → IsUsage status → new.taken ≡ []
    → StressGives from count room new.taken (settled over failed status)
uncounted from count room true failed new Usage is counts usage nothing = let over = ltb-true room (length new.taken) is in absurd (grind arith)
uncounted from count room false true new Usage is counts usage nothing = inl nothing
uncounted from count room false false new Usage is counts usage nothing = (counts, nothing)
uncounted from count room over failed new status is counts usage nothing = absurd usage

-- the form that asks for so many calls, if there can be so many
abbrev form_of : ℕ → ℕ → Option Form
form_of from count = if nat_le 1 count && nat_le count 4000 then Some (Stress from count) else None

-- by whether the count is in range
by_count : (from count room : ℕ) (failed : Bool) (files after : FileState) (new : SinkState) (status : Status) → Answers (form_of from count) files after empty_sink new status
    → StressGives from count room new.taken (settled (nat_lt room (length new.taken)) failed status)
by_count from count room failed files after new status answers = by (nat_le 1 count && nat_le count 4000) refl answers
  where
    by : (within : Bool) → (nat_le 1 count && nat_le count 4000) ≡ within → Answers (if within then Some (Stress from count) else None) files after empty_sink new status
        → StressGives from count room new.taken (settled (nat_lt room (length new.taken)) failed status)
    by true is e = counted from count room failed new status (in_range 4000 count is) e
    by false is e = uncounted from count room (nat_lt room (length new.taken)) failed new status refl (out_of_range 4000 count is) e.0 (e.1 refl)

-- what the play of generated input gave
pub stress_gives : (from count room : ℕ) (printed : List ℕ) (failed : Bool) (form : Option Form) (files after : FileState) (old new : SinkState) (ended status : Status)
    → form ≡ form_of from count → old ≡ empty_sink → Answers form files after old new ended
    → printed ≡ new.taken → status ≡ settled (nat_lt room (length new.taken)) failed ended → StressGives from count room printed status
stress_gives from count room printed failed form files after old new ended status asked empty e taken told =
    let begin : Answers form files after empty_sink new ended = subst (λ sink. Answers form files after sink new ended) empty e in
    let gives = by_count from count room failed files after new ended (subst (λ f. Answers f files after empty_sink new ended) asked begin) in
    subst (λ text. StressGives from count room text status) (sym taken) (subst (λ s. StressGives from count room new.taken s) (sym told) gives)
