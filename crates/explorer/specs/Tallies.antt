-- The outcomes of some histories, each with the number of histories that have it, and with the schedule of the first of them.
use Rattle.std.specs.Prelude.{ℕ, ◌+◌, Bool, if◌then◌else◌, bytes_eq, nat_le, List, [], ◌∷◌, reverse, sum_by, Option, Some, None}
use Rattle.hist_model.specs.ReportAudit.{Judging}
use Rattle.hist_model.specs.ScriptRules.{steps_of}
use Rattle.hist_model.specs.declared.event.Event.{Event}
use Rattle.hist_model.specs.declared.script.Script.{Script}
use Rattle.hist_model.specs.declared.script.Step.{Step}
use Rattle.outcome_text.specs.Outcomes.{result_of}
use Rattle.delay_bounded.specs.Schedules.{schedule_of}

-- the most steps that a script may schedule
abbrev pub most_steps : ℕ
most_steps = 200000

-- lines of a schedule, the oldest first, from those with the newest first; none where they have too many steps
abbrev pub schedulable : List Step → Option (List Step)
schedulable steps = if nat_le (steps_of steps) most_steps then Some (reverse steps) else None

-- the schedule with which a script plays a history, the oldest line first; none where it can't schedule so many steps
abbrev pub playing : List Event → Option (List Step)
playing H = schedulable (schedule_of H)

-- an outcome: what it is, how many histories have it, and the schedule of the first of them
pub record CountedOutcome : Type 0 where
  pub text : List ℕ
  pub histories : ℕ
  pub schedule : Option (List Step)

-- the outcome has this text
abbrev pub has_text : List ℕ → CountedOutcome → Bool
has_text text o = bytes_eq o.text text

-- how many histories some outcomes have together
abbrev pub counted : List CountedOutcome → ℕ
counted found = sum_by (λ (o : CountedOutcome). o.histories) found

-- the outcome of one history
abbrev pub of_one : Script → Judging → List Event → CountedOutcome
of_one S J H = record { text = result_of S J H; histories = 1; schedule = playing H }

-- with so many histories more
abbrev pub with_more : CountedOutcome → ℕ → CountedOutcome
with_more o n = record { text = o.text; histories = o.histories + n; schedule = o.schedule }

-- outcomes with another one: its histories are added to those of the one with its text, or it stands behind them all
abbrev pub added : CountedOutcome → List CountedOutcome → List CountedOutcome
added o [] = o ∷ []
added o (p ∷ more) = if has_text o.text p then with_more p o.histories ∷ more else p ∷ added o more

-- outcomes with others, one after another
unfoldable pub merged : List CountedOutcome → List CountedOutcome → List CountedOutcome
merged found [] = found
merged found (o ∷ more) = merged (added o found) more

-- the outcomes of histories of a script, in the order of their first ones, beside those that were found before
unfoldable pub tallied : Script → Judging → List CountedOutcome → List (List Event) → List CountedOutcome
tallied S J found [] = found
tallied S J found (H ∷ more) = tallied S J (added (of_one S J H) found) more

-- the outcomes of histories, in the order of their first ones
abbrev pub outcomes : Script → Judging → List (List Event) → List CountedOutcome
outcomes S J histories = tallied S J [] histories
