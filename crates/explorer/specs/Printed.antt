-- What is printed of the explored histories: how many there are, and each outcome with the schedule of its first history.
use Rattle.std.specs.Prelude.{◌≡◌, ◌⊎◌, ℕ, ◌+◌, Bool, true, false, List, [], ◌∷◌, ◌++◌, length, Option, Some, None, codes, decimal}
use Rattle.std.specs.List.{flat_map}
use Rattle.hist_model.specs.ReportAudit.{judging_by}
use Rattle.hist_model.specs.ReportWords.{name_text}
use Rattle.hist_model.specs.declared.event.Actor.{Actor}
use Rattle.hist_model.specs.declared.event.Actor.TheVariants.{Task, Worker}
use Rattle.hist_model.specs.declared.event.Event.{Event}
use Rattle.hist_model.specs.declared.policy.Policy.{Policy}
use Rattle.hist_model.specs.declared.script.Script.{Script}
use Rattle.hist_model.specs.declared.script.Step.{Step}
use Rattle.long_count.specs.Texts.{decimal_of}
use Rattle.explorer.specs.Taken.{all_events, event_limit, longest, none_left, taken}
use Rattle.explorer.specs.Tallies.{CountedOutcome, outcomes}

-- ---- A schedule

-- an actor as a schedule names it
abbrev pub actor_words : Actor → List ℕ
actor_words (Task n) = codes "t " ++ name_text n
actor_words (Worker w) = codes "w " ++ decimal w
actor_words _ = []

-- a line of a schedule
abbrev pub step_line : Step → List ℕ
step_line s = actor_words s.who ++ codes " " ++ decimal s.count ++ codes "\n"

-- the block with which a script plays the first history of an outcome
abbrev pub schedule_block : Option (List Step) → List ℕ
schedule_block None = codes "schedule too long\n"
schedule_block (Some steps) = codes "schedule\n" ++ flat_map step_line steps ++ codes "end\n"

-- ---- The outcomes

-- a text, or `none` in place of an empty one
abbrev pub or_none : List ℕ → List ℕ
or_none [] = codes "none\n"
or_none (b ∷ text) = b ∷ text

-- an outcome with its number
abbrev pub outcome_block : ℕ → CountedOutcome → List ℕ
outcome_block n o =
    codes "outcome " ++ decimal n ++ codes " histories=" ++ decimal_of o.histories ++ codes "\n"
    ++ or_none o.text ++ schedule_block o.schedule

-- the outcomes, numbered from n on
unfoldable pub blocks : ℕ → List CountedOutcome → List ℕ
blocks n [] = []
blocks n (o ∷ more) = outcome_block n o ++ blocks (n + 1) more

-- ---- In all

-- the bound of delays, or `all` where there is none
abbrev pub delays_word : Option ℕ → List ℕ
delays_word (Some delays) = decimal delays
delays_word None = codes "all"

-- with these delays: `no` where a history is left; where none is, `yes` without a bound, and `bound` of those within one
abbrev pub whole_word : Option ℕ → Bool → List ℕ
whole_word delays false = codes "no"
whole_word None true = codes "yes"
whole_word (Some delays) true = codes "bound"

-- the last worker and the bound of delays
abbrev pub bounds_words : ℕ → Option ℕ → List ℕ
bounds_words workers delays = codes "explored workers=" ++ decimal workers ++ codes " delays=" ++ delays_word delays

-- how many histories there are, how many events they have together, how many the longest has, and how many outcomes there are
abbrev pub counts_words : ℕ → ℕ → ℕ → ℕ → List ℕ
counts_words histories events longest found =
    codes " histories=" ++ decimal_of histories ++ codes " events=" ++ decimal_of events ++ codes " longest=" ++ decimal longest
    ++ codes " outcomes=" ++ decimal found

-- the first line: the bounds, the counts, and whether no history is left
abbrev pub counts_line : ℕ → Option ℕ → ℕ → ℕ → ℕ → ℕ → Bool → List ℕ
counts_line workers delays histories events longest found whole =
    bounds_words workers delays ++ counts_words histories events longest found ++ codes " whole=" ++ whole_word delays whole ++ codes "\n"

-- what is told of these histories
abbrev pub told : Policy → Script → ℕ → Option ℕ → List (List Event) → Bool → List ℕ
told P S workers delays histories whole =
    counts_line workers delays (length histories) (all_events histories)
    (longest histories) (length (outcomes S (judging_by P.rules) histories)) whole
    ++ blocks 1 (outcomes S (judging_by P.rules) histories)

-- what is printed of the histories of a list, which are those of a script by workers up to a last one and within a bound of delays or
-- none: what is told of all of them; or, where one is left, of the first, as long as fewer events than the limit were explored before
abbrev pub IsPrinted : Policy → Script → ℕ → Option ℕ → List (List Event) → List ℕ → Type 0
IsPrinted P S workers delays histories text =
    (text ≡ told P S workers delays histories true)
    ⊎ ((none_left event_limit histories ≡ false) × (text ≡ told P S workers delays (taken event_limit histories) false))
