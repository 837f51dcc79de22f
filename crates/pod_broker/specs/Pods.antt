-- Containers beside each other: what is a container's own in its history, the PIDs that it gives, and when two share none.
use Rattle.std.specs.Prelude.{◌≡◌, ◌↔◌, ℕ, ◌+◌, Bool, true, false, ◌&&◌, ◌||◌, nat_le, nat_lt, List, [], ◌∷◌, drop, reverse, Result, Err}
use Rattle.std.specs.List.{AllPairs}
use Rattle.hist_model.specs.Legal.{Legal}
use Rattle.hist_model.specs.Mediated.{Each}
use Rattle.hist_model.specs.Tasks.{given, is_some_of}
use Rattle.hist_model.specs.declared.event.Actor.{Actor}
use Rattle.hist_model.specs.declared.event.Event.{Event}
use Rattle.hist_model.specs.declared.event.What.TheVariants.{Signal}
use Rattle.hist_model.specs.declared.policy.Policy.{Policy}
use Rattle.hist_model.specs.declared.script.Script.{Script}
use Rattle.mediation.specs.Journals.{actors}
use Rattle.sys_abi.specs.Errnos.{esrch}

-- ---- a container's own steps

-- who took the steps of a history, the oldest first, without the start
abbrev pub own : List Event → List Actor
own K = drop 1 (reverse (actors K))

-- legal histories of the policy and the script in which the same actors step in the same order are one
abbrev pub FixedByOwn : Policy → Script → Type 0
FixedByOwn P S = (K L : List Event) → Legal P S K → Legal P S L → own K ≡ own L → K ≡ L

-- ---- PIDs

-- a spawn of the history gave this number
abbrev pub was_given : List Event → ℕ → Bool
was_given [] p = false
was_given (e ∷ K) p = is_some_of (given e.what) p || was_given K p

-- no number that was given in the one was given in the other
abbrev pub Apart : List Event → List Event → Type 0
Apart K L = (p : ℕ) → was_given K p ≡ true → was_given L p ≡ false

-- the number lies in the script's range: those from pidbase + 1 to pidbase + pidmax
abbrev pub in_range : Script → ℕ → Bool
in_range S p = nat_lt S.pidbase p && nat_le p (S.pidbase + S.pidmax)

-- the ranges of two scripts share a number
abbrev pub overlap : Script → Script → Bool
overlap S T = nat_lt S.pidbase (T.pidbase + T.pidmax) && nat_lt T.pidbase (S.pidbase + S.pidmax)

-- that is so exactly where some number lies in both
abbrev pub OverlapIsShared : Script → Script → Type 0
OverlapIsShared S T = (overlap S T ≡ true) ↔ ((p : ℕ) × (in_range S p ≡ true) × (in_range T p ≡ true))

-- each number that a legal history gives lies in the script's range
abbrev pub GivesInRange : Policy → Script → Type 0
GivesInRange P S = (K : List Event) → Legal P S K → (p : ℕ) → was_given K p ≡ true → in_range S p ≡ true

-- where the ranges share no number, whatever two histories of the scripts gave is apart
abbrev pub RangesSetApart : Policy → Script → Policy → Script → Type 0
RangesSetApart P S Q T = overlap S T ≡ false → (K L : List Event) → Legal P S K → Legal Q T L → Apart K L

-- no two of the scripts' ranges overlap
abbrev pub NoneOverlap : List Script → Type 0
NoneOverlap = AllPairs (λ S T. overlap S T ≡ false)

-- no two of the histories give a common PID
abbrev pub AllApart : List (List Event) → Type 0
AllApart = AllPairs Apart

-- a signal to a number outside of the script's range is answered ESRCH
abbrev pub ReachesNoneOutside : Script → List Event → Event → Type 0
ReachesNoneOutside S K e =
    (p sig : ℕ) (answer : Result (Unit {0}) ℕ) → e.what ≡ Signal p sig answer → in_range S p ≡ false → answer ≡ Err esrch

-- a signal to a number of the other script's range is answered ESRCH
abbrev pub ReachesNoneOf : Script → List Event → Event → Type 0
ReachesNoneOf T K e = (p sig : ℕ) (answer : Result (Unit {0}) ℕ) → e.what ≡ Signal p sig answer → in_range T p ≡ true → answer ≡ Err esrch

abbrev pub KillsInside : Policy → Script → Type 0
KillsInside P S = (K : List Event) → Legal P S K → Each (ReachesNoneOutside S) K

abbrev pub KillsNoneBeside : Policy → Script → Script → Type 0
KillsNoneBeside P S T = overlap S T ≡ false → (K : List Event) → Legal P S K → Each (ReachesNoneOf T) K
