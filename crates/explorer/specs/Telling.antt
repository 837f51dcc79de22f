-- What is told of the explored histories, and what exploring more of them comes to.
use Rattle.std.specs.Prelude.{◌≡◌, ◌⊎◌, ℕ, zero, suc, ◌+◌, ◌-◌, ◌<◌, ◌≤◌, Bool, true, false, List, [], ◌∷◌, ◌++◌, length}
use Rattle.std.specs.Prelude.{get_or, map, filter, sum_by}
use Rattle.hist_model.specs.ReportAudit.{judging_by}
use Rattle.hist_model.specs.declared.event.Event.{Event}
use Rattle.hist_model.specs.declared.policy.Policy.{Policy}
use Rattle.hist_model.specs.declared.script.Script.{Script}
use Rattle.delay_bounded.specs.Explored.{Walk, closed, explored, is_spent, with_left}
use Rattle.explorer.specs.Taken.{all_events, event_limit, longest, none_left, taken}
use Rattle.explorer.specs.Tallies.{outcomes}
use Rattle.explorer.specs.declared.by_delays.ByDelays.{ByDelays}
use Rattle.explorer.specs.declared.by_states.Joined.{Joined}
use Rattle.explorer.specs.declared.by_states.Joined.TheVariants.{TooMany as TooManyStates, Whole as WholeByStates}
use Rattle.explorer.specs.declared.exploring.Exploration.{Exploration}
use Rattle.explorer.specs.declared.one_by_one.Explored.{Explored}
use Rattle.explorer.specs.declared.one_walk.Attempt.{Attempt}
use Rattle.explorer.specs.declared.one_walk.Attempt.TheVariants.{TooMany, Whole}
use Rattle.explorer.specs.declared.tally.Tally.{Tally}

-- what is told is so of these histories
pub record TellsOf (P : Policy) (S : Script) (L : List (List Event)) (t : Tally) : Type 0 where
  pub histories : t.histories ≡ length L
  pub events : t.events ≡ all_events L
  pub longest_is : t.longest ≡ longest L
  pub each_has_events : t.histories ≤ t.events
  pub outcomes_are : t.outcomes.items ≡ outcomes S (judging_by P.rules) L

-- ---- Of all walks within a bound, by their delays

-- what is told is so of the histories of these walks with each number of delays; and none has a number of which nothing is told
pub record TellsBy (P : Policy) (S : Script) (ws : List Walk) (b : ByDelays) : Type 0 where
  pub tells : (d : ℕ) (t : Tally) → d < length b.tallies.items → TellsOf P S (with_left P S (b.bound - d) ws) (get_or b.tallies.items d t)
  pub none_else : (d : ℕ) → length b.tallies.items ≤ d → d ≤ b.bound → with_left P S (b.bound - d) ws ≡ []
  pub within : length b.tallies.items ≤ b.bound + 1
  pub events : b.events ≡ sum_by (λ (t : Tally). t.events) b.tallies.items

-- something is told of this number of delays, and all that was told is so still
pub record IsReady (d : ℕ) (old new : ByDelays) : Type 0 where
  pub told : d < length new.tallies.items
  pub tells : (P : Policy) (S : Script) (ws : List Walk) → TellsBy P S ws old → TellsBy P S ws new
  pub bound_is : new.bound ≡ old.bound
  pub events_are : new.events ≡ old.events

-- what is told is so of all explored histories, which have fewer events than the limit; or the script is back
abbrev pub TellsAll : Policy → Script → ℕ → ℕ → Attempt → Type 0
TellsAll P S W d (Whole t) = TellsOf P S (explored P S W d) t × (t.events < event_limit)
TellsAll P S W d (TooMany script) = script ≡ S

-- ---- Of one number of delays after another

-- the histories of those walks that have all their delays
abbrev pub histories_of : Policy → Script → List Walk → List (List Event)
histories_of P S walks = map (closed P S) (filter is_spent walks)

-- these histories were explored after others, as long as there were fewer events than the limit; and whether none of them is left
pub record Explores (P : Policy) (S : Script) (more : List (List Event)) (old : Tally) (whole : Bool) (new : Tally) : Type 0 where
  pub tells : (L : List (List Event)) → TellsOf P S L old → TellsOf P S (L ++ taken (event_limit - old.events) more) new
  pub whole_is : whole ≡ none_left (event_limit - old.events) more

-- what is told after a walk: its history was noted, where it had all its delays; or no other history is explored
abbrev pub Notes : Policy → Script → Walk → Tally → Bool → Tally → Type 0
Notes P S w old goes_on new = (whole : Bool) (end : Tally) (rest : List Walk)
    → (goes_on ≡ true → Explores P S (histories_of P S rest) new whole end) → (goes_on ≡ false → (whole ≡ false) × (end ≡ new))
    → Explores P S (histories_of P S (w ∷ rest)) old whole end

-- the histories with fewer delays
abbrev pub with_fewer : Policy → Script → ℕ → ℕ → List (List Event)
with_fewer P S W zero = []
with_fewer P S W (suc d) = explored P S W d

-- what is told of those with fewer delays, of which none is left
pub record IsSoFar (P : Policy) (S : Script) (W d : ℕ) (t : Tally) : Type 0 where
  pub tells : TellsOf P S (with_fewer P S W d) t
  pub none_is_left : none_left event_limit (with_fewer P S W d) ≡ true

-- ---- In the end

-- what is told of the first of these histories, as long as fewer events than the limit were explored before
pub record TellsFirst (P : Policy) (S : Script) (L : List (List Event)) (x : Explored) : Type 0 where
  pub histories : x.histories ≡ length (taken event_limit L)
  pub events : x.events ≡ all_events (taken event_limit L)
  pub longest_is : x.longest ≡ longest (taken event_limit L)
  pub whole_is : x.whole ≡ none_left event_limit L
  pub outcomes_are : x.outcomes.items ≡ outcomes S (judging_by P.rules) (taken event_limit L)

-- what is told of these histories, and whether no other one is left
pub record Tells (P : Policy) (S : Script) (L : List (List Event)) (whole : Bool) (x : Exploration) : Type 0 where
  pub histories : x.histories ≡ length L
  pub events : x.events ≡ all_events L
  pub longest_is : x.longest ≡ longest L
  pub whole_is : x.whole ≡ whole
  pub outcomes_are : x.outcomes.items ≡ outcomes S (judging_by P.rules) L

-- joined by the states to which they come, all explored histories are told; or there are too many states, and the script is back
abbrev pub TellsJoined : Policy → Script → ℕ → ℕ → Joined → Type 0
TellsJoined P S W d (WholeByStates x) = Tells P S (explored P S W d) true x
TellsJoined P S W d (TooManyStates script) = script ≡ S

-- all of these histories are told, or the first of them
abbrev pub TellsEither : Policy → Script → List (List Event) → Exploration → Type 0
TellsEither P S L x = Tells P S L true x ⊎ Tells P S (taken event_limit L) (none_left event_limit L) x
