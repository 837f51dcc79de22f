-- The states of a level: which histories were joined to each, and what they come to together with those that ended before.
use Rattle.std.specs.Prelude.{◌≡◌, ◌⊎◌, ℕ, suc, ◌+◌, ◌-◌, ◌<◌, ◌≤◌, ◌==◌, ◌^◌, Bool, true, false, if◌then◌else◌, List, [], ◌∷◌, ◌++◌}
use Rattle.std.specs.Prelude.{length, All, Contains, Option, Some, None, bytes_eq, count_by, get_or, map, option_map, sum_by}
use Rattle.std.specs.List.{flat_map}
use Rattle.hist_model.specs.Legal.{started}
use Rattle.hist_model.specs.ReportAudit.{judging_by}
use Rattle.hist_model.specs.declared.event.Event.{Event}
use Rattle.hist_model.specs.declared.policy.Policy.{Policy}
use Rattle.hist_model.specs.declared.script.Script.{Script}
use Rattle.hist_model.specs.declared.script.Step.{Step}
use Rattle.delay_bounded.specs.Circle.{able, at_place, is_able, places, with_turn}
use Rattle.delay_bounded.specs.Explored.{closed}
use Rattle.delay_bounded.specs.Laws.{IsWalked}
use Rattle.outcome_text.specs.Outcomes.{result_of}
use Rattle.explorer.specs.Bounds.{IsMore}
use Rattle.explorer.specs.Frames.{AreTurns, able_from, after, last_place}
use Rattle.explorer.specs.Joining.{keys_in}
use Rattle.explorer.specs.Keys.{GoesAlike, key_of}
use Rattle.explorer.specs.Paths.{AreTaken, Path, behind_turns, is_first, left_after, left_of, paths_of, paths_on}
use Rattle.explorer.specs.Runs.{IsRun, story}
use Rattle.explorer.specs.Taken.{all_events, longest}
use Rattle.explorer.specs.Tallies.{playing}
use Rattle.explorer.specs.declared.by_states.Found.{Found}
use Rattle.explorer.specs.declared.ends.End.{End}
use Rattle.explorer.specs.declared.ends.Ends.{Ends}
use Rattle.explorer.specs.declared.frames.Frame.{Frame}
use Rattle.explorer.specs.declared.level.Level.{Level}
use Rattle.explorer.specs.declared.run.Run.{Run}
use Rattle.explorer.specs.declared.run.Turn.{Turn}
use Rattle.explorer.specs.declared.state.Bound.{Bound}
use Rattle.explorer.specs.declared.state.State.{State}

-- the histories of all groups
abbrev pub all_in : List (List (List Frame)) → List (List Frame)
all_in groups = flat_map (λ ms. ms) groups

-- ---- A history that was joined, by its turns

module _ (P : Policy) (S : Script) (W : ℕ) (b : Bound) where
  abbrev pub events_of : List Frame → List Event
  events_of fs = after P S (started S) fs

  -- how many delays are left to it
  abbrev pub left_to : List Frame → ℕ
  left_to fs = left_after b.most fs

  pub record IsJoined (n : ℕ) (fs : List Frame) : Type 0 where
    pub turns : AreTurns P S W (started S) fs
    pub taken : AreTaken P S W 0 b.most (started S) fs
    pub count : length fs ≡ n
    pub within : left_to fs ≤ b.most

  -- it goes on as a run does that has this key
  pub record HasKey (n : ℕ) (key : List ℕ) (fs : List Frame) : Type 0 where
    pub run : Run
    pub at : IsRun P S (story run) run
    pub walked : IsWalked P S W (story run)
    pub as_long : length (story run) ≡ suc n
    pub key_is : key ≡ key_of P (last_place 0 fs) run
    pub alike : GoesAlike P S run (events_of fs)

  -- the first doesn't come after the second
  abbrev pub IsNoLater : List Frame → List Frame → Type 0
  IsNoLater fs gs = is_first (left_to gs) (map left_of gs) (left_to fs) (map left_of fs) ≡ false

  -- ---- A state, with the histories that were joined to it

  -- where those with so many delays left are counted
  abbrev pub slot_of : List Frame → ℕ
  slot_of fs = if b.is_meant then b.most - left_to fs else 0

  abbrev pub Counts : List ℕ → List (List Frame) → Type 0
  Counts counts ms = (i : ℕ) → get_or counts i 0 ≡ count_by (λ fs. slot_of fs == i) ms

  -- all histories of a state go on as the first does: it is alone, or they have one key
  abbrev pub GoOnAsOne : ℕ → List ℕ → List Frame → List (List Frame) → Type 0
  GoOnAsOne n key first ms = (ms ≡ first ∷ []) ⊎ All (HasKey n key) ms

  pub record IsState (n : ℕ) (key : List ℕ) (ms : List (List Frame)) (s : State) : Type 0 where
    pub joined : All (IsJoined n) ms
    pub alike : GoOnAsOne n key s.frames.items ms
    pub first : Contains ms s.frames.items
    pub left_is : s.left ≡ left_to s.frames.items
    pub none_before : All (IsNoLater s.frames.items) ms
    pub least : All (λ fs. s.least ≤ left_to fs) ms
    pub counts : Counts s.counts.items ms

  -- the states of a level, each with its key and its histories
  pub record AreStates (n : ℕ) (keys : List (List ℕ)) (groups : List (List (List Frame))) (states : List State) : Type 0 where
    pub as_many_keys : length keys ≡ length states
    pub as_many : length groups ≡ length states
    pub each : (i : ℕ) (s : State) → i < length states → IsState n (get_or keys i []) (get_or groups i []) (get_or states i s)

  -- the states to which histories of this length lead so far: all histories of a state go on as runs with its key
  pub record IsLevel (n : ℕ) (groups : List (List (List Frame))) (level : Level) : Type 0 where
    pub states : AreStates n (keys_in level) groups level.states.items
    pub keyed : (i : ℕ) → i < length groups → All (HasKey n (get_or (keys_in level) i [])) (get_or groups i [])

  -- ---- What they come to

  -- with k delays more than the bound: the paths that begin with these turns
  abbrev pub lefts_of : ℕ → List Frame → List ℕ
  lefts_of k fs = map (λ (f : Frame). f.left + k) fs

  abbrev pub paths_from : ℕ → List Frame → List Path
  paths_from k fs = map (behind_turns (lefts_of k fs)) (paths_on P S W (events_of fs) (last_place 0 fs) (left_to fs + k))

  -- the path that ends with these turns
  abbrev pub path_of : ℕ → List Frame → Path
  path_of k fs = record { lefts = lefts_of k fs; walk = record { left = left_to fs + k; events = events_of fs } }

  -- whatever is added up over all paths: it is what it comes to over those that ended, and over those that go on from these turns
  abbrev pub AddsUp : ℕ → List (List Frame) → List (List Frame) → Type 0
  AddsUp k done going = (h : Path → ℕ) → sum_by h (paths_of P S W (b.most + k))
      ≡ sum_by (λ fs. h (path_of k fs)) done + sum_by (λ fs. sum_by h (paths_from k fs)) going

  -- ---- What is told of those that ended

  -- the history with the close of the listener, the text of what it comes to, and the schedule that plays it
  abbrev pub closed_after : List Frame → List Event
  closed_after fs = closed P S (record { left = 0; events = events_of fs })

  abbrev pub text_after : List Frame → List ℕ
  text_after fs = result_of S (judging_by P.rules) (closed_after fs)

  abbrev pub schedule_after : List Frame → Option (List Step)
  schedule_after fs = playing (closed_after fs)

  abbrev pub comes_to : List ℕ → List Frame → Bool
  comes_to text fs = bytes_eq text (text_after fs)

  abbrev pub ends_with : List ℕ → End → Bool
  ends_with text e = bytes_eq text e.text.items

  -- the first of those that come to a text, and how many do
  pub record IsEnd (done : List (List Frame)) (e : End) : Type 0 where
    pub first : Contains done e.frames.items
    pub text_is : text_after e.frames.items ≡ e.text.items
    pub left_is : e.left ≡ left_to e.frames.items
    pub schedule_is : option_map (λ steps. steps.items) e.schedule ≡ schedule_after e.frames.items
    pub none_before : All (λ fs. text_after fs ≡ e.text.items → IsNoLater e.frames.items fs) done
    pub count_is : e.count ≡ count_by (comes_to e.text.items) done

  -- its turns were taken, and nobody is able to step after them
  pub record HasEnded (fs : List Frame) : Type 0 where
    pub taken : AreTaken P S W 0 b.most (started S) fs
    pub over : able P S W (events_of fs) (last_place 0 fs) ≡ []
    pub few : length (events_of fs) < 2 ^ 64

  pub record TellsEnds (done : List (List Frame)) (x : Ends) : Type 0 where
    pub ended : All HasEnded done
    pub histories : x.histories ≡ length done
    pub events : x.events ≡ all_events (map closed_after done)
    pub longest_is : x.longest ≡ longest (map closed_after done)
    pub each : All (IsEnd done) x.ends.items
    pub apart : (text : List ℕ) → count_by (ends_with text) x.ends.items ≤ 1
    pub none_else : All (λ fs. 0 < count_by (ends_with (text_after fs)) x.ends.items) done

  -- all of these histories have ended, are as long, and come to one text
  pub record EndAsOne (length_is : ℕ) (text : List ℕ) (ms : List (List Frame)) : Type 0 where
    pub ended : All HasEnded ms
    pub lengths : All (λ fs. length (closed_after fs) ≡ length_is) ms
    pub texts : All (λ fs. text_after fs ≡ text) ms

  -- all histories of a state have ended
  abbrev pub EndsSo : List (List Frame) → Ends → Ends → Type 0
  EndsSo ms old new = (done : List (List Frame)) → TellsEnds done old → TellsEnds (done ++ ms) new

  -- ---- A level, in part gone on from

  -- from these histories it was gone on to what ended and to what was joined to the next level: whatever is added up over the paths that
  -- begin with them is what it comes to over those
  pub record GoesOn (n : ℕ) (ms : List (List Frame)) (old_ends new_ends : Ends) (old_level new_level : Level) : Type 0 where
    pub ended : List (List Frame)
    pub ends : (done : List (List Frame)) → TellsEnds done old_ends → TellsEnds (done ++ ended) new_ends
    pub level : (groups : List (List (List Frame))) → IsLevel (suc n) groups old_level
        → (more : List (List (List Frame))) × IsLevel (suc n) more new_level × ((k : ℕ) → IsMore b k → (h : Path → ℕ) →
        sum_by (λ fs. sum_by h (paths_from k fs)) (all_in more) + sum_by (λ fs. h (path_of k fs)) ended
        ≡ sum_by (λ fs. sum_by h (paths_from k fs)) (all_in groups) + sum_by (λ fs. sum_by h (paths_from k fs)) ms)

  -- how far it was come: what ended is told, and with the states of a level it adds up
  pub record HasComeTo (n : ℕ) (ends : Ends) (states : List State) : Type 0 where
    pub done : List (List Frame)
    pub keys : List (List ℕ)
    pub groups : List (List (List Frame))
    pub told : TellsEnds done ends
    pub states_are : AreStates n keys groups states
    pub adds_up : (k : ℕ) → IsMore b k → AddsUp k done (all_in groups)

  -- ---- The next turn

  abbrev pub able_after : List Frame → ℕ → List ℕ
  able_after fs q = able_from P S W (events_of fs) (last_place 0 fs) q

  -- an actor had its turn after these, from the q-th place on; or nobody is able to step
  abbrev pub HasTurned : List Frame → ℕ → Run → Option Turn → Type 0
  HasTurned fs q r None = IsRun P S (events_of fs) r × (able_after fs q ≡ [])
  HasTurned fs q r (Some t) =
      IsRun P S (with_turn P S (events_of fs) t.place) r × (able_after fs q ≡ t.place ∷ able_after fs t.next)
      × (t.place < places W (events_of fs)) × (is_able P S (events_of fs) (at_place (events_of fs) t.place) ≡ true)

  -- a run had come to these turns, and the next one was looked for there
  pub record FindsNext (fs : List Frame) (q : ℕ) (f : Found) : Type 0 where
    pub before : Run
    pub come : IsRun P S (events_of fs) before
    pub turn : HasTurned fs q f.run f.turn
    pub few : length (events_of fs) < 2 ^ 62
    pub end : able_after fs f.end ≡ []

  -- from a level without a state it was gone on to this one
  pub record GoesOnTo (n : ℕ) (ms : List (List Frame)) (old new : Ends) (level : Level) : Type 0 where
    pub none : Level
    pub no_state : none.states.items ≡ []
    pub no_key : none.keys.items ≡ []
    pub goes_on : GoesOn n ms old new none level

  -- or there was no room for that
  abbrev pub LeadsOn : ℕ → List (List Frame) → Ends → Ends → Option Level → Type 0
  LeadsOn n ms old new None = Unit {0}
  LeadsOn n ms old new (Some level) = GoesOnTo n ms old new level
