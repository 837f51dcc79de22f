-- What the explored histories are, whichever they are.
use Rattle.std.specs.Prelude.{◌≡◌, ℕ, zero, suc, ◌+◌, ◌<◌, ◌≤◌, ◌^◌, true, false, ◌||◌, List, [], ◌∷◌, ◌++◌, length, reverse}
use Rattle.std.specs.Prelude.{All, Contains, None, Err}
use Rattle.sys_abi.specs.Errnos.{enoent}
use Rattle.hist_model.specs.Calls.{count}
use Rattle.hist_model.specs.Legal.{Finished, Legal, NoSkip, NoWorkerAbove, rules_of, started, system_of, with_schedule, with_step}
use Rattle.hist_model.specs.Look.{Name, ev}
use Rattle.hist_model.specs.Mediated.{Mediated}
use Rattle.hist_model.specs.Names.{is_task_name}
use Rattle.hist_model.specs.ScriptRules.{IsScript}
use Rattle.hist_model.specs.Steps.{IsLegal}
use Rattle.hist_model.specs.Tasks.{is_made}
use Rattle.hist_model.specs.declared.event.Actor.{Actor}
use Rattle.hist_model.specs.declared.event.Actor.TheVariants.{Listener, Worker}
use Rattle.hist_model.specs.declared.event.Event.{Event}
use Rattle.hist_model.specs.declared.event.What.TheVariants.{Close, Recv}
use Rattle.mediation.specs.Scheduled.{GoesOn}
use Rattle.hist_model.specs.declared.policy.Policy.{Policy}
use Rattle.hist_model.specs.declared.script.Script.{Script}
use Rattle.delay_bounded.specs.Circle.{all_in_hand, at_place, in_hand, is_able, places, with_turn}
use Rattle.delay_bounded.specs.Explored.{bound_of, explored, walks_of, with_delays, with_left}
use Rattle.delay_bounded.specs.Schedules.{schedule_of}

-- the list for a bound begins the list for the next one
abbrev pub Begins : Type 0
Begins = (P : Policy) (S : Script) (W d : ℕ) → explored P S W (suc d) ≡ explored P S W d ++ with_delays P S W (suc d)

-- without delays there is one history
abbrev pub IsOneAlone : Type 0
IsOneAlone = (P : Policy) (S : Script) (W : ℕ) → length (explored P S W 0) ≡ 1

-- where no history has so many delays, none has one more
abbrev pub HasNoGap : Type 0
HasNoGap = (P : Policy) (S : Script) (W d : ℕ) → with_delays P S W d ≡ [] → with_delays P S W (suc d) ≡ []

-- and so a greater bound adds nothing
abbrev pub IsAll : Type 0
IsAll = (P : Policy) (S : Script) (W d k : ℕ) → with_delays P S W (suc d) ≡ [] → explored P S W (d + k) ≡ explored P S W d

-- those with so many delays are, in their order, the walks within any greater bound that have the rest of its delays left
abbrev pub IsWithinMore : Type 0
IsWithinMore = (P : Policy) (S : Script) (W d k : ℕ) → with_delays P S W d ≡ with_left P S k (walks_of P S W (d + k))

-- a worker that steps has a notification in hand, or all below it have one
abbrev pub IsLowest : List Event → Actor → Type 0
IsLowest K (Worker w) = (in_hand K w || all_in_hand K w) ≡ true
IsLowest K _ = Unit {0}

-- so it is at each step of the history: of the workers that have none in hand, the lowest alone steps
abbrev pub StepsAsLowest : List Event → Type 0
StepsAsLowest [] = Unit {0}
StepsAsLowest (e ∷ K) = IsLowest K e.who × StepsAsLowest K

-- the history is legal and goes on, none of its events is a Skip, none is a step of a worker above the limit,
-- and of the idle workers the lowest steps
pub record IsWalked (P : Policy) (S : Script) (W : ℕ) (K : List Event) : Type 0 where
  pub goes_on : GoesOn P S K
  pub no_skip : NoSkip K
  pub within : NoWorkerAbove W K
  pub lowest : StepsAsLowest K

-- the history, if it can be counted, is legal and mediated; none of its events is a Skip, and none is a step of a worker
-- above the limit; its schedule plays it
pub record IsExplored (P : Policy) (S : Script) (W : ℕ) (H : List Event) : Type 0 where
  pub legal : length H < 2 ^ 64 → Legal P S H
  pub mediated : length H < 2 ^ 64 → Mediated P S H
  pub no_skip : NoSkip H
  pub within : NoWorkerAbove W H
  pub played : with_step P S Listener (with_schedule P S (reverse (schedule_of H)) (started S)) ≡ H

-- so is each explored one
abbrev pub AreLegal : Type 0
AreLegal = (P : Policy) (S : Script) (W d : ℕ) → W ≤ 16 → All (IsExplored P S W) (explored P S W d)

-- each event but the start is the step of an actor of the circle that is able to step after those before it
abbrev pub IsTurnByTurn : Policy → Script → ℕ → List Event → Type 0
IsTurnByTurn P S W [] = ⊥
IsTurnByTurn P S W (e ∷ []) = e ∷ [] ≡ started S
IsTurnByTurn P S W (e ∷ f ∷ K) = (q : ℕ) × (q < places W (f ∷ K)) × (is_able P S (f ∷ K) (at_place (f ∷ K) q) ≡ true)
    × (e ∷ f ∷ K ≡ with_turn P S (f ∷ K) q) × IsTurnByTurn P S W (f ∷ K)

-- nobody is able to step
abbrev pub IsOver : Policy → Script → ℕ → List Event → Type 0
IsOver P S W K = (q : ℕ) → q < places W K → is_able P S K (at_place K q) ≡ false

-- each task that was made has a name of the form
abbrev pub AreNamed : List Event → Type 0
AreNamed K = (n : Name) → is_made K n ≡ true → is_task_name n ≡ true

-- so it is in each legal history of a script, whose programs nest no deeper and start no more tasks than names have room for
abbrev pub NamesHaveForm : Type 0
NamesHaveForm = (P : Policy) (S : Script) (K : List Event) → IsScript S → IsLegal (system_of S) (rules_of P S.figures) K → AreNamed K

-- nobody can be stuck: where nobody is able to step after such a history of a script, it is finished
abbrev pub EndsFinished : Type 0
EndsFinished =
    (P : Policy) (S : Script) (W : ℕ) (K : List Event) → IsScript S → length K < 2 ^ 64 → IsWalked P S W K → IsOver P S W K → Finished K

-- the history was finished when the listener was closed at its end
abbrev pub ClosesFinished : List Event → Type 0
ClosesFinished H = (K : List Event) × (H ≡ ev Listener Close ∷ K) × Finished K

-- so is each explored one that can be counted
abbrev pub AreFinished : Type 0
AreFinished = (P : Policy) (S : Script) (W d : ℕ) → IsScript S → W ≤ 16 → All (λ H. length H < 2 ^ 64 → ClosesFinished H) (explored P S W d)

-- without a bound, each such history is explored at whose end nobody is able to step; the listener is closed there
abbrev pub IsComplete : Type 0
IsComplete = (P : Policy) (S : Script) (W : ℕ) (K : List Event) → W ≤ 16 → length K < 2 ^ 64 → IsWalked P S W K → IsOver P S W K
    → Contains (explored P S W (bound_of None)) (with_step P S Listener K)

-- one worker alone is always the lowest
abbrev pub OneIsLowest : Type 0
OneIsLowest = (K : List Event) → NoWorkerAbove 0 K → StepsAsLowest K

-- ---- Histories that are finished, and may go on

-- the first worker finds nothing to receive, so many times
unfoldable pub with_empty_receives : ℕ → List Event → List Event
with_empty_receives zero K = K
with_empty_receives (suc n) K = with_empty_receives n (ev (Worker 0) (Recv (Err enoent)) ∷ K)

-- the finished history, with as many receives that find nothing as there were more notified calls than receives;
-- then nobody is able to step
abbrev pub GoesOver : Type 0
GoesOver = (P : Policy) (S : Script) (W : ℕ) (K : List Event) → IsWalked P S W K → Finished K
    → IsWalked P S W (with_empty_receives (count K) K) × IsOver P S W (with_empty_receives (count K) K)

-- without a bound, each such history that is finished is explored, with those receives behind it
abbrev pub IsCompleteOfFinished : Type 0
IsCompleteOfFinished =
    (P : Policy) (S : Script) (W : ℕ) (K : List Event) → W ≤ 16 → length K + count K < 2 ^ 64 → IsWalked P S W K → Finished K
    → Contains (explored P S W (bound_of None)) (with_step P S Listener (with_empty_receives (count K) K))
