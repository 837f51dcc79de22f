-- What the steps of the lock tell, and what they come to in a turn.
use Rattle.std.specs.Prelude.{◌≡◌, ◌≢◌, ℕ, ◌%◌, ◌^◌, ◌≤◌, List, [], ◌∷◌, ◌++◌, length, Option, Some, None, true}
use Rattle.atomic_table.specs.Table.{Me, Step, rest}
use Rattle.atomic_table.specs.Seated.{TableId}
use Rattle.hist_model.specs.declared.event.Event.{Event}
use Rattle.hist_model.specs.declared.history.Setup.{Setup}
use Rattle.hist_model.specs.Histories.{Seen}
use Rattle.turn_lock.specs.declared.view.View.{View}
use Rattle.turn_lock.specs.Stages.{Idle, Waiting, Playing}
use Rattle.turn_lock.specs.Lists.{Begins, places_of, times}
use Rattle.turn_lock.specs.Facts.{LockFacts, PassFacts}
use Rattle.turn_lock.specs.Rule.{spent}

-- between two turns a pass has no slot and no ticket, and is not spent
abbrev pub Rests : {S : Type 0} → Me (Option S) View → Type 0
Rests m = (m.1 ≡ []) × (m.0.stage ≡ Idle) × (m.0.living ≡ 1)

-- a ticket was drawn, whose number is r
abbrev pub Waits : {S : Type 0} → Me (Option S) View → ℕ → Me (Option S) View → Type 0
Waits m r m' = (t : ℕ) × (r ≡ t % 2 ^ 64) × (m' ≡ (record m.0 { stage = Waiting t }, []))

-- the view v, once more was put on what it has seen
abbrev pub published : View → List Event → View
published v more = record v { seen = more ++ v.seen; places = places_of more (length v.seen) ++ v.places }

module _ {S : Type 0} where
  -- the step that takes a ticket
  abbrev pub Claimed : Step (Option S) → Me (Option S) View → ℕ → Me (Option S) View → Type 0
  Claimed st m r m' = (t : ℕ) × (r ≡ t % 2 ^ 64) × (m' ≡ (record m.0 { stage = Waiting t }, m.1))

  -- the step that ends a turn
  abbrev pub Released : Step (Option S) → Me (Option S) View → ℕ → Me (Option S) View → Type 0
  Released st m r m' = m' ≡ (record m.0 { stage = Idle }, rest m.1)

  -- the step that reads the length after a join
  abbrev pub Checked : Step (Option S) → Me (Option S) View → ℕ → Me (Option S) View → Type 0
  Checked st m r m' = (m' ≡ m) × Begins m.0.seen m.0.joined × ((p : ℕ) → times p m.0.places ≤ 1)

module _ {S : Type 0} (setup : S → Setup) (history : S → Seen) where
  abbrev pub M : Type 0
  M = Me (Option S) View

  abbrev pub events : S → List Event
  events s = (history s).events

  -- The step that reads which ticket is served: where it is the own one, the seat takes the slot and sees the whole history
  abbrev pub Looked : Step (Option S) → M → ℕ → M → Type 0
  Looked st m r m' = (t : ℕ) → m.0.stage ≡ Waiting t
      → (r ≡ t % 2 ^ 64
      → (x : S) × (m'.1 ≡ (0, Some x) ∷ m.1) × (m'.0 ≡ record m.0 { seen = events x; stage = Playing t })
      × Begins (events x) m.0.seen × (setup x ≡ m.0.setup) × (m.0.first ≡ true → m.0.out ≡ 0 → events x ≡ m.0.seen))
      × (r ≢ t % 2 ^ 64 → m' ≡ m)

  -- the step that publishes the length of the history that was put back
  abbrev pub Published : Step (Option S) → M → ℕ → M → Type 0
  Published st m r m' = (x : S) × (more : List Event) × (m.1 ≡ (0, Some x) ∷ [])
      × (events x ≡ more ++ m.0.seen) × (m' ≡ (published m.0 more, m.1)) × ((p : ℕ) → times p m'.0.places ≤ 1)

  -- a state that a turn of this view may find
  abbrev pub Finds : View → S → Type 0
  Finds v s = (setup s ≡ v.setup) × Begins (events s) v.seen × (v.first ≡ true → v.out ≡ 0 → events s ≡ v.seen)

  abbrev pub InTurn : M → M → Type 0
  InTurn m m' = (x : S) × (t : ℕ) × (m' ≡ (record m.0 { seen = events x; stage = Playing t }, (0, Some x) ∷ [])) × Finds m.0 x

  abbrev pub TookOut : M → S → M → Type 0
  TookOut m x m' = (t : ℕ) × (m' ≡ (record m.0 { seen = events x; stage = Playing t }, (0, None) ∷ [])) × Finds m.0 x

  abbrev pub MayPutIn : M → S → Type 0
  MayPutIn m x = (t : ℕ) × (m.0.stage ≡ Playing t) × (m.1 ≡ (0, None) ∷ []) × (setup x ≡ m.0.setup) × Begins (events x) m.0.seen

  abbrev pub PutIn : M → S → M → Type 0
  PutIn m x m' = (more : List Event) × (events x ≡ more ++ m.0.seen)
      × (m' ≡ (record (published m.0 more) { stage = Idle }, [])) × ((p : ℕ) → times p m'.0.places ≤ 1)

-- the view of a badge that has one
abbrev pub the_view : List View → View
the_view [] = spent
the_view (v ∷ vs) = v

-- between two turns, by the badge
abbrev pub RestsAs : List View → Type 0
RestsAs vs = (vs ≡ the_view vs ∷ []) × ((the_view vs).stage ≡ Idle) × ((the_view vs).living ≡ 1)

-- what contracts see of a pass
abbrev pub facts_of : TableId → View → PassFacts
facts_of z v = record { lock = z; setup = v.setup; first = v.first; out = v.out; seen = v.seen; places = v.places }

module _ {S : Type 0} (setup : S → Setup) (history : S → Seen) where
  -- a state that a turn of this pass may find
  abbrev pub MayFind : PassFacts → S → Type 0
  MayFind p s = (setup s ≡ p.setup) × Begins (history s).events p.seen × (p.first ≡ true → p.out ≡ 0 → (history s).events ≡ p.seen)

  -- There is one state s on which the turn was played, and which it left as e. Both have the lock's policy, script and limit;
  -- the history of s is one that the pass may find, and e has more behind it.
  -- The pass has then seen all that e has, and its places are the former ones and those of the new events; none stands twice.
  abbrev pub Turned : {T : Type 0} → (T → S → T → S → Type 0) → LockFacts → T → PassFacts → T → PassFacts → Type 0
  Turned plays l t p t' p' = (s e : S) × plays t s t' e × (setup s ≡ l.setup) × (setup e ≡ l.setup) × MayFind p s
      × (more : List Event) × ((history e).events ≡ more ++ (history s).events)
      × (p' ≡ record p { seen = (history e).events; places = places_of more (length (history s).events) ++ p.places })
      × ((n : ℕ) → times n p'.places ≤ 1)
