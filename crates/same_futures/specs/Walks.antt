-- Walks on from histories after which all goes on alike.
use Rattle.std.specs.Prelude.{◌≡◌, ◌≤◌, ℕ, List, [], ◌∷◌, length, map}
use Rattle.hist_model.specs.declared.event.Event.{Event}
use Rattle.hist_model.specs.declared.policy.Policy.{Policy}
use Rattle.hist_model.specs.declared.script.Script.{Script}
use Rattle.delay_bounded.specs.Explored.{Walk, walks_on}
use Rattle.delay_bounded.specs.Laws.{IsWalked}
use Rattle.listener.specs.State as call_state
use Rattle.tasks.specs.State.{State}
use Rattle.same_futures.specs.Same.{Same}

-- two walks have as many delays left, and all goes on alike where they end
pub record IsAlike (S : Script) (v w : Walk) : Type 0 where
  pub left_is : w.left ≡ v.left
  pub tasks : State
  pub calls : call_state.State
  pub same : Same S tasks calls v.events w.events

-- something is so of the walks of two lists, one by one
abbrev pub OneByOne : (Walk → Walk → Type 0) → List Walk → List Walk → Type 0
OneByOne R [] [] = Unit {0}
OneByOne R (v ∷ vs) (w ∷ ws) = R v w × OneByOne R vs ws
OneByOne R [] (w ∷ ws) = ⊥
OneByOne R (v ∷ vs) [] = ⊥

-- the walks of two lists are alike, one by one
abbrev pub AreAlike : Script → List Walk → List Walk → Type 0
AreAlike S = OneByOne (IsAlike S)

-- where all goes on alike after two histories, the walks on from the one are those on from the other, one by one; a schedule has
-- the workers up to 16
abbrev pub WalkAlike : Policy → Script → ℕ → Type 0
WalkAlike P S W = W ≤ 16 → (tasks : State) (calls : call_state.State) (K L : List Event) → IsWalked P S W K → Same S tasks calls K L
    → (p d : ℕ) → AreAlike S (walks_on P S W K p d) (walks_on P S W L p d)

-- what is the same of alike walks, as how many events one has, or whether it comes to an outcome, is so of those of both lists,
-- in their order
abbrev pub TellAlike : Script → Type 0
TellAlike S = (f : Walk → ℕ) → ((v w : Walk) → IsAlike S v w → f w ≡ f v)
    → (vs ws : List Walk) → AreAlike S vs ws → map f ws ≡ map f vs

-- the delays that are left to a walk, and how many events it has
abbrev pub left_of : Walk → ℕ
left_of w = w.left

abbrev pub length_of : Walk → ℕ
length_of w = length w.events

-- these are the same of both lists
abbrev pub AreAsLong : Script → Type 0
AreAsLong S = (vs ws : List Walk) → AreAlike S vs ws → (map left_of ws ≡ map left_of vs) × (map length_of ws ≡ map length_of vs)
