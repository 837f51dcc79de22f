-- The history with some turns: each turn is one event, and it is walked.
-- By induction on the turns.
use Rattle.std.proofs.Common.{◌≡◌, ℕ, suc, ◌+◌, ◌≤◌, List, [], ◌∷◌, length, arith}
use Rattle.hist_model.specs.Legal.{started}
use Rattle.hist_model.specs.declared.event.Event.{Event}
use Rattle.hist_model.specs.declared.policy.Policy.{Policy}
use Rattle.hist_model.specs.declared.script.Script.{Script}
use Rattle.delay_bounded.specs.Circle.{with_turn}
use Rattle.delay_bounded.specs.Laws.{IsWalked}
use Rattle.delay_bounded.proofs.LegalWalks.{walked_first, walked_on}
use Rattle.explorer.specs.Frames.{AreTurns, after}
use Rattle.explorer.specs.declared.frames.Frame.{Frame}

module _ (P : Policy) (S : Script) (W : ℕ) where
  pub length_after : (K : List Event) (fs : List Frame) → length (after P S K fs) ≡ length K + length fs
  unfolding after
  length_after K [] = omega arith
  length_after K (f ∷ fs) = omega (arith, length_after (with_turn P S K f.place) fs)

  walked_after : W ≤ 16 → (K : List Event) (fs : List Frame) → IsWalked P S W K → AreTurns P S W K fs → IsWalked P S W (after P S K fs)
  unfolding AreTurns after
  walked_after limit K [] k t = k
  walked_after limit K (f ∷ fs) k t = walked_after limit (with_turn P S K f.place) fs (walked_on P S W limit K f.place t.0 t.1 k) t.2

  pub walked_from_start : W ≤ 16 → (fs : List Frame) → AreTurns P S W (started S) fs → IsWalked P S W (after P S (started S) fs)
  walked_from_start limit fs t = walked_after limit (started S) fs (walked_first P S W limit) t

  -- the first event is the start
  pub length_from_start : (fs : List Frame) → length (after P S (started S) fs) ≡ suc (length fs)
  length_from_start fs = omega (arith, length_after (started S) fs)
