-- The walks on from two histories after which all goes on alike, and that have the same lines, come to the same text, one by one.
-- By the walks, which end alike; each turn leaves the lines the same, and at an end they and the tree tell the text.
use Rattle.std.proofs.Common.{ℕ, List, ◌∷◌, sym, subst, ◌∙◌}
use Rattle.hist_model.specs.ReportAudit.{Judging}
use Rattle.hist_model.specs.declared.event.Event.{Event}
use Rattle.hist_model.specs.declared.policy.Policy.{Policy}
use Rattle.hist_model.specs.declared.script.Script.{Script}
use Rattle.delay_bounded.specs.Circle.{with_turn}
use Rattle.delay_bounded.specs.Explored.{walks_on}
use Rattle.listener.specs.State as call_state
use Rattle.tasks.specs.State.{State}
use Rattle.same_futures.specs.Lines.{ComeToTheSame, SameLines, result_at}
use Rattle.same_futures.specs.Places.{turn_of}
use Rattle.same_futures.specs.Same.{Same}
use Rattle.same_futures.specs.Turns.{IsTurn}
use Rattle.same_futures.proofs.Circles.{turn-event}
use Rattle.same_futures.proofs.KeptLines.{closed-same, lines-after-turn}
use Rattle.same_futures.proofs.Walks.{EndsSo, told-alike, walks-on-so}

-- ---- Either way round, and with a next one

pub lines-back : (S : Script) (J : Judging) (K L : List Event) → SameLines S J K L → SameLines S J L K
lines-back S J K L same = record { names_are = sym same.names_are; lines_are = λ n. sym (same.lines_are n) }

pub lines-joined : (S : Script) (J : Judging) (K L M : List Event) → SameLines S J K L → SameLines S J L M → SameLines S J K M
lines-joined S J K L M a b = record { names_are = b.names_are ∙ a.names_are; lines_are = λ n. b.lines_are n ∙ a.lines_are n }

-- ---- The walks on

module _ (P : Policy) (S : Script) (W : ℕ) (J : Judging) where
  -- the turn of the actor at a place
  kept : (ts : State) (cs : call_state.State) (K L : List Event) → Same S ts cs K L → SameLines S J K L → (q : ℕ) → IsTurn S K (turn_of P S K q)
      → SameLines S J (with_turn P S K q) (with_turn P S L q)
  kept ts cs K L same lines q t =
      let e = turn_of P S K q in
      subst (λ (f : Event). SameLines S J (e ∷ K) (f ∷ L)) (sym (turn-event S ts cs K L same P q)) (lines-after-turn S ts cs K L same J e lines t)

  pub come-to-the-same : ComeToTheSame P S W J
  come-to-the-same limit ts cs K L k same lines p d =
      told-alike (EndsSo P S W (SameLines S J) kept) (result_at P S J) (λ v w s. closed-same P S J v w s.1 s.0.same.tree_is) (walks_on P S W K p d) (walks_on P S W L p d)
      (walks-on-so P S W (SameLines S J) kept limit ts cs K L k same lines p d)
