-- What the steps of a turn tell, put together.
-- By the equations that the steps give, each put into what the next step tells.
use Rattle.std.proofs.Common.{◌≡◌, ◌≢◌, ℕ, ◌≤◌, List, [], ◌∷◌, ◌++◌, sym, refl, ap, ◌∙◌, subst, Option, Some, None}
use mathlib.Core.Option.{none}
use Rattle.atomic_table.specs.Table.{Me, Step, step, rest}
use Rattle.turn_lock.specs.declared.view.View.{View}
use Rattle.turn_lock.specs.Stages.{Idle, Waiting}
use Rattle.hist_model.specs.declared.event.Event.{Event}
use Rattle.hist_model.specs.declared.history.Setup.{Setup}
use Rattle.hist_model.specs.Histories.{Seen}
use Rattle.atomic_table.specs.Seated.{TableId}
use Rattle.turn_lock.specs.Lists.{times}
use Rattle.turn_lock.specs.Facts.{PassFacts}
use Rattle.turn_lock.specs.Turns.{Looked, Published, published, Claimed, Released, Rests, Waits, InTurn, MayPutIn, PutIn, facts_of, the_view, RestsAs}

-- the view of a pass between two turns, as its badge gives it
pub at_rest : (z : TableId) (vs : List View) (v : View) (p : PassFacts) → facts_of z (the_view vs) ≡ p → RestsAs vs → vs ≡ v ∷ [] → (facts_of z v ≡ p) × (v.stage ≡ Idle) × (v.living ≡ 1)
at_rest z vs v p is rests only = let e : the_view vs ≡ v = ap the_view only in
    subst (λ (u : View). (facts_of z u ≡ p) × (u.stage ≡ Idle) × (u.living ≡ 1)) e (is, rests.1, rests.2)

module _ {S : Type 0} (setup : S → Setup) (history : S → Seen) where
  abbrev M : Type 0
  M = Me (Option S) View

  abbrev past : S → List Event
  past x = (history x).events

  -- what the steps tell is the same at each
  abbrev st : Step (Option S)
  st = step 0 0 0 0 none

  pub waits : (m : M) (r : ℕ) (m' : M) → Rests m → Claimed st m r m' → Waits m r m'
  waits m r m' rests c = (c.0, c.1, c.2 ∙ ap (λ (z : List (ℕ × Option S)). (record m.0 { stage = Waiting c.0 }, z)) rests.0)

  pub in_turn : (m m₁ : M) (mine r : ℕ) (m' : M) → Waits m mine m₁ → Looked setup history st m₁ r m' → r ≡ mine → InTurn setup history m m'
  in_turn m m₁ mine r m' w look hit = subst (λ (z : M). Looked setup history st z r m' → InTurn setup history m m') (sym w.2)
      (λ k. let o = (k w.0 refl).0 (hit ∙ w.1) in (o.0, w.0, (λ i. (o.2 i, o.1 i)), (o.4, o.3, o.5))) look

  pub waits_on : (m m₁ : M) (mine r : ℕ) (m' : M) → Waits m mine m₁ → Looked setup history st m₁ r m' → r ≢ mine → Waits m mine m'
  waits_on m m₁ mine r m' w look miss = (w.0, w.1, (look w.0 (ap (λ (z : M). z.0.stage) w.2)).1 (λ h. miss (h ∙ sym w.1)) ∙ w.2)

  abbrev held : S → List (ℕ × Option S) → S
  held d [] = d
  held d ((k, None) ∷ xs) = d
  held d ((k, Some x) ∷ xs) = x

  -- what an exchange asks
  pub may_exchange : (c : List (ℕ × Option S)) (x : Option S) → c ≡ (0, x) ∷ [] → c ≡ (0, x) ∷ rest c
  may_exchange c x e = e ∙ ap (λ (z : List (ℕ × Option S)). (0, x) ∷ rest z) (sym e)

  pub holding : (m m₁ : M) (x : S) → MayPutIn setup history m x → m₁ ≡ (m.0, (0, Some x) ∷ rest m.1) → m₁ ≡ (m.0, (0, Some x) ∷ [])
  holding m m₁ x may e = e ∙ ap (λ (z : List (ℕ × Option S)). (m.0, (0, Some x) ∷ rest z)) may.2

  -- what the publishing step leaves
  abbrev Wrote : M → S → M → Type 0
  Wrote m x m' = (more : List Event) × (past x ≡ more ++ m.0.seen) × (m' ≡ (published m.0 more, (0, Some x) ∷ [])) × ((p : ℕ) → times p m'.0.places ≤ 1)

  pub wrote : (m m₁ m₂ : M) (x : S) (r : ℕ) → m₁ ≡ (m.0, (0, Some x) ∷ []) → Published setup history st m₁ r m₂ → Wrote m x m₂
  wrote m m₁ m₂ x r e p =
      let same : p.0 ≡ x = sym (ap (held x) p.2) ∙ ap (λ (z : M). held x z.1) e in
      (p.1, sym (ap past same) ∙ p.3 ∙ ap (λ (z : M). p.1 ++ z.0.seen) e, p.4 ∙ ap (λ (z : M). (published z.0 p.1, z.1)) e, p.5)

  pub put_in : (m m₂ m₃ : M) (x : S) (r : ℕ) → Wrote m x m₂ → Released st m₂ r m₃ → PutIn setup history m x m₃
  put_in m m₂ m₃ x r w e = (w.0, w.1, e ∙ ap (λ (z : M). (record z.0 { stage = Idle }, rest z.1)) w.2, (λ p. subst (λ (z : M). times p z.0.places ≤ 1) (sym e) (w.3 p)))
