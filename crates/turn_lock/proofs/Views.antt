-- What a change of one view keeps.
-- By `each_set` and `total_set` for the view that is set, and by cases on the stage of a view.
use Rattle.std.proofs.Common.{◌≡◌, ◌≢◌, ℕ, zero, suc, ◌+◌, ◌<◌, ◌≤◌, List, [], ◌∷◌, length, set, sym, refl, ap, ◌∙◌, subst, ⊎_elim, arith, true}
use mathlib.Core.Option.{some, some-injective, some-ne-none}
use mathlib.Core.Logic.{dite}
use native.Mathlib.Decide.{ℕ_discrete}
use lib.ListN.{get_elem?}
use Rattle.atomic_table.proofs.Lists.{at_set, set_else}
use Rattle.turn_lock.specs.declared.view.View.{View}
use Rattle.turn_lock.specs.Stages.{Stage}
use Rattle.turn_lock.specs.Stages.{Idle, Waiting, Playing}
use Rattle.hist_model.specs.declared.event.Event.{Event}
use Rattle.hist_model.specs.declared.history.Setup.{Setup}
use Rattle.turn_lock.specs.Lists.{Begins, times, OnceFrom}
use Rattle.turn_lock.specs.Rule.{living_of, ticket_of, tickets_of, owns, total, Holds, Plays, Fits, Sound, Views, Tickets}
use Rattle.turn_lock.proofs.Lists.{begins_trans}
use Rattle.turn_lock.proofs.Totals.{total_set, total_le}

pub one_at : (vs : List View) (i : ℕ) (v w : View) → get_elem? vs i ≡ some v → get_elem? vs i ≡ some w → v ≡ w
one_at vs i v w e f = some-injective v w (sym e ∙ f)

pub set_at : (vs : List View) (i : ℕ) (v w : View) → get_elem? vs i ≡ some v → get_elem? (set vs i w) i ≡ some w
set_at [] i v w e = absurd (some-ne-none v (sym e))
set_at (x ∷ xs) zero v w e = refl
set_at (x ∷ xs) (suc i) v w e = set_at xs i v w e

-- a fact of each place, after one view was set
pub each_set : (P : ℕ → View → Type 0) (vs : List View) (id : ℕ) (w : View) → P id w → ((j : ℕ) (u : View) → j ≢ id → get_elem? vs j ≡ some u → P j u)
    → (j : ℕ) (u : View) → get_elem? (set vs id w) j ≡ some u → P j u
each_set P vs id w mine others j u e = ⊎_elim (λ (t : (j ≡ id) × (w ≡ u)). subst (λ (x : ℕ × View). P x.0 x.1) (λ i. (sym t.0 i, t.1 i)) mine)
    (λ (t : (j ≢ id) × (get_elem? vs j ≡ some u)). others j u t.0 t.1) (at_set vs id j w u e)

pub same_total : (f : View → ℕ) (vs : List View) (id : ℕ) (v w : View) → get_elem? vs id ≡ some v → f w ≡ f v → total f (set vs id w) ≡ total f vs
same_total f vs id v w at e = let o = total_set f vs id v w at in omega arith

module _ (ts : Setup) (opening now now' : List Event) (vs : List View) (id : ℕ) (v w : View) where
  -- where one view changes, what must be shown of the new one
  pub views_set : Views ts opening now vs → get_elem? vs id ≡ some v → w.living ≡ v.living → w.first ≡ v.first → w.out ≡ v.out → w.setup ≡ v.setup
      → Begins now' now → Begins now' w.seen → Begins w.seen w.joined → ((p : ℕ) → owns p w ≤ w.living)
      → ((j : ℕ) × (u : View) × (get_elem? (set vs id w) j ≡ some u) × (u.living ≡ 1) × (u.seen ≡ now'))
      → ((p : ℕ) → OnceFrom (length opening) (length now') p (total (owns p) (set vs id w)))
      → Views ts opening now' (set vs id w)
  views_set r at living first out setup more seen joined few_own whole owned = let same = same_total living_of vs id v w at living in let mine = r.each id v at in record {
    each = each_set (λ j u. Sound ts now' u) vs id w
        (seen, joined, (λ h. setup ∙ mine.2 (sym living ∙ h)), (let l = mine.3 in omega arith), few_own)
        (λ j u ne e. let o = r.each j u e in (begins_trans now' now u.seen more o.0, o.1, o.2, o.3, o.4));
    few = (let l = r.few in omega arith);
    whole = whole;
    leads = each_set (λ j u. u.first ≡ true → (j ≡ 0) × (total living_of (set vs id w) ≡ 1 + u.out)) vs id w
        (λ h. let o = r.leads id v at (sym first ∙ h) in (o.0, same ∙ o.1 ∙ ap (λ (z : ℕ). 1 + z) (sym out)))
        (λ j u ne e h. let o = r.leads j u e h in (o.0, same ∙ o.1));
    opened = begins_trans now' now opening more r.opened;
    owned = owned;
  }

  -- the same, where neither the places nor the history change
  pub views_same : now' ≡ now → Views ts opening now vs → get_elem? vs id ≡ some v → w.living ≡ v.living → w.first ≡ v.first → w.out ≡ v.out → w.setup ≡ v.setup → w.places ≡ v.places
      → Begins now' w.seen → Begins w.seen w.joined
      → ((j : ℕ) × (u : View) × (get_elem? (set vs id w) j ≡ some u) × (u.living ≡ 1) × (u.seen ≡ now'))
      → Views ts opening now' (set vs id w)
  views_same e r at living first out setup places seen joined whole = views_set r at living first out setup ([], e) seen joined
      (λ p. let o = (r.each id v at).4 p in let same : owns p w ≡ owns p v = ap (times p) places in omega arith) whole
      (λ p. subst (λ (z : ℕ × ℕ). OnceFrom (length opening) z.0 p z.1) (λ i. (sym (ap length e) i, sym (same_total (owns p) vs id v w at (ap (times p) places)) i)) (r.owned p))

-- a view that has seen all is there, also where the view id has the same in sight as before
pub whole_same : (ts : Setup) (opening now : List Event) (vs : List View) (id : ℕ) (v w : View) → Views ts opening now vs → get_elem? vs id ≡ some v → w.living ≡ v.living → w.seen ≡ v.seen
    → (j : ℕ) × (u : View) × (get_elem? (set vs id w) j ≡ some u) × (u.living ≡ 1) × (u.seen ≡ now)
whole_same ts opening now vs id v w r at living seen = let o = r.whole in dite (ℕ_discrete o.0 id)
    (λ e. let at' : get_elem? vs id ≡ some o.1 = subst (λ (z : ℕ). get_elem? vs z ≡ some o.1) e o.2 in let s = one_at vs id v o.1 at at' in
    (id, w, set_at vs id v w at, living ∙ ap (λ z. z.living) s ∙ o.3, seen ∙ ap (λ z. z.seen) s ∙ o.4))
    (λ ne. (o.0, o.1, set_else vs id o.0 w ne ∙ o.2, o.3, o.4))

pub fits_grow : (served n m : ℕ) (now : List Event) (u : View) (st : Stage) → n ≤ m → Fits served n now u st → Fits served m now u st
fits_grow served n m now u Idle l f = tt
fits_grow served n m now u (Waiting t) l f = let a = f.1 in let b = f.2 in (f.0, a, omega arith)
fits_grow served n m now u (Playing t) l f = let a = f.2 in (f.0, f.1, omega arith, f.3)

pub held_within : (served n : ℕ) (now : List Event) (u : View) (st : Stage) (t : ℕ) → Fits served n now u st → Holds st t → (served ≤ t) × (t < served + n)
held_within served n now u Idle t f h = absurd h
held_within served n now u (Waiting x) t f h = let a = f.1 in let b = f.2 in (omega arith, omega arith)
held_within served n now u (Playing x) t f h = let a = f.1 in let b = f.2 in (omega arith, omega arith)

pub held_by_living : (served n : ℕ) (now : List Event) (u : View) (st : Stage) → Fits served n now u st → ticket_of st ≤ u.living
held_by_living served n now u Idle f = omega arith
held_by_living served n now u (Waiting x) f = let a = f.0 in omega arith
held_by_living served n now u (Playing x) f = let a = f.0 in omega arith

pub plays_served : (served n : ℕ) (now : List Event) (u : View) (st : Stage) → Fits served n now u st → Plays st → Holds st served × (u.living ≡ 1)
plays_served served n now u Idle f p = absurd p
plays_served served n now u (Waiting x) f p = absurd p
plays_served served n now u (Playing x) f p = (f.1, f.0)

-- where the ticket served is another's, one more is served
pub fits_next : (served n m : ℕ) (now : List Event) (u : View) (st : Stage) → n ≡ m + 1 → (Holds st served → ⊥) → Fits served n now u st → Fits (served + 1) m now u st
fits_next served n m now u Idle e not f = tt
fits_next served n m now u (Waiting t) e not f = let a = f.1 in let b = f.2 in dite (ℕ_discrete t served) (λ s. absurd (not s)) (λ ne. (f.0, omega arith, omega arith))
fits_next served n m now u (Playing t) e not f = absurd (not f.1)

-- where the ticket served is another's, the history may change
pub fits_waits : (served n : ℕ) (now now' : List Event) (u : View) (st : Stage) → (Holds st served → ⊥) → Fits served n now u st → Fits served n now' u st
fits_waits served n now now' u Idle not f = tt
fits_waits served n now now' u (Waiting t) not f = f
fits_waits served n now now' u (Playing t) not f = absurd (not f.1)

pub apart_set : (served : ℕ) (now : List Event) (vs : List View) (id : ℕ) (w : View) → Tickets served now vs → ((k : ℕ) (u : View) (t : ℕ) → k ≢ id → get_elem? vs k ≡ some u → Holds u.stage t → Holds w.stage t → ⊥)
    → (j k : ℕ) (u x : View) (t : ℕ) → get_elem? (set vs id w) j ≡ some u → get_elem? (set vs id w) k ≡ some x → Holds u.stage t → Holds x.stage t → j ≡ k
apart_set served now vs id w l not j k u x t ej ek hu hx =
    each_set (λ a y. Holds y.stage t → a ≡ k) vs id w
    (λ hw. each_set (λ b z. Holds z.stage t → id ≡ b) vs id w (λ _. refl) (λ b z ne e hz. absurd (not b z t ne e hz hw)) k x ek hx)
    (λ a y ne e hy. each_set (λ b z. Holds z.stage t → a ≡ b) vs id w (λ hw. absurd (not a y t ne e hy hw)) (λ b z _ e' hz. l.apart a b y z t e e' hy hz) k x ek hx) j u ej hu

pub few_tickets : (ts : Setup) (opening : List Event) (served : ℕ) (now : List Event) (vs : List View) → Views ts opening now vs → Tickets served now vs → total tickets_of vs ≤ 65536
few_tickets ts opening served now vs r l = let o = total_le tickets_of living_of vs (λ j v e. held_by_living served (total tickets_of vs) now v v.stage (l.fits j v e)) in let f = r.few in omega arith
