-- Splitting, joining and closing keep the rule.
-- By the lemmas of `Totals` and `Views`, and by cases on whether a view is one of those that change.
use Rattle.std.proofs.Common.{◌≡◌, ◌≢◌, ℕ, ◌+◌, ◌%◌, ◌^◌, ◌<◌, List, [], ◌∷◌, ◌++◌, length, set, sym, refl, ap, ◌∙◌, subst, inl, inr, ⊎_elim, arith, true, true≢false, Option, Some}
use mathlib.Core.Option.{some, some-injective}
use mathlib.Core.Option as maybe
use mathlib.Core.Logic.{dite}
use native.Mathlib.Decide.{ℕ_discrete}
use lib.ListN.{get_elem?}
use Rattle.atomic_table.specs.Table.{State, Splits, Joins, Final}
use Rattle.atomic_table.specs.Table as Table
use Rattle.atomic_table.proofs.Lists.{set_else, at_snoc, at_longer}
use Rattle.turn_lock.specs.declared.view.View.{View}
use Rattle.turn_lock.specs.Stages.{Stage}
use Rattle.turn_lock.specs.Stages.{Idle}
use Rattle.atomic_table.specs.Seated.{TableId}
use Rattle.hist_model.specs.declared.event.Event.{Event}
use Rattle.hist_model.specs.declared.history.Setup.{Setup}
use Rattle.hist_model.specs.Histories.{Seen}
use Rattle.turn_lock.specs.Lists.{Begins, times, OnceFrom}
use Rattle.turn_lock.specs.Rule.{living_of, ticket_of, tickets_of, owns, total, Holds, Plays, Fits, Sound, LockRule, left_of, right_of, both_of, spent}
use Rattle.turn_lock.specs.Facts.{LockFacts, PassFacts, IsAlone, OwnsAll}
use Rattle.turn_lock.specs.Turns.{facts_of}
use Rattle.turn_lock.proofs.Lists.{begins_self, begins_nil, longer_is, times_append, at_most}
use Rattle.turn_lock.proofs.Totals.{total_set, total_snoc, total_one, total_two, total_only}
use Rattle.turn_lock.proofs.Views.{one_at, set_at, each_set, same_total, fits_grow, plays_served}
use Rattle.turn_lock.proofs.Steps.{saw_all}
use Rattle.turn_lock.proofs.Options.{same_some}

-- a fact of each place, after a view came behind
each_snoc : (P : View → Type 0) (vs : List View) (w : View) → P w → ((j : ℕ) (u : View) → get_elem? vs j ≡ some u → P u) → (j : ℕ) (u : View) → get_elem? (vs ++ w ∷ []) j ≡ some u → P u
each_snoc P vs w mine others j u e = ⊎_elim (λ t. others j u t) (λ t. subst P t mine) (at_snoc vs w u j e)

-- the same, where a place counts: the new view is excluded
at_old : (P : ℕ → View → Type 0) (vs : List View) (w : View) → ((j : ℕ) → P j w) → ((j : ℕ) (u : View) → get_elem? vs j ≡ some u → P j u) → (j : ℕ) (u : View) → get_elem? (vs ++ w ∷ []) j ≡ some u → P j u
at_old P vs w mine others j u e = ⊎_elim (λ t. others j u t) (λ t. subst (P j) t (mine j)) (at_snoc vs w u j e)

module _ {S : Type 0} (setup : S → Setup) (history : S → Seen) (key : S) where
  abbrev V : Type 0
  V = View

  abbrev St : Type 0
  St = State (Option S) View

  abbrev Rule : St → Type 0
  Rule = LockRule setup history key

  abbrev ts : Setup
  ts = setup key

  abbrev past : S → List Event
  past x = (history x).events

  abbrev opening : List Event
  opening = past key

  pub splits : (id : ℕ) (v : V) → v.first ≡ true → v.out < 65535 → v.living ≡ 1 → v.stage ≡ Idle → Splits Rule id v (left_of v) (right_of v)
  splits id v first room living idle s kept at =
      let a : V = left_of v in let b : V = right_of v in let vs = s.views in let ws : List V = set vs id a in let r = kept.views in let l = kept.tickets in let now = kept.now in let mine = r.each id v at in
      let led = r.leads id v at first in let led0 = led.0 in let led1 = led.1 in
      let none_here : ticket_of v.stage ≡ 0 = ap ticket_of idle in
      let as_many : total tickets_of (ws ++ b ∷ []) ≡ total tickets_of vs = (let o = total_snoc tickets_of ws b in let p = same_total tickets_of vs id v a at refl in omega arith) in
      let lives_more : total living_of (ws ++ b ∷ []) ≡ total living_of vs + 1 = (let o = total_snoc living_of ws b in let p = same_total living_of vs id v a at refl in omega arith) in
      let owned : (p : ℕ) → total (owns p) (ws ++ b ∷ []) ≡ total (owns p) vs = λ p. let o = total_snoc (owns p) ws b in let q = same_total (owns p) vs id v a at refl in omega arith in
      let idle_plays : (st : Stage) → st ≡ Idle → Plays st → ⊥ = λ st e p. subst Plays e p in
      let idle_holds : (st : Stage) (t : ℕ) → st ≡ Idle → Holds st t → ⊥ = λ st t e p. subst (λ (z : Stage). Holds z t) e p in
      let n : ℕ = total tickets_of (ws ++ b ∷ []) in
      record {
        served = kept.served;
        now = now;
        words = kept.words ∙ ap (λ (z : ℕ). length now ∷ (kept.served + z) % 2 ^ 64 ∷ kept.served % 2 ^ 64 ∷ []) (sym as_many);
        slot = ⊎_elim
            (λ t. inl (t.0, t.1, t.2, t.3, each_snoc (λ u. Plays u.stage → ⊥) ws b (idle_plays b.stage idle) (each_set (λ j u. Plays u.stage → ⊥) vs id a (idle_plays a.stage idle) (λ j u _ e. t.4 j u e))))
            (λ t. inr (
              t.0,
              (
                t.1.0,
                t.1.1,
                at_longer ws (b ∷ []) t.1.0 t.1.1 (set_else vs id t.1.0 a
                    (λ e. idle_plays v.stage idle (subst (λ (z : V). Plays z.stage) (sym (one_at vs id v t.1.1 at (subst (λ (z : ℕ). get_elem? vs z ≡ some t.1.1) e t.1.2))) t.1.3)) ∙ t.1.2),
                t.1.3,
              ),
            )) kept.slot;
        views = record {
          each = each_snoc (Sound ts now) ws b (mine.0, mine.1, mine.2, mine.3, λ p. omega arith) (each_set (λ j u. Sound ts now u) vs id a mine (λ j u _ e. r.each j u e));
          few = omega arith;
          whole = (let o = r.whole in dite (ℕ_discrete o.0 id)
              (λ e. let same = one_at vs id v o.1 at (subst (λ (z : ℕ). get_elem? vs z ≡ some o.1) e o.2) in (id, a, at_longer ws (b ∷ []) id a (set_at vs id v a at), living, ap (λ z. z.seen) same ∙ o.4))
              (λ ne. (o.0, o.1, at_longer ws (b ∷ []) o.0 o.1 (set_else vs id o.0 a ne ∙ o.2), o.3, o.4)));
          leads = at_old (λ j u. u.first ≡ true → (j ≡ 0) × (total living_of (ws ++ b ∷ []) ≡ 1 + u.out)) ws b (λ j h. absurd (true≢false (sym h)))
              (each_set (λ j u. u.first ≡ true → (j ≡ 0) × (total living_of (ws ++ b ∷ []) ≡ 1 + u.out)) vs id a (λ h. (led0, omega arith))
              (λ j u ne e h. let o = r.leads j u e h in absurd (ne (o.0 ∙ sym led0))));
          opened = r.opened;
          owned = λ p. subst (OnceFrom (length opening) (length now) p) (sym (owned p)) (r.owned p);
        };
        tickets = record {
          fits = each_snoc (λ u. Fits kept.served n now u u.stage) ws b (subst (Fits kept.served n now b) (sym idle) tt)
              (each_set (λ j u. Fits kept.served n now u u.stage) vs id a (subst (Fits kept.served n now a) (sym idle) tt) (λ j u _ e. fits_grow kept.served (total tickets_of vs) n now u u.stage (omega arith) (l.fits j u e)));
          apart = λ j k u x t ej ek hu hx.
              at_old (λ i y. Holds y.stage t → i ≡ k) ws b (λ i h. absurd (idle_holds b.stage t idle h))
              (each_set (λ i y. Holds y.stage t → i ≡ k) vs id a (λ h. absurd (idle_holds a.stage t idle h))
              (λ i y ne e hy. at_old (λ m z. Holds z.stage t → i ≡ m) ws b (λ m h. absurd (idle_holds b.stage t idle h))
              (each_set (λ m z. Holds z.stage t → i ≡ m) vs id a (λ h. absurd (idle_holds a.stage t idle h)) (λ m z _ e' hz. l.apart i m y z t e e' hy hz)) k x ek hx)) j u ej hu;
        };
      }

  pub joins : (id : ℕ) (v : V) (other : ℕ) (w : V) → v.first ≡ true → v.living ≡ 1 → v.stage ≡ Idle → w.living ≡ 1 → w.stage ≡ Idle → Joins Rule id v other w (both_of v w) spent
  joins id v other w first living idle living' idle' s kept at ne ato =
      let a : V = both_of v w in let vs = s.views in let ws : List V = set vs id a in let us : List V = set ws other spent in let r = kept.views in let l = kept.tickets in let now = kept.now in
      let atw : get_elem? vs other ≡ some w = sym (set_else vs id other a ne) ∙ ato in
      let here : get_elem? us id ≡ some a = set_else ws other id spent (λ e. ne (sym e)) ∙ set_at vs id v a at in
      let mine = r.each id v at in let yours = r.each other w atw in let long = longer_is now v.seen w.seen mine.0 yours.0 in
      let led = r.leads id v at first in let led0 = led.0 in let led1 = led.1 in
      let none_here : ticket_of v.stage ≡ 0 = ap ticket_of idle in let none_there : ticket_of w.stage ≡ 0 = ap ticket_of idle' in
      let as_many : total tickets_of us ≡ total tickets_of vs = (let o = total_set tickets_of ws other w spent ato in let p = same_total tickets_of vs id v a at refl in omega arith) in
      let lives_less : total living_of us + 1 ≡ total living_of vs = (let o = total_set living_of ws other w spent ato in let p = same_total living_of vs id v a at refl in omega arith) in
      let two = total_two living_of vs id other v w at atw (λ e. ne (sym e)) in
      let owned : (p : ℕ) → total (owns p) us ≡ total (owns p) vs =
      λ p. let o = total_set (owns p) ws other w spent ato in let q = total_set (owns p) vs id v a at in let t = times_append p v.places w.places in omega arith in
      let not_plays : (st : Stage) → st ≡ Idle → Plays st → ⊥ = λ st e p. subst Plays e p in
      let not_holds : (st : Stage) (t : ℕ) → st ≡ Idle → Holds st t → ⊥ = λ st t e p. subst (λ (z : Stage). Holds z t) e p in
      let all : (P : ℕ → V → Type 0) → P id a → P other spent → ((j : ℕ) (u : V) → j ≢ id → j ≢ other → get_elem? vs j ≡ some u → P j u) → (j : ℕ) (u : V) → get_elem? us j ≡ some u → P j u =
      λ P p q others. each_set P ws other spent q (λ j u n e. each_set (λ i y. i ≢ other → P i y) vs id a (λ _. p) (λ i y n' e' n''. others i y n' n'' e') j u e n) in
      let n : ℕ = total tickets_of us in
      record {
        served = kept.served;
        now = now;
        words = kept.words ∙ ap (λ (z : ℕ). length now ∷ (kept.served + z) % 2 ^ 64 ∷ kept.served % 2 ^ 64 ∷ []) (sym as_many);
        slot = ⊎_elim
            (λ t. inl (t.0, t.1, t.2, t.3, all (λ j u. Plays u.stage → ⊥) (not_plays a.stage idle) (λ p. p) (λ j u _ _ e. t.4 j u e)))
            (λ t. inr (
              t.0,
              (
                t.1.0,
                t.1.1,
                set_else ws other t.1.0 spent (λ e. not_plays w.stage idle' (subst (λ (z : V). Plays z.stage) (sym (one_at vs other w t.1.1 atw (subst (λ (z : ℕ). get_elem? vs z ≡ some t.1.1) e t.1.2))) t.1.3))
                    ∙ set_else vs id t.1.0 a (λ e. not_plays v.stage idle (subst (λ (z : V). Plays z.stage) (sym (one_at vs id v t.1.1 at (subst (λ (z : ℕ). get_elem? vs z ≡ some t.1.1) e t.1.2))) t.1.3)) ∙ t.1.2,
                t.1.3,
              ),
            )) kept.slot;
        views = record {
          each = all (λ j u. Sound ts now u)
              (long.0, long.1, mine.2, mine.3, λ p. let o = total_one (owns p) us id a here in let q = owned p in let c = at_most (length opening) (length now) p _ (r.owned p) in omega arith)
              (begins_nil now, begins_self [], (λ e. absurd (omega arith)), omega arith, λ p. omega arith) (λ j u _ _ e. r.each j u e);
          few = (let f = r.few in omega arith);
          whole = (let o = r.whole in dite (ℕ_discrete o.0 id)
              (λ e. let same = one_at vs id v o.1 at (subst (λ (z : ℕ). get_elem? vs z ≡ some o.1) e o.2) in (id, a, here, living, long.2 (ap (λ z. z.seen) same ∙ o.4)))
              (λ n₁. dite (ℕ_discrete o.0 other)
              (λ e. let same = one_at vs other w o.1 atw (subst (λ (z : ℕ). get_elem? vs z ≡ some o.1) e o.2) in (id, a, here, living, long.3 (ap (λ z. z.seen) same ∙ o.4)))
              (λ n₂. (o.0, o.1, set_else ws other o.0 spent n₂ ∙ set_else vs id o.0 a n₁ ∙ o.2, o.3, o.4))));
          leads = all (λ j u. u.first ≡ true → (j ≡ 0) × (total living_of us ≡ 1 + u.out)) (λ _. (led0, omega arith)) (λ h. absurd (true≢false (sym h)))
              (λ j u n' _ e h. let o = r.leads j u e h in absurd (n' (o.0 ∙ sym led0)));
          opened = r.opened;
          owned = λ p. subst (OnceFrom (length opening) (length now) p) (sym (owned p)) (r.owned p);
        };
        tickets = record {
          fits = all (λ j u. Fits kept.served n now u u.stage) (subst (Fits kept.served n now a) (sym idle) tt) tt (λ j u _ _ e. fits_grow kept.served (total tickets_of vs) n now u u.stage (omega arith) (l.fits j u e));
          apart = λ j k u x t ej ek hu hx. all (λ i y. Holds y.stage t → i ≡ k) (λ h. absurd (not_holds a.stage t idle h)) (λ h. absurd h)
              (λ i y _ _ e hy. all (λ m z. Holds z.stage t → i ≡ m) (λ h. absurd (not_holds a.stage t idle h)) (λ h. absurd h) (λ m z _ _ e' hz. l.apart i m y z t e e' hy hz) k x ek hx) j u ej hu;
        };
      }

  -- at the end the slot has all that the first pass has seen, and each event since the opening is the first pass's
  pub closes : (id : ℕ) (v : V) → v.first ≡ true → v.out ≡ 0 → v.living ≡ 1 → v.stage ≡ Idle → (ws : List ℕ) (xs : List (Option S)) → Final (Table.Seen Rule id v) ws xs → (r : Option S) → get_elem? xs 0 ≡ some r
      → (x : S) × (r ≡ Some x) × (past x ≡ v.seen) × (setup x ≡ ts) × Begins v.seen opening × ((p : ℕ) → OnceFrom (length opening) (length v.seen) p (times p v.places))
  closes id v first out living idle ws xs fin r found =
      let s = fin.0 in let kept = fin.1.0 in let at = fin.1.1 in let vs = s.views in let views = kept.views in
      let seen = saw_all setup history key 1 kept.now vs id v views at living first out in
      let alone = (views.leads id v at first).1 in
      let others : (p j : ℕ) (u : V) → j ≢ id → get_elem? vs j ≡ some u → owns p u ≡ 0 =
      λ p j u ne e. let two = total_two living_of vs j id u v e at ne in let o = (views.each j u e).4 p in omega arith in
      let places : (p : ℕ) → OnceFrom (length opening) (length v.seen) p (times p v.places) =
      λ p. subst (λ (z : ℕ × ℕ). OnceFrom (length opening) z.0 p z.1) (λ i. (sym (ap length seen) i, total_only (owns p) vs id v at (others p) i)) (views.owned p) in
      let opened = subst (λ (z : List Event). Begins z opening) (sym seen) views.opened in ⊎_elim
      (λ h. (h.0, some-injective r (Some h.0) (sym found ∙ fin.4 0 (Some h.0) (ap (λ (z : List (maybe.Option (Option S))). get_elem? z 0) h.1)), h.2 ∙ sym seen, h.3, opened, places))
      (λ h. let j = h.1.0 in let u = h.1.1 in let g = (plays_served kept.served (total tickets_of vs) kept.now u u.stage (kept.tickets.fits j u h.1.2) h.1.3).1 in
      dite (ℕ_discrete j id)
      (λ e. absurd (subst Plays idle (subst (λ (z : V). Plays z.stage) (sym (one_at vs id v u at (subst (λ (z : ℕ). get_elem? vs z ≡ some u) e h.1.2))) h.1.3)))
      (λ ne. let two = total_two living_of vs j id u v h.1.2 at ne in absurd (omega arith))) kept.slot

  -- the same in the words of the contract, of the state that was taken
  pub closed : (z z' : TableId) (l : LockFacts) (p : PassFacts) (id : ℕ) (v : V) → record { id = z; setup = ts; opening = opening } ≡ l → facts_of z' v ≡ p → IsAlone p → v.stage ≡ Idle → v.living ≡ 1
      → (ws : List ℕ) (xs : List (Option S)) → Final (Table.Seen Rule id v) ws xs → (r : Option S) → get_elem? xs 0 ≡ some r
      → ((x : S) × (r ≡ Some x)) × ((y : S) → r ≡ Some y → (setup y ≡ l.setup) × (past y ≡ p.seen)) × (Begins p.seen l.opening × OwnsAll l p)
  closed z z' l p id v lock pass alone idle living ws xs fin r found =
      let o = closes id v (ap (λ q. q.first) pass ∙ alone.0) (ap (λ q. q.out) pass ∙ alone.1) living idle ws xs fin r found in
      subst (λ (q : LockFacts × PassFacts). ((x : S) × (r ≡ Some x)) × ((y : S) → r ≡ Some y → (setup y ≡ q.0.setup) × (past y ≡ q.1.seen)) × (Begins q.1.seen q.0.opening × OwnsAll q.0 q.1)) (λ i. (lock i, pass i))
      ((o.0, o.1), (λ y f. subst (λ (x : S). (setup x ≡ ts) × (past x ≡ v.seen)) (same_some o.0 r o.0 y o.1 f) (o.3, o.2)), (o.4, o.5))
