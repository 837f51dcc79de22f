-- Each step of a turn keeps the rule.
-- By the lemmas of `Views` and `Totals` on the view that changes, and by arithmetic modulo 2^64 on the words.
use Rattle.std.proofs.Common.{◌≡◌, ◌≢◌, ℕ, zero, suc, ◌+◌, ◌%◌, ◌^◌, ◌<◌, ◌≤◌, List, [], ◌∷◌, ◌++◌, length, set, get_or, sym, refl, ap, ◌∙◌, subst, inl, inr, ⊎_elim, arith, true, Option, Some, length-append}
use mathlib.Core.Option.{some, none, some-injective, some-ne-none}
use mathlib.Core.Option as maybe
use mathlib.Core.Logic.{dite}
use native.Mathlib.Decide.{ℕ_discrete, dec_le}
use lib.ListN.{get_elem?}
use Rattle.atomic_table.specs.Table.{State, Me, step, keeps, takes, gives, stepped, put_back, Allows}
use Rattle.atomic_table.specs.Table as Table
use Rattle.atomic_table.proofs.Lists.{set_else, set_again, one_turn}
use Rattle.turn_lock.specs.declared.view.View.{View}
use Rattle.turn_lock.specs.Stages.{Stage}
use Rattle.turn_lock.specs.Stages.{Idle, Waiting, Playing}
use Rattle.hist_model.specs.declared.event.Event.{Event}
use Rattle.hist_model.specs.declared.history.Setup.{Setup}
use Rattle.hist_model.specs.Histories.{Seen}
use Rattle.turn_lock.specs.Lists.{Begins, places_of, times, OnceFrom}
use Rattle.turn_lock.specs.Rule.{living_of, ticket_of, tickets_of, owns, total, Holds, Plays, Fits, Sound, Views, Slot, LockRule, first_view}
use Rattle.turn_lock.specs.Turns.{Looked, Published, published, Claimed, Released, Checked}
use Rattle.turn_lock.proofs.Lists.{begins_self, begins_nil, begins_trans, begins_length, times_append, at_most, places_once}
use Rattle.turn_lock.proofs.Totals.{total_set, total_one, total_two}
use Rattle.turn_lock.proofs.Views.{one_at, set_at, each_set, same_total, views_set, views_same, whole_same, fits_grow, fits_waits, fits_next, held_within, plays_served, apart_set, few_tickets}

abbrev ticket_no : Stage → ℕ
ticket_no Idle = 0
ticket_no (Waiting t) = t
ticket_no (Playing t) = t

waiting_is : {a b : ℕ} → Waiting a ≡ Waiting b → a ≡ b
waiting_is {a} {b} e = ap ticket_no e

module _ {S : Type 0} (setup : S → Setup) (history : S → Seen) (key : S) (slots : ℕ) where
  abbrev V : Type 0
  V = View

  abbrev M : Type 0
  M = Me (Option S) View

  abbrev St : Type 0
  St = State (Option S) View

  abbrev Rule : St → Type 0
  Rule = LockRule setup history key

  abbrev ts : Setup
  ts = setup key

  abbrev past : S → List Event
  past x = (history x).events

  abbrev opening : List Event
  opening = past key

  -- the slot is as it was, where the views that play are as they were
  home_same : (now : List Event) (vs : List V) (homes : List (maybe.Option (Option S))) (id : ℕ) (v w : V) → get_elem? vs id ≡ some v → (Plays v.stage → Plays w.stage) → (Plays w.stage → Plays v.stage)
      → Slot setup history ts now vs homes → Slot setup history ts now (set vs id w) homes
  home_same now vs homes id v w at to from h = ⊎_elim
      (λ t. inl (t.0, t.1, t.2, t.3, each_set (λ j u. Plays u.stage → ⊥) vs id w (λ p. t.4 id v at (from p)) (λ j u _ e. t.4 j u e)))
      (λ t. inr (
        t.0,
        dite (ℕ_discrete t.1.0 id)
            (λ e. let at' : get_elem? vs id ≡ some t.1.1 = subst (λ (z : ℕ). get_elem? vs z ≡ some t.1.1) e t.1.2 in (id, w, set_at vs id v w at, to (subst (λ (z : V). Plays z.stage) (sym (one_at vs id v t.1.1 at at')) t.1.3)))
            (λ ne. (t.1.0, t.1.1, set_else vs id t.1.0 w ne ∙ t.1.2, t.1.3)),
      )) h

  -- a seat that plays has the slot, and no other plays
  away : (served : ℕ) (now : List Event) (vs : List V) (homes : List (maybe.Option (Option S))) (id : ℕ) (v : V) → get_elem? vs id ≡ some v → Plays v.stage → Slot setup history ts now vs homes → homes ≡ none ∷ []
  away served now vs homes id v at p h = ⊎_elim (λ t. absurd (t.4 id v at p)) (λ t. t.0) h

  pub claims : (id : ℕ) (me : M) → me.0.stage ≡ Idle → me.0.living ≡ 1 → Allows Rule slots id me 1 (λ n. (n + 1) % 2 ^ 64) (Claimed (step slots 1 1 0 none) me)
  claims id me idle living s kept deep at below =
      let v = me.0 in let served = kept.served in let n = total tickets_of s.views in let w : V = record v { stage = Waiting (served + n) } in
      let was : ticket_of v.stage ≡ 0 = ap ticket_of idle in
      let more : total tickets_of (set s.views id w) ≡ n + 1 = (let o = total_set tickets_of s.views id v w at in omega arith) in
      let found : get_or s.words 1 0 ≡ (served + n) % 2 ^ 64 = ap (λ (z : List ℕ). get_or z 1 0) kept.words in
      let next : ((served + n) % 2 ^ 64 + 1) % 2 ^ 64 ≡ (served + total tickets_of (set s.views id w)) % 2 ^ 64 = omega arith in
      let r = kept.views in let l = kept.tickets in (
        w,
        keeps,
        tt,
        record {
          served = served;
          now = kept.now;
          words = ap (λ (z : List ℕ). set z 1 ((get_or z 1 0 + 1) % 2 ^ 64)) kept.words ∙ ap (λ (z : ℕ). length kept.now ∷ z ∷ served % 2 ^ 64 ∷ []) next;
          slot = home_same kept.now s.views s.homes id v w at (λ p. absurd (subst Plays idle p)) (λ p. absurd p) kept.slot;
          views = views_same ts opening kept.now kept.now s.views id v w refl r at refl refl refl refl refl (r.each id v at).0 (r.each id v at).1 (whole_same ts opening kept.now s.views id v w r at refl refl);
          tickets = record {
            fits = each_set (λ j u. Fits served (total tickets_of (set s.views id w)) kept.now u u.stage) s.views id w (living, omega arith, omega arith)
                (λ j u ne e. fits_grow served n (total tickets_of (set s.views id w)) kept.now u u.stage (omega arith) (l.fits j u e));
            apart = apart_set served kept.now s.views id w l (λ k u t ne e hu hw. let o = held_within served n kept.now u u.stage t (l.fits k u e) hu in let a = o.0 in let b = o.1 in absurd (omega arith));
          };
        },
        (served + n, found, refl),
      )

  -- the ticket served is this one, exactly where the word says so
  served : (s : St) (kept : Rule s) (id : ℕ) (v : V) (t : ℕ) → get_elem? s.views id ≡ some v → v.stage ≡ Waiting t → get_or s.words 2 0 ≡ t % 2 ^ 64 → (t ≡ kept.served) × (v.living ≡ 1) × (0 < total tickets_of s.views)
  served s kept id v t at is hit =
      let served = kept.served in let n = total tickets_of s.views in
      let f : Fits served n kept.now v (Waiting t) = subst (Fits served n kept.now v) is (kept.tickets.fits id v at) in
      let few = few_tickets ts opening served kept.now s.views kept.views kept.tickets in
      let found : get_or s.words 2 0 ≡ served % 2 ^ 64 = ap (λ (z : List ℕ). get_or z 2 0) kept.words in
      let a = f.1 in let b = f.2 in let e : served % 2 ^ 64 ≡ t % 2 ^ 64 = sym found ∙ hit in
      let same : served ≡ t = one_turn served t (2 ^ 64) a (omega arith) e in (sym same, f.0, omega arith)

  -- a load of the word i that changes nothing
  still : (s : St) (kept : Rule s) (id i : ℕ) (v : V) (c : List (ℕ × Option S)) → get_elem? s.views id ≡ some v → set s.words i (get_or s.words i 0) ≡ s.words → Rule (stepped s i (get_or s.words i 0) id c v keeps)
  still s kept id i v c at same = subst (λ (x : List ℕ × List V). Rule record { words = x.0; homes = s.homes; views = x.1 }) (λ k. (sym same k, sym (set_again s.views id v at) k)) kept

  same_word : (s : St) (kept : Rule s) → (set s.words 2 (get_or s.words 2 0) ≡ s.words) × (set s.words 0 (get_or s.words 0 0) ≡ s.words)
  same_word s kept = (subst (λ (z : List ℕ). set z 2 (get_or z 2 0) ≡ z) (sym kept.words) refl, subst (λ (z : List ℕ). set z 0 (get_or z 0 0) ≡ z) (sym kept.words) refl)

  -- the first view has seen all, where no other is out
  pub saw_all : (now : List Event) (vs : List V) (id : ℕ) (v : V) → Views ts opening now vs → get_elem? vs id ≡ some v → v.living ≡ 1 → v.first ≡ true → v.out ≡ 0 → v.seen ≡ now
  saw_all now vs id v r at living first out = let o = r.whole in let c : total living_of vs ≡ 1 = (let d = (r.leads id v at first).1 in omega arith) in
      dite (ℕ_discrete o.0 id)
      (λ e. let at' : get_elem? vs id ≡ some o.1 = subst (λ (z : ℕ). get_elem? vs z ≡ some o.1) e o.2 in ap (λ z. z.seen) (one_at vs id v o.1 at at') ∙ o.4)
      (λ ne. let two = total_two living_of vs o.0 id o.1 v o.2 at ne in let a = o.3 in absurd (omega arith))

  takes_it : (s : St) (kept : Rule s) (id : ℕ) (me : M) (t : ℕ) → get_elem? s.views id ≡ some me.0 → me.0.stage ≡ Waiting t → t ≡ kept.served → me.0.living ≡ 1 → 0 < total tickets_of s.views
      → (x : S) → s.homes ≡ some (Some x) ∷ [] → past x ≡ kept.now → ((j : ℕ) (u : V) → get_elem? s.views j ≡ some u → Plays u.stage → ⊥)
      → Rule (stepped s 2 (get_or s.words 2 0) id me.1 (record me.0 { seen = past x; stage = Playing t }) (takes 0 (Some x)))
  takes_it s kept id me t at is same living some_out x homes whole none_plays =
      let v = me.0 in let served = kept.served in let n = total tickets_of s.views in let w : V = record v { seen = past x; stage = Playing t } in let r = kept.views in let l = kept.tickets in let now = kept.now in
      let was : ticket_of v.stage ≡ 1 = ap ticket_of is in
      let as_many : total tickets_of (set s.views id w) ≡ n = same_total tickets_of s.views id v w at (sym was) in
      let mine = r.each id v at in record {
        served = served;
        now = now;
        words = (same_word s kept).0 ∙ kept.words ∙ ap (λ (z : ℕ). length now ∷ (served + z) % 2 ^ 64 ∷ served % 2 ^ 64 ∷ []) (sym as_many);
        slot = inr (ap (λ (z : List (maybe.Option (Option S))). set z 0 none) homes, (id, w, set_at s.views id v w at, tt));
        views = views_same ts opening now now s.views id v w refl r at refl refl refl refl refl (subst (Begins now) (sym whole) (begins_self now))
            (subst (λ (z : List Event). Begins z v.joined) (sym whole) (begins_trans now v.seen v.joined mine.0 mine.1)) (id, w, set_at s.views id v w at, living, whole);
        tickets = record {
          fits = each_set (λ j u. Fits served (total tickets_of (set s.views id w)) now u u.stage) s.views id w (living, same, omega arith, whole)
              (λ j u ne e. fits_grow served n (total tickets_of (set s.views id w)) now u u.stage (omega arith) (l.fits j u e));
          apart = apart_set served now s.views id w l (λ k u p ne e hu hw. ne (l.apart k id u v p e at hu (subst (λ (z : Stage). Holds z p) (sym is) hw)));
        };
      }

  pub looks : (id : ℕ) (me : M) (t : ℕ) → me.0.stage ≡ Waiting t → Allows Rule slots id me 2 (λ n. n) (Looked setup history (step slots 2 0 0 none) me)
  looks id me t is s kept deep at below =
      let v = me.0 in let same = same_word s kept in
      let told : (u : ℕ) → v.stage ≡ Waiting u → u ≡ t = λ u e. waiting_is (sym e ∙ is) in
      dite (ℕ_discrete (get_or s.words 2 0) (t % 2 ^ 64))
      (λ hit. let f = served s kept id v t at is hit in let mine = kept.views.each id v at in ⊎_elim
      (λ h. (
        record v { seen = past h.0; stage = Playing t },
        takes 0 (Some h.0),
        ap (λ (z : List (maybe.Option (Option S))). get_elem? z 0) h.1,
        takes_it s kept id me t at is f.0 f.1 f.2 h.0 h.1 h.2 h.4,
        (λ u e. (
          (λ _. (
            h.0,
            refl,
            ap (λ (z : ℕ). record v { seen = past h.0; stage = Playing z }) (sym (told u e)),
            subst (λ (z : List Event). Begins z v.seen) (sym h.2) mine.0,
            h.3 ∙ sym (mine.2 f.1),
            (λ first out. h.2 ∙ sym (saw_all kept.now s.views id v kept.views at f.1 first out)),
          )),
          (λ ne. absurd (ne (hit ∙ ap (λ (z : ℕ). z % 2 ^ 64) (sym (told u e))))),
        )),
      ))
      (λ h. let g = plays_served kept.served (total tickets_of s.views) kept.now h.1.1 h.1.1.stage (kept.tickets.fits h.1.0 h.1.1 h.1.2) h.1.3 in
      let here : h.1.0 ≡ id = kept.tickets.apart h.1.0 id h.1.1 v kept.served h.1.2 at g.0 (subst (λ (z : Stage). Holds z kept.served) (sym is) f.0) in
      let at' : get_elem? s.views id ≡ some h.1.1 = subst (λ (z : ℕ). get_elem? s.views z ≡ some h.1.1) here h.1.2 in
      absurd (subst Plays (ap (λ z. z.stage) (one_at s.views id h.1.1 v at' at) ∙ is) h.1.3)) kept.slot)
      (λ miss. (v, keeps, tt, still s kept id 2 v me.1 at same.0, (λ u e. ((λ h. absurd (miss (h ∙ ap (λ (z : ℕ). z % 2 ^ 64) (told u e)))), (λ _. refl)))))

  -- a view that plays: what its stage says
  playing : (s : St) (kept : Rule s) (id : ℕ) (v : V) (t : ℕ) → get_elem? s.views id ≡ some v → v.stage ≡ Playing t → (v.living ≡ 1) × (t ≡ kept.served) × (0 < total tickets_of s.views) × (v.seen ≡ kept.now)
  playing s kept id v t at is = subst (Fits kept.served (total tickets_of s.views) kept.now v) is (kept.tickets.fits id v at)

  -- no other view has the ticket that is served
  alone : (s : St) (kept : Rule s) (id : ℕ) (v : V) (t : ℕ) → get_elem? s.views id ≡ some v → v.stage ≡ Playing t → (j : ℕ) (u : V) → j ≢ id → get_elem? s.views j ≡ some u → Holds u.stage kept.served → ⊥
  alone s kept id v t at is j u ne e h = ne (kept.tickets.apart j id u v kept.served e at h (subst (λ (z : Stage). Holds z kept.served) (sym is) (playing s kept id v t at is).1))

  pub publishes : (id : ℕ) (me : M) (t : ℕ) (x : S) (more : List Event) (new : ℕ) → me.0.stage ≡ Playing t → me.1 ≡ (0, Some x) ∷ [] → past x ≡ more ++ me.0.seen → new ≡ length (past x)
      → Allows Rule slots id me 0 (λ _. new) (λ _. Published setup history (step slots 0 new 0 none) me new)
  publishes id me t x more new is has grown long s kept deep at below =
      let v = me.0 in let served = kept.served in let n = total tickets_of s.views in let w : V = published v more in let r = kept.views in let l = kept.tickets in let now = kept.now in
      let now' : List Event = more ++ now in
      let f = playing s kept id v t at is in let others = alone s kept id v t at is in
      let whole : w.seen ≡ now' = ap (λ (z : List Event). more ++ z) f.3 in
      let as_many : total tickets_of (set s.views id w) ≡ n = same_total tickets_of s.views id v w at refl in
      let mine = r.each id v at in let len : length v.seen ≡ length now = ap length f.3 in let len' : length now' ≡ length more + length now = length-append more now in
      let added : (p : ℕ) → total (owns p) (set s.views id w) ≡ total (owns p) s.views + times p (places_of more (length v.seen)) =
      λ p. let o = total_set (owns p) s.views id v w at in let a = times_append p (places_of more (length v.seen)) v.places in omega arith in
      let from = begins_length now opening r.opened in
      let once : (p : ℕ) → OnceFrom (length opening) (length now') p (total (owns p) (set s.views id w)) =
      λ p. let a = added p in let b = places_once p more (length v.seen) in let o = r.owned p in (
        λ l m. dite (dec_le (length now) p) (λ le. let z = o.2 le in let y = b.0 (omega arith) (omega arith) in omega arith) (λ gt. let z = o.0 l (omega arith) in let y = b.1 (omega arith) in omega arith),
        λ l. let z = o.1 l in let y = b.1 (omega arith) in omega arith,
        λ l. let z = o.2 (omega arith) in let y = b.2 (omega arith) in omega arith,
      ) in
      let once_most : (p : ℕ) → total (owns p) (set s.views id w) ≤ 1 = λ p. at_most (length opening) (length now') p _ (once p) in
      let fresh : new ≡ length now' = long ∙ ap length (grown ∙ whole) in (
        w,
        keeps,
        tt,
        record {
          served = served;
          now = now';
          words = ap (λ (z : List ℕ). set z 0 new) kept.words ∙ ap (λ (z : ℕ × ℕ). z.0 ∷ (served + z.1) % 2 ^ 64 ∷ served % 2 ^ 64 ∷ []) (λ i. (fresh i, sym as_many i));
          slot = inr (away served now s.views s.homes id v at (subst Plays (sym is) tt) kept.slot, (id, w, set_at s.views id v w at, subst Plays (sym is) tt));
          views = views_set ts opening now now' s.views id v w r at refl refl refl refl (more, refl) (subst (Begins now') (sym whole) (begins_self now')) (begins_trans w.seen v.seen v.joined (more, refl) mine.1)
              (λ p. let a = total_one (owns p) (set s.views id w) id w (set_at s.views id v w at) in let c = once_most p in let e = f.0 in omega arith)
              (id, w, set_at s.views id v w at, f.0, whole) once;
          tickets = record {
            fits = each_set (λ j u. Fits served (total tickets_of (set s.views id w)) now' u u.stage) s.views id w (subst (Fits served (total tickets_of (set s.views id w)) now' w) (sym is) (f.0, f.1, (let a = f.2 in omega arith), whole))
                (λ j u ne e. fits_grow served n (total tickets_of (set s.views id w)) now' u u.stage (omega arith) (fits_waits served n now now' u u.stage (others j u ne e) (l.fits j u e)));
            apart = apart_set served now s.views id w l (λ k u p ne e hu hw. ne (l.apart k id u v p e at hu hw));
          };
        },
        (x, more, has, grown, refl, (λ p. let a = total_one (owns p) (set s.views id w) id w (set_at s.views id v w at) in let c = once_most p in omega arith)),
      )

  pub releases : (id : ℕ) (me : M) (t : ℕ) (x : S) → me.0.stage ≡ Playing t → me.1 ≡ (0, Some x) ∷ [] → past x ≡ me.0.seen → setup x ≡ me.0.setup
      → Allows Rule slots id me 2 (λ n. (n + 1) % 2 ^ 64) (Released (step slots 2 1 0 none) me)
  releases id me t x is has grown same_terms s kept deep at below =
      let v = me.0 in let served = kept.served in let n = total tickets_of s.views in let w : V = record v { stage = Idle } in let r = kept.views in let l = kept.tickets in let now = kept.now in
      let f = playing s kept id v t at is in let others = alone s kept id v t at is in let mine = r.each id v at in let some_out = f.2 in
      let was : ticket_of v.stage ≡ 1 = ap ticket_of is in
      let less : n ≡ total tickets_of (set s.views id w) + 1 = (let o = total_set tickets_of s.views id v w at in omega arith) in
      let m : ℕ = total tickets_of (set s.views id w) in
      let next : (served % 2 ^ 64 + 1) % 2 ^ 64 ≡ (served + 1) % 2 ^ 64 = omega arith in
      let line_up : (served + n) % 2 ^ 64 ≡ ((served + 1) + m) % 2 ^ 64 = ap (λ (z : ℕ). z % 2 ^ 64) (omega arith) in (
        w,
        gives,
        tt,
        record {
          served = served + 1;
          now = now;
          words = ap (λ (z : List ℕ). set z 2 ((get_or z 2 0 + 1) % 2 ^ 64)) kept.words ∙ ap (λ (z : ℕ × ℕ). length now ∷ z.0 ∷ z.1 ∷ []) (λ i. (line_up i, next i));
          slot = inl (
            x,
            ap (put_back s.homes) has ∙ ap (λ (z : List (maybe.Option (Option S))). set z 0 (some (Some x))) (away served now s.views s.homes id v at (subst Plays (sym is) tt) kept.slot),
            grown ∙ f.3,
            same_terms ∙ mine.2 f.0,
            each_set (λ j u. Plays u.stage → ⊥) s.views id w (λ p. p) (λ j u ne e p. others j u ne e (plays_served served n now u u.stage (l.fits j u e) p).0),
          );
          views = views_same ts opening now now s.views id v w refl r at refl refl refl refl refl mine.0 mine.1 (whole_same ts opening now s.views id v w r at refl refl);
          tickets = record {
            fits = each_set (λ j u. Fits (served + 1) m now u u.stage) s.views id w tt (λ j u ne e. fits_next served n m now u u.stage less (others j u ne e) (l.fits j u e));
            apart = apart_set served now s.views id w l (λ k u p ne e hu hw. hw);
          };
        },
        refl,
      )

  pub checks : (id : ℕ) (me : M) → Allows Rule slots id me 0 (λ n. n) (Checked (step slots 0 0 0 none) me)
  checks id me s kept deep at below = let v = me.0 in let mine = kept.views.each id v at in
      (v, keeps, tt, still s kept id 0 v me.1 at (same_word s kept).1, (refl, mine.1, (λ p. let o = total_one (owns p) s.views id v at in let c = at_most (length opening) (length kept.now) p _ (kept.views.owned p) in omega arith)))

  first_alone : (P : ℕ → V → Type 0) → P 0 (first_view setup history key) → (j : ℕ) (u : V) → get_elem? (first_view setup history key ∷ []) j ≡ some u → P j u
  first_alone P p zero u e = subst (P 0) (some-injective _ u e) p
  first_alone P p (suc j) u e = absurd (some-ne-none u (sym e))

  pub opens : (n : ℕ) (x : S) → x ≡ key → n ≡ length (past key) → Rule (Table.opening (n ∷ 0 ∷ 0 ∷ []) (Some x ∷ []) (first_view setup history key))
  opens n x e long = record {
    served = 0;
    now = past key;
    words = ap (λ (z : ℕ). z ∷ 0 ∷ 0 ∷ []) long;
    slot = inl (x, refl, ap past e, ap setup e, first_alone (λ j u. Plays u.stage → ⊥) (λ p. p));
    views = record {
      each = first_alone (λ j u. Sound ts (past key) u) (begins_self (past key), begins_nil (past key), (λ _. refl), omega arith, λ p. omega arith);
      few = omega arith;
      whole = (0, first_view setup history key, refl, refl, refl);
      leads = first_alone (λ j u. u.first ≡ true → (j ≡ 0) × (1 ≡ 1 + u.out)) (λ _. (refl, refl));
      opened = begins_self (past key);
      owned = λ p. (λ l m. absurd (omega arith), λ _. refl, λ _. refl);
    };
    tickets = record {
      fits = first_alone (λ j u. Fits 0 0 (past key) u u.stage) tt;
      apart = λ j k v w t a b hv hw. first_alone (λ i u. Holds u.stage t → i ≡ k) (λ h. absurd h) j v a hv;
    };
  }
