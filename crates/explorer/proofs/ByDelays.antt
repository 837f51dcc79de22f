-- What is told of walks by their delays, with a walk more; and what it comes to for the explored histories, put together.
-- By cases on whether the walk has a number of delays, and by induction on the numbers of which nothing is told.
use Rattle.std.proofs.Common.{◌≡◌, ℕ, zero, suc, ◌+◌, ◌-◌, ◌<◌, ◌≤◌, ◌==◌, Bool, true, false, List, [], ◌∷◌, ◌++◌, length, get_or, set, take, sum_by, refl, sym, ◌∙◌, ap, subst, arith, add-one, append-nil, eqb-true, eq-eqb, ne_eqb, length-append}
use Rattle.std.proofs.lemmas.List.Sums.{sum_by-set, sum_by-take-le, sum_by_more_le, sum_by_push}
use Rattle.std.proofs.lemmas.List.{get_or-set_other, get_or-set_same, get_or_append_left, get_or_push, length-set, take_more}
use Rattle.hist_model.specs.declared.event.Event.{Event}
use Rattle.hist_model.specs.declared.policy.Policy.{Policy}
use Rattle.hist_model.specs.declared.script.Script.{Script}
use Rattle.delay_bounded.specs.Explored.{Walk, closed, explored, walks_of, with_delays, with_left}
use Rattle.delay_bounded.proofs.Left.{left_append, within_more}
use Rattle.explorer.specs.Telling.{IsReady, TellsBy, TellsOf, with_fewer}
use Rattle.explorer.specs.declared.by_delays.ByDelays.{ByDelays}
use Rattle.explorer.specs.declared.tally.Tally.{Tally}

-- of no walk nothing is told
pub none_told : (P : Policy) (S : Script) (b : ByDelays) → b.tallies.items ≡ [] → b.events ≡ 0 → TellsBy P S [] b
none_told P S b e z = record {
  tells = λ d t l. absurd (omega (arith, ap length e));
  none_else = λ d l m. refl;
  within = omega (arith, ap length e);
  events = z ∙ rw e refl;
}

-- ---- A place more

lower : (a b : ℕ) → (a == b) ≡ false → a ≤ b → a < b
lower a b e l = omega (arith, false_ne a b e)
  where
    false_ne : (a b : ℕ) → (a == b) ≡ false → a ≡ b → ⊥
    false_ne a b e s = let yes : (a == b) ≡ true = eq-eqb a b s in cc

module _ (P : Policy) (S : Script) (ws : List Walk) (old : ByDelays) (t : TellsBy P S ws old) (none : Tally) (tells : TellsOf P S [] none) (room : length old.tallies.items ≤ old.bound) where
  told_at : (d : ℕ) (x : Tally) (b : Bool) → (d == length old.tallies.items) ≡ b → d < length old.tallies.items + 1 → TellsOf P S (with_left P S (old.bound - d) ws) (get_or (old.tallies.items ++ none ∷ []) d x)
  told_at d x true e l =
      let same : length old.tallies.items ≡ d = sym (eqb-true d (length old.tallies.items) e) in
      rw (get_or_push old.tallies.items none x d same, t.none_else d (omega arith) (omega arith)) tells
  told_at d x false e l =
      let less : d < length old.tallies.items = lower d (length old.tallies.items) e (omega arith) in
      rw (get_or_append_left old.tallies.items (none ∷ []) x d less) (t.tells d x less)

  pub placed : (new : ByDelays) → new.bound ≡ old.bound → new.events ≡ old.events → new.tallies.items ≡ old.tallies.items ++ none ∷ [] → TellsBy P S ws new
  placed new bound events is =
      let long : length new.tallies.items ≡ length old.tallies.items + 1 = ap length is ∙ length-append old.tallies.items (none ∷ []) in
      record {
        tells = λ d x l. rw (bound, is) (told_at d x (d == length old.tallies.items) refl (omega (arith, long)));
        none_else = λ d l m. rw bound (t.none_else d (omega (arith, long)) (omega (arith, bound)));
        within = omega (arith, long, bound);
        events = events ∙ (t.events ∙ rw (is, sum_by_push (λ (y : Tally). y.events) old.tallies.items none, tells.events) (omega arith));
      }

-- ---- A walk more

module _ (P : Policy) (S : Script) (ws : List Walk) (w : Walk) where
  with_it : (k : ℕ) → w.left ≡ k → with_left P S k (ws ++ w ∷ []) ≡ with_left P S k ws ++ closed P S w ∷ []
  with_it k e = left_append P S k ws (w ∷ []) ∙ rw (eq-eqb w.left k e) refl

  without_it : (k : ℕ) → (w.left ≡ k → ⊥) → with_left P S k (ws ++ w ∷ []) ≡ with_left P S k ws
  without_it k e = left_append P S k ws (w ∷ []) ∙ rw (ne_eqb w.left k e, append-nil) refl

  module _ (old : ByDelays) (t : TellsBy P S ws old) (left : ℕ) (is : w.left ≡ left) (fits : left ≤ old.bound) (told : old.bound - left < length old.tallies.items)
      (here tally : Tally) (here_is : here ≡ get_or old.tallies.items (old.bound - left) here) (tells : (L : List (List Event)) → TellsOf P S L here → TellsOf P S (L ++ closed P S w ∷ []) tally) where
    noted_at : (d : ℕ) (x : Tally) (b : Bool) → (d == old.bound - left) ≡ b → d < length old.tallies.items → TellsOf P S (with_left P S (old.bound - d) (ws ++ w ∷ [])) (get_or (set old.tallies.items (old.bound - left) tally) d x)
    noted_at d x true e l =
        let same : d ≡ old.bound - left = eqb-true d (old.bound - left) e in
        let has : w.left ≡ old.bound - (old.bound - left) = omega (arith, is) in
        let before = subst (TellsOf P S (with_left P S (old.bound - (old.bound - left)) ws)) (sym here_is) (t.tells (old.bound - left) here told) in
        rw (same, get_or-set_same old.tallies.items (old.bound - left) tally x told, with_it (old.bound - (old.bound - left)) has) (tells (with_left P S (old.bound - (old.bound - left)) ws) before)
    noted_at d x false e l =
        let other : d ≡ old.bound - left → ⊥ = λ s. (let yes : (d == old.bound - left) ≡ true = eq-eqb d (old.bound - left) s in cc) in
        rw (get_or-set_other old.tallies.items (old.bound - left) d tally x other, without_it (old.bound - d) (λ s. other (omega (arith, is, t.within)))) (t.tells d x l)

    noted : (new : ByDelays) (n : ℕ) → new.bound ≡ old.bound → new.tallies.items ≡ set old.tallies.items (old.bound - left) tally → tally.events ≡ here.events + n → new.events ≡ old.events + n → TellsBy P S (ws ++ w ∷ []) new
    noted new n bound set_is one all =
        let long : length new.tallies.items ≡ length old.tallies.items = ap length set_is ∙ length-set old.tallies.items (old.bound - left) tally in
        let at : here.events ≡ (get_or old.tallies.items (old.bound - left) here).events = ap (λ (y : Tally). y.events) here_is in
        record {
          tells = λ d x l. rw (bound, set_is) (noted_at d x (d == old.bound - left) refl (omega (arith, long)));
          none_else = λ d l m. rw bound (without_it (old.bound - d) (λ s. omega (arith, s, is, told, long, l, m, bound)) ∙ t.none_else d (omega (arith, long)) (omega (arith, bound)));
          within = omega (arith, long, bound, t.within);
          events = rw set_is (omega (arith, one, at, all, t.events, sum_by-set (λ (y : Tally). y.events) old.tallies.items (old.bound - left) tally here told));
        }

-- where there is a place for its delays
module _ (old mid : ByDelays) (left : ℕ) (fits : left ≤ old.bound) (ready : IsReady (old.bound - left) old mid) (here : Tally) (here_is : here ≡ get_or mid.tallies.items (old.bound - left) here) where
  pub here_told : (P : Policy) → ((S : Script) × (ws : List Walk) × TellsBy P S ws old) → (S : Script) × (L : List (List Event)) × TellsOf P S L here
  here_told P (S, ws, t) =
      let told = (ready.tells P S ws t).tells (old.bound - left) here ready.told in
      (S, with_left P S (mid.bound - (old.bound - left)) ws, subst (TellsOf P S (with_left P S (mid.bound - (old.bound - left)) ws)) (sym here_is) told)

  pub here_few : (P : Policy) → ((S : Script) × (ws : List Walk) × TellsBy P S ws old) → here.events ≤ old.events
  here_few P (S, ws, t) =
      let at : here.events ≡ (get_or mid.tallies.items (old.bound - left) here).events = ap (λ (y : Tally). y.events) here_is in
      omega (arith, at, ready.events_are, (ready.tells P S ws t).events, sum_by_more_le (λ (y : Tally). y.events) mid.tallies.items (old.bound - left) here ready.told)

  pub one_noted : (P : Policy) (S : Script) (ws : List Walk) (w : Walk) → w.left ≡ left → (H : List Event) → closed P S w ≡ H → TellsBy P S ws old → (tally : Tally) → ((L : List (List Event)) → TellsOf P S L here → TellsOf P S (L ++ H ∷ []) tally)
      → tally.events ≡ here.events + length H → (new : ByDelays) → new.bound ≡ mid.bound → new.tallies.items ≡ set mid.tallies.items (old.bound - left) tally → new.events ≡ mid.events + length H → TellsBy P S (ws ++ w ∷ []) new
  one_noted P S ws w is H closed_is t tally tells one new bound set_is all =
      let same : old.bound - left ≡ mid.bound - left = ap (λ n. n - left) (sym ready.bound_is) in
      noted P S ws w mid (ready.tells P S ws t) left is (omega (arith, ready.bound_is)) (subst (λ n. n < length mid.tallies.items) same ready.told) here tally
      (subst (λ n. here ≡ get_or mid.tallies.items n here) same here_is)
      (λ L h. subst (λ (K : List Event). TellsOf P S (L ++ K ∷ []) tally) (sym closed_is) (tells L h))
      new (length H) bound (subst (λ n. new.tallies.items ≡ set mid.tallies.items n tally) same set_is) one all

-- ---- Put together

module _ (P : Policy) (S : Script) (W : ℕ) where
  pub fewer_more : (d : ℕ) → with_fewer P S W (d + 1) ≡ with_fewer P S W d ++ with_delays P S W d
  unfolding explored
  fewer_more zero = refl
  fewer_more (suc d) = rw add-one refl

  none_above : (n k : ℕ) → ((d : ℕ) → n ≤ d → d < n + k → with_delays P S W d ≡ []) → with_fewer P S W (n + k) ≡ with_fewer P S W n
  none_above n zero h = let same : n + 0 ≡ n = omega arith in rw same refl
  none_above n (suc k) h =
      let same : n + suc k ≡ n + k + 1 = omega arith in
      let none : with_delays P S W (n + k) ≡ [] = h (n + k) (omega arith) (omega arith) in
      rw (same, fewer_more (n + k), none, append-nil) (none_above n k (λ d l m. h d l (omega arith)))

  module _ (b : ByDelays) (t : TellsBy P S (walks_of P S W b.bound) b) where
    -- those with so many delays
    of_walks : (d : ℕ) → d ≤ b.bound → with_delays P S W d ≡ with_left P S (b.bound - d) (walks_of P S W b.bound)
    of_walks d l = let sum : d + (b.bound - d) ≡ b.bound = omega arith in within_more P S W d (b.bound - d) ∙ ap (λ n. with_left P S (b.bound - d) (walks_of P S W n)) sum

    next_told : (d : ℕ) (x : Tally) → d < length b.tallies.items → TellsOf P S (with_delays P S W d) (get_or b.tallies.items d x)
    next_told d x l = rw (of_walks d (omega (arith, t.within))) (t.tells d x l)

    -- one number of delays more
    pub more_told : (d : ℕ) (x old new : Tally) → d < length b.tallies.items → TellsOf P S (with_fewer P S W d) old
        → ((L M : List (List Event)) → TellsOf P S L old → TellsOf P S M (get_or b.tallies.items d x) → TellsOf P S (L ++ M) new) → TellsOf P S (with_fewer P S W (d + 1)) new
    more_told d x old new l told joined = rw (fewer_more d) (joined (with_fewer P S W d) (with_delays P S W d) told (next_told d x l))

    all_told : with_fewer P S W (length b.tallies.items) ≡ explored P S W b.bound
    all_told =
        let n = length b.tallies.items in
        let sum : n + (b.bound + 1 - n) ≡ suc b.bound = omega (arith, t.within) in
        sym (none_above n (b.bound + 1 - n) (λ d low high. of_walks d (omega arith) ∙ t.none_else d low (omega arith))) ∙ ap (with_fewer P S W) sum

    -- and all of them
    pub whole_told : (n : ℕ) (t : Tally) → n ≡ length b.tallies.items → TellsOf P S (with_fewer P S W n) t → TellsOf P S (explored P S W b.bound) t
    whole_told n x e told = subst (λ (L : List (List Event)). TellsOf P S L x) all_told (subst (λ n. TellsOf P S (with_fewer P S W n) x) e told)

-- ---- One of the tallies

pub told_there : (b : ByDelays) (P : Policy) (S : Script) (ws : List Walk) → TellsBy P S ws b → (d : ℕ) (x : Tally) → d < length b.tallies.items → (L : List (List Event)) × TellsOf P S L (get_or b.tallies.items d x)
told_there b P S ws t d x l = (with_left P S (b.bound - d) ws, t.tells d x l)

pub events_there : (b : ByDelays) (d : ℕ) (x : Tally) → d < length b.tallies.items → sum_by (λ (t : Tally). t.events) (take (d + 1) b.tallies.items) ≡ sum_by (λ (t : Tally). t.events) (take d b.tallies.items) + (get_or b.tallies.items d x).events
events_there b d x l = ap (sum_by (λ (t : Tally). t.events)) (take_more b.tallies.items d x l) ∙ sum_by_push (λ (t : Tally). t.events) (take d b.tallies.items) (get_or b.tallies.items d x)

-- and no more are there than in all
pub few_there : (P : Policy) (S : Script) (ws : List Walk) (b : ByDelays) → TellsBy P S ws b → (d : ℕ) (x : Tally) → d < length b.tallies.items
    → sum_by (λ (t : Tally). t.events) (take d b.tallies.items) + (get_or b.tallies.items d x).events ≤ b.events
few_there P S ws b t d x l = omega (arith, t.events, events_there b d x l, sum_by-take-le (λ (y : Tally). y.events) b.tallies.items (d + 1))
