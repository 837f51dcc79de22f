-- From the start, and from one level to the next, whatever is added up over all paths is what it comes to over what ended and what goes on.
-- By what each level adds up to, which takes the place of the level before.
use Rattle.std.proofs.Common.{◌≡◌, inl, ℕ, zero, suc, ◌+◌, ◌-◌, ◌<◌, ◌≤◌, ◌==◌, Bool, true, false, if◌then◌else◌, List, [], ◌∷◌, ◌++◌, length, map, refl, sym, ap, ◌∙◌, subst, arith}
use Rattle.std.specs.Prelude.{Option, Some, get_or, sum_by}
use Rattle.std.proofs.lemmas.Bool.Decides.{nat_tests}
use Rattle.std.proofs.lemmas.List.Elements.{All-cons, All-nil, Contains-push}
use Rattle.std.proofs.lemmas.List.Sums.{sum_by-append, sum_by-cons}
use Rattle.hist_model.specs.declared.policy.Policy.{Policy}
use Rattle.hist_model.specs.declared.script.Script.{Script}
use Rattle.explorer.specs.Bounds.{IsMore}
use Rattle.explorer.specs.Frames.{AreTurns, after, last_place}
use Rattle.explorer.specs.Levels.{AddsUp, AreStates, Counts, GoesOn, HasComeTo, IsJoined, IsLevel, IsNoLater, IsState, LeadsOn, TellsEnds, all_in, left_to, path_of, paths_from, slot_of}
use Rattle.explorer.specs.Joining.{keys_in}
use Rattle.explorer.specs.Paths.{AreTaken, Path, left_after, paths_of}
use Rattle.explorer.specs.declared.ends.Ends.{Ends}
use Rattle.explorer.specs.declared.frames.Frame.{Frame}
use Rattle.explorer.specs.declared.level.Level.{Level}
use Rattle.explorer.specs.declared.state.Bound.{Bound}
use Rattle.explorer.specs.declared.state.State.{State}
use Rattle.explorer.proofs.StateCounts.{count_cons}

module _ (P : Policy) (S : Script) (W : ℕ) (b : Bound) where
  -- ---- The start

  start_left : left_to P S W b [] ≡ b.most
  unfolding left_after
  start_left = refl

  start_joined : IsJoined P S W b 0 []
  unfolding AreTurns AreTaken
  start_joined = record { turns = tt; taken = tt; count = refl; within = omega (arith, start_left) }

  start_slot : slot_of P S W b [] ≡ 0
  start_slot = by b.is_meant refl
    where
      by : (t : Bool) → b.is_meant ≡ t → (if t then b.most - left_to P S W b [] else 0) ≡ 0
      by true e = omega (arith, start_left)
      by false e = refl

  start_counts : (counts : List ℕ) → counts ≡ 1 ∷ [] → Counts P S W b counts ([] ∷ [])
  start_counts counts c i = rw c (by i ∙ sym (count_cons (λ fs. slot_of P S W b fs == i) [] []))
    where
      by : (i : ℕ) → get_or (1 ∷ []) i 0 ≡ (if slot_of P S W b [] == i then 1 else 0) + 0
      by zero = rw start_slot refl
      by (suc j) = let other : (0 == suc j) ≡ false = grind (arith, nat_tests) in rw (start_slot, other) refl

  start_late : IsNoLater P S W b [] []
  start_late = grind (arith, nat_tests)

  pub start_is : (s : State) → s.counts.items ≡ 1 ∷ [] → s.frames.items ≡ [] → s.left ≡ b.most → s.least ≡ b.most → IsState P S W b 0 [] ([] ∷ []) s
  start_is s counts frames left least = record {
    joined = All-cons (IsJoined P S W b 0) [] [] start_joined (All-nil (IsJoined P S W b 0));
    alike = rw frames (inl refl);
    first = rw frames (Contains-push [] []);
    left_is = left ∙ (sym start_left ∙ ap (left_to P S W b) (sym frames));
    none_before = rw frames (All-cons (IsNoLater P S W b []) [] [] start_late (All-nil (IsNoLater P S W b [])));
    least = All-cons (λ fs. s.least ≤ left_to P S W b fs) [] [] (omega (arith, least, start_left)) (All-nil (λ fs. s.least ≤ left_to P S W b fs));
    counts = start_counts s.counts.items counts;
  }

  map_same : (xs : List Path) → map (λ (x : Path). record { lefts = [] ++ x.lefts; walk = x.walk }) xs ≡ xs
  map_same [] = refl
  map_same (x ∷ xs) = ap (λ (ys : List Path). x ∷ ys) (map_same xs)

  -- all paths begin with no turn
  start_paths : (k : ℕ) → paths_from P S W b k [] ≡ paths_of P S W (b.most + k)
  unfolding after last_place left_after
  start_paths k = map_same (paths_of P S W (b.most + k))

  start_adds : (k : ℕ) → AddsUp P S W b k [] ([] ∷ [])
  start_adds k h =
      let one : sum_by (λ fs. sum_by h (paths_from P S W b k fs)) ([] ∷ []) ≡ sum_by h (paths_from P S W b k []) + 0 = sum_by-cons (λ fs. sum_by h (paths_from P S W b k fs)) [] [] in
      omega (arith, one, ap (sum_by h) (start_paths k))

  one_state : (s : State) → IsState P S W b 0 [] ([] ∷ []) s → AreStates P S W b 0 ([] ∷ []) (([] ∷ []) ∷ []) (s ∷ [])
  one_state s i = record { as_many_keys = refl; as_many = refl; each = by }
    where
      by : (j : ℕ) (t : State) → j < 1 → IsState P S W b 0 (get_or ([] ∷ []) j []) (get_or (([] ∷ []) ∷ []) j []) (get_or (s ∷ []) j t)
      by zero t l = i
      by (suc j) t l = absurd (omega (arith, l))

  -- nothing ended, and one state is there
  pub comes_to_start : (ends : Ends) (s : State) → TellsEnds P S W b [] ends → IsState P S W b 0 [] ([] ∷ []) s → HasComeTo P S W b 0 ends (s ∷ [])
  comes_to_start ends s t i = record {
    done = [];
    keys = [] ∷ [];
    groups = ([] ∷ []) ∷ [];
    told = t;
    states_are = one_state s i;
    adds_up = λ k m. start_adds k;
  }

  -- ---- The next level

  -- there is no state in it
  pub no_state : (n : ℕ) (level : Level) → level.states.items ≡ [] → level.keys.items ≡ [] → IsLevel P S W b n [] level
  no_state n level s q = record {
    states = record {
      as_many_keys = rw (s, q) refl;
      as_many = rw s refl;
      each = λ i t l. absurd (omega (arith, rw s at l));
    };
    keyed = λ i l. absurd (omega (arith, l));
  }

  module _ (n : ℕ) (old new : Ends) (states : List State) (c : HasComeTo P S W b n old states) (none level : Level) (empty : none.states.items ≡ []) (no_key : none.keys.items ≡ [])
      (g : GoesOn P S W b n (all_in c.groups) old new none level) where
    adds_over : (more : List (List (List Frame))) (k : ℕ) → AddsUp P S W b k c.done (all_in c.groups)
        → ((h : Path → ℕ) → sum_by (λ fs. sum_by h (paths_from P S W b k fs)) (all_in more) + sum_by (λ fs. h (path_of P S W b k fs)) g.ended
        ≡ sum_by (λ fs. sum_by h (paths_from P S W b k fs)) (all_in []) + sum_by (λ fs. sum_by h (paths_from P S W b k fs)) (all_in c.groups))
        → AddsUp P S W b k (c.done ++ g.ended) (all_in more)
    adds_over more k a s h =
        let both : sum_by (λ fs. h (path_of P S W b k fs)) (c.done ++ g.ended)
        ≡ sum_by (λ fs. h (path_of P S W b k fs)) c.done + sum_by (λ fs. h (path_of P S W b k fs)) g.ended = sum_by-append (λ fs. h (path_of P S W b k fs)) c.done g.ended in
        let none_here : sum_by (λ fs. sum_by h (paths_from P S W b k fs)) (all_in []) ≡ 0 = refl in
        omega (arith, both, none_here, a h, s h)

    pub comes_on : HasComeTo P S W b (suc n) new level.states.items
    comes_on =
        let next = g.level [] (no_state (suc n) none empty no_key) in
        record {
          done = c.done ++ g.ended;
          keys = keys_in level;
          groups = next.0;
          told = g.ends c.done c.told;
          states_are = next.1.states;
          adds_up = λ k m. adds_over next.0 k (c.adds_up k m) (next.2 k m);
        }

  -- so it is of the level that was found
  pub comes_to_next : (n : ℕ) (old new : Ends) (states : List State) (c : HasComeTo P S W b n old states) (level : Level) → LeadsOn P S W b n (all_in c.groups) old new (Some level)
      → HasComeTo P S W b (suc n) new level.states.items
  comes_to_next n old new states c level l = comes_on n old new states c l.none level l.no_state l.no_key l.goes_on

  -- ---- The end

  no_groups : (groups : List (List (List Frame))) → length groups ≡ 0 → all_in groups ≡ []
  no_groups [] e = refl
  no_groups (ms ∷ groups) e = absurd (omega (arith, e))

  -- no state is left: all have ended
  pub all_come : (n : ℕ) (ends : Ends) (states : List State) (c : HasComeTo P S W b n ends states) → states ≡ [] → (k : ℕ) → IsMore b k → AddsUp P S W b k c.done []
  all_come n ends states c e k m =
      let none : length c.groups ≡ 0 = c.states_are.as_many ∙ ap length e in
      subst (λ (ms : List (List Frame)). AddsUp P S W b k c.done ms) (no_groups c.groups none) (c.adds_up k m)

  -- ---- From level to level

  pub come_first : (ends : Ends) (s : State) (states : List State) → states ≡ s ∷ [] → TellsEnds P S W b [] ends → s.counts.items ≡ 1 ∷ [] → s.frames.items ≡ [] → s.left ≡ b.most → s.least ≡ b.most
      → (n : ℕ) × HasComeTo P S W b n ends states
  come_first ends s states e t counts frames left least =
      (0, subst (λ (xs : List State). HasComeTo P S W b 0 ends xs) (sym e) (comes_to_start ends s t (start_is s counts frames left least)))

  pub level_there : (ends : Ends) (states given : List State) → given ≡ states → (n : ℕ) × HasComeTo P S W b n ends states
      → (n : ℕ) × (keys : List (List ℕ)) × (groups : List (List (List Frame))) × AreStates P S W b n keys groups given
  level_there ends states given e (n, c) = (n, c.keys, c.groups, subst (AreStates P S W b n c.keys c.groups) (sym e) c.states_are)

  pub level_came : (old new : Ends) (states given : List State) → given ≡ states → (n : ℕ) × HasComeTo P S W b n old states → (found : Option Level)
      → ((n : ℕ) (keys : List (List ℕ)) (groups : List (List (List Frame))) → AreStates P S W b n keys groups given → LeadsOn P S W b n (all_in groups) old new found)
      → (level : Level) → found ≡ Some level → (next : List State) → next ≡ level.states.items → (n : ℕ) × HasComeTo P S W b n new next
  level_came old new states given e (n, c) found f level some next is =
      let leads : LeadsOn P S W b n (all_in c.groups) old new (Some level) =
      subst (LeadsOn P S W b n (all_in c.groups) old new) some (f n c.keys c.groups (subst (AreStates P S W b n c.keys c.groups) (sym e) c.states_are)) in
      (suc n, subst (λ (xs : List State). HasComeTo P S W b (suc n) new xs) (sym is) (comes_to_next n old new states c level leads))

  -- no state is left
  pub all_over : (ends : Ends) (states : List State) → (n : ℕ) × HasComeTo P S W b n ends states → states ≡ []
      → (done : List (List Frame)) × TellsEnds P S W b done ends × ((k : ℕ) → IsMore b k → AddsUp P S W b k done [])
  all_over ends states (n, c) e = (c.done, c.told, all_come n ends states c e)
