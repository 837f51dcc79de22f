-- What is joined to a level leaves it one: its histories are those of a state that was there, or of one more.
-- By the place of the state.
use Rattle.std.proofs.Common.{◌≡◌, inl, inr, ℕ, suc, ◌+◌, ◌-◌, ◌<◌, ◌≤◌, false, List, [], ◌∷◌, ◌++◌, length, sym, ap, ◌∙◌, subst, arith}
use Rattle.std.specs.Prelude.{All, get_or, set, sum_by}
use Rattle.std.proofs.lemmas.Bool.{cases_eq}
use Rattle.std.proofs.lemmas.List.{get_or-set_other, get_or-set_same, get_or_append_left, get_or_push, length-append, length-set}
use Rattle.std.proofs.lemmas.List.Elements.{All-append}
use Rattle.hist_model.specs.declared.policy.Policy.{Policy}
use Rattle.hist_model.specs.declared.script.Script.{Script}
use Rattle.explorer.specs.Joining.{JoinsAt, JoinsIn, JoinsLast, keys_in}
use Rattle.explorer.specs.Levels.{HasKey, IsLevel, IsState, all_in, left_to}
use Rattle.explorer.specs.declared.frames.Frame.{Frame}
use Rattle.explorer.specs.declared.level.Level.{Level}
use Rattle.explorer.specs.declared.state.Bound.{Bound}
use Rattle.explorer.specs.declared.state.State.{State}
use Rattle.explorer.proofs.Going.{more_in_one, one_group_more}
use Rattle.explorer.proofs.PathSums.{all_longer}
use Rattle.explorer.proofs.StateJoins.{IsAbleAt, begins_state, joins_state}

module _ (P : Policy) (S : Script) (W : ℕ) (b : Bound) (n : ℕ) (key : List ℕ) (ms : List (List Frame)) (from : State) (s : IsState P S W b n key ms from)
    (q nx c : ℕ) (h : c ≤ from.left) (turn : All (IsAbleAt P S W b q c) ms) (room : b.is_meant ≡ false → All (λ fs. c ≤ left_to P S W b fs) ms)
    (other : List ℕ) (alike : All (HasKey P S W b (suc n) other) (all_longer P S W b q nx c ms)) where
  abbrev ext : List (List Frame)
  ext = all_longer P S W b q nx c ms

  abbrev frame : Frame
  frame = record { place = q; next = nx; left = from.left - c }

  -- a level with these histories joined
  pub record Joined (groups : List (List (List Frame))) (new : Level) : Type 0 where
    pub more : List (List (List Frame))
    pub level : IsLevel P S W b (suc n) more new
    pub adds : (g : List Frame → ℕ) → sum_by g (all_in more) ≡ sum_by g (all_in groups) + sum_by g ext

  module _ (groups : List (List (List Frame))) (old new : Level) (l : IsLevel P S W b (suc n) groups old) where
    -- to a state that was there
    module _ (j : JoinsAt b c frame from other old new) where
      abbrev there : List (List Frame)
      there = get_or groups j.place []

      abbrev now : List (List (List Frame))
      now = set groups j.place (there ++ ext)

      at_group : j.place < length groups
      at_group = omega (arith, j.inside, l.states.as_many)

      keyed_there : All (HasKey P S W b (suc n) other) there
      keyed_there = subst (λ (k : List ℕ). All (HasKey P S W b (suc n) k) there) j.found (l.keyed j.place at_group)

      keyed_both : All (HasKey P S W b (suc n) other) (there ++ ext)
      keyed_both = All-append (HasKey P S W b (suc n) other) there ext keyed_there alike

      state_there : (x : State) → IsState P S W b (suc n) other there (get_or old.states.items j.place x)
      state_there x = subst (λ (k : List ℕ). IsState P S W b (suc n) k there (get_or old.states.items j.place x)) j.found (l.states.each j.place x j.inside)

      joined_state : IsState P S W b (suc n) other (there ++ ext) j.joined
      joined_state = joins_state P S W b n key ms from s q nx c h turn room other (get_or old.states.items j.place j.joined) j.joined there
          (state_there j.joined) (j.joins j.joined) (λ first. inr keyed_both)

      each_state : (i : ℕ) (x : State) → i < length new.states.items → IsState P S W b (suc n) (get_or (keys_in new) i []) (get_or now i []) (get_or new.states.items i x)
      each_state i x m = elim (cases_eq i j.place) [
        | inl e ↦
            let g : get_or now j.place [] ≡ there ++ ext = get_or-set_same groups j.place (there ++ ext) [] at_group in
            let t : get_or new.states.items j.place x ≡ j.joined = ap (λ (xs : List State). get_or xs j.place x) j.states_are ∙ get_or-set_same old.states.items j.place j.joined x j.inside in
            let k : get_or (keys_in new) j.place [] ≡ other = ap (λ (ks : List (List ℕ)). get_or ks j.place []) j.keys_are ∙ j.found in
            rw (e, g, t, k) joined_state
        | inr d ↦
            let g : get_or now i [] ≡ get_or groups i [] = get_or-set_other groups j.place i (there ++ ext) [] d in
            let t : get_or new.states.items i x ≡ get_or old.states.items i x = ap (λ (xs : List State). get_or xs i x) j.states_are ∙ get_or-set_other old.states.items j.place i j.joined x d in
            let k : get_or (keys_in new) i [] ≡ get_or (keys_in old) i [] = ap (λ (ks : List (List ℕ)). get_or ks i []) j.keys_are in
            let o : i < length old.states.items = omega (arith, m, ap length j.states_are, length-set old.states.items j.place j.joined) in
            rw (g, t, k) (l.states.each i x o)
      ]

      each_keyed : (i : ℕ) → i < length now → All (HasKey P S W b (suc n) (get_or (keys_in new) i [])) (get_or now i [])
      each_keyed i m = elim (cases_eq i j.place) [
        | inl e ↦
            let g : get_or now j.place [] ≡ there ++ ext = get_or-set_same groups j.place (there ++ ext) [] at_group in
            let k : get_or (keys_in new) j.place [] ≡ other = ap (λ (ks : List (List ℕ)). get_or ks j.place []) j.keys_are ∙ j.found in
            rw (e, g, k) keyed_both
        | inr d ↦
            let g : get_or now i [] ≡ get_or groups i [] = get_or-set_other groups j.place i (there ++ ext) [] d in
            let k : get_or (keys_in new) i [] ≡ get_or (keys_in old) i [] = ap (λ (ks : List (List ℕ)). get_or ks i []) j.keys_are in
            rw (g, k) (l.keyed i (omega (arith, m, length-set groups j.place (there ++ ext))))
      ]

      pub joined_there : Joined groups new
      joined_there = record {
        more = now;
        level = record {
          states = record {
            as_many_keys = omega (arith, ap length j.keys_are, ap length j.states_are, length-set old.states.items j.place j.joined, l.states.as_many_keys);
            as_many = omega (arith, length-set groups j.place (there ++ ext), ap length j.states_are, length-set old.states.items j.place j.joined, l.states.as_many);
            each = each_state;
          };
          keyed = each_keyed;
        };
        adds = λ g. more_in_one g groups j.place ext at_group;
      }

    -- or to one more
    module _ (j : JoinsLast b c frame from other old new) where
      begun : IsState P S W b (suc n) other ext j.state
      begun = begins_state P S W b n key ms from s q nx c h turn room other j.state j.begins (inr alike)

      keys_here : (i : ℕ) → get_or (keys_in new) i [] ≡ get_or (keys_in old ++ other ∷ []) i []
      keys_here i = ap (λ (ks : List (List ℕ)). get_or ks i []) j.keys_are

      -- the state that was added, and its histories
      last_key : (i : ℕ) → i ≡ length old.states.items → get_or (keys_in new) i [] ≡ other
      last_key i e = keys_here i ∙ get_or_push (keys_in old) other [] i (l.states.as_many_keys ∙ sym e)

      last_group : (i : ℕ) → i ≡ length old.states.items → get_or (groups ++ ext ∷ []) i [] ≡ ext
      last_group i e = get_or_push groups ext [] i (l.states.as_many ∙ sym e)

      last_state : (i : ℕ) (x : State) → i ≡ length old.states.items → get_or new.states.items i x ≡ j.state
      last_state i x e = ap (λ (xs : List State). get_or xs i x) j.states_are ∙ get_or_push old.states.items j.state x i (sym e)

      -- those before it
      key_before : (i : ℕ) → i < length old.states.items → get_or (keys_in new) i [] ≡ get_or (keys_in old) i []
      key_before i m = keys_here i ∙ get_or_append_left (keys_in old) (other ∷ []) [] i (omega (arith, m, l.states.as_many_keys))

      group_before : (i : ℕ) → i < length old.states.items → get_or (groups ++ ext ∷ []) i [] ≡ get_or groups i []
      group_before i m = get_or_append_left groups (ext ∷ []) [] i (omega (arith, m, l.states.as_many))

      state_before : (i : ℕ) (x : State) → i < length old.states.items → get_or new.states.items i x ≡ get_or old.states.items i x
      state_before i x m = ap (λ (xs : List State). get_or xs i x) j.states_are ∙ get_or_append_left old.states.items (j.state ∷ []) x i m

      one_more : length new.states.items ≡ length old.states.items + 1
      one_more = ap length j.states_are ∙ length-append old.states.items (j.state ∷ [])

      each_last : (i : ℕ) (x : State) → i < length new.states.items → IsState P S W b (suc n) (get_or (keys_in new) i []) (get_or (groups ++ ext ∷ []) i []) (get_or new.states.items i x)
      each_last i x m = elim (cases_eq i (length old.states.items)) [
        | inl e ↦ rw (last_key i e, last_group i e, last_state i x e) begun
        | inr d ↦ let o : i < length old.states.items = omega (arith, m, d, one_more) in rw (key_before i o, group_before i o, state_before i x o) (l.states.each i x o)
      ]

      keyed_last : (i : ℕ) → i < length (groups ++ ext ∷ []) → All (HasKey P S W b (suc n) (get_or (keys_in new) i [])) (get_or (groups ++ ext ∷ []) i [])
      keyed_last i m = elim (cases_eq i (length old.states.items)) [
        | inl e ↦ rw (last_key i e, last_group i e) alike
        | inr d ↦
            let o : i < length old.states.items = omega (arith, m, d, length-append groups (ext ∷ []), l.states.as_many) in
            rw (key_before i o, group_before i o) (l.keyed i (omega (arith, o, l.states.as_many)))
      ]

      pub joined_last : Joined groups new
      joined_last = record {
        more = groups ++ ext ∷ [];
        level = record {
          states = record {
            as_many_keys = omega (arith, ap length j.keys_are, ap length j.states_are, length-append old.states.items (j.state ∷ []), length-append (keys_in old) (other ∷ []), l.states.as_many_keys);
            as_many = omega (arith, ap length j.states_are, length-append old.states.items (j.state ∷ []), length-append groups (ext ∷ []), l.states.as_many);
            each = each_last;
          };
          keyed = keyed_last;
        };
        adds = λ g. one_group_more g groups ext;
      }

    pub joined_in : JoinsIn b c frame from other old new → Joined groups new
    joined_in (inl j) = joined_there j
    joined_in (inr j) = joined_last j
