-- A level is gone on from state by state: what came of those that were gone through, and of the next one, is what came of both.
-- By the states' groups, which are taken one after another.
use Rattle.std.proofs.Common.{◌≡◌, ℕ, ◌+◌, ◌<◌, ◌≤◌, List, [], ◌∷◌, ◌++◌, length, get_or, take, Some, refl, sym, ap, ◌∙◌, subst, arith}
use Rattle.std.proofs.lemmas.List.{take_all, take_more}
use Rattle.std.proofs.lemmas.List.Concat.{flat_map-append}
use Rattle.hist_model.specs.declared.policy.Policy.{Policy}
use Rattle.hist_model.specs.declared.script.Script.{Script}
use Rattle.explorer.specs.Levels.{AreStates, GoesOn, IsState, LeadsOn, all_in}
use Rattle.explorer.specs.declared.ends.Ends.{Ends}
use Rattle.explorer.specs.declared.frames.Frame.{Frame}
use Rattle.explorer.specs.declared.level.Level.{Level}
use Rattle.explorer.specs.declared.state.Bound.{Bound}
use Rattle.explorer.specs.declared.state.State.{State}
use Rattle.explorer.proofs.TurnByTurn.{both_on, none_on}

nothing_more : {A : Type 0} (xs : List A) → xs ++ [] ≡ xs
nothing_more [] = refl
nothing_more {A} (x ∷ xs) = ap (λ (ys : List A). x ∷ ys) (nothing_more xs)

all_more : (groups : List (List (List Frame))) (i : ℕ) → i < length groups → all_in (take i groups) ++ get_or groups i [] ≡ all_in (take (i + 1) groups)
all_more groups i l =
    let one : all_in (get_or groups i [] ∷ []) ≡ get_or groups i [] = nothing_more (get_or groups i []) in
    sym (ap all_in (take_more groups i [] l) ∙ (flat_map-append (λ (ms : List (List Frame)). ms) (take i groups) (get_or groups i [] ∷ []) ∙ ap (λ (ms : List (List Frame)). all_in (take i groups) ++ ms) one))

module _ (P : Policy) (S : Script) (W : ℕ) (b : Bound) where
  -- it was gone on from the first states of a level
  pub record AreGone (states : List State) (i : ℕ) (old new : Ends) (next : Level) : Type 0 where
    pub none : Level
    pub no_state : none.states.items ≡ []
    pub no_key : none.keys.items ≡ []
    pub one_each : length next.keys.items ≡ length next.states.items
    pub going : (n : ℕ) (keys : List (List ℕ)) (groups : List (List (List Frame))) → AreStates P S W b n keys groups states
        → GoesOn P S W b n (all_in (take i groups)) old new none next

  pub none_gone : (states : List State) (e : Ends) (level : Level) → level.states.items ≡ [] → level.keys.items ≡ [] → AreGone states 0 e e level
  none_gone states e level s k = record {
    none = level;
    no_state = s;
    no_key = k;
    one_each = rw (s, k) refl;
    going = λ n keys groups a. none_on P S W b n e level;
  }

  pub state_there : (states : List State) (i : ℕ) (state : State) → i < length states → state ≡ get_or states i state → (n : ℕ) (keys : List (List ℕ)) (groups : List (List (List Frame)))
      → AreStates P S W b n keys groups states → IsState P S W b n (get_or keys i []) (get_or groups i []) state
  state_there states i state l is n keys groups a = subst (IsState P S W b n (get_or keys i []) (get_or groups i [])) (sym is) (a.each i state l)

  module _ (states : List State) (i : ℕ) (old mid new : Ends) (level next : Level) (g : AreGone states i old mid level) (state : State) (l : i < length states) (is : state ≡ get_or states i state) where
    pub one_gone : ((n : ℕ) (key : List ℕ) (ms : List (List Frame)) → IsState P S W b n key ms state → GoesOn P S W b n ms mid new level next)
        → length next.keys.items ≡ length next.states.items → AreGone states (i + 1) old new next
    one_gone f e = record {
      none = g.none;
      no_state = g.no_state;
      no_key = g.no_key;
      one_each = e;
      going = λ n keys groups a. subst (λ (ms : List (List Frame)). GoesOn P S W b n ms old new g.none next) (all_more groups i (omega (arith, l, a.as_many)))
          (both_on P S W b n (all_in (take i groups)) (get_or groups i []) old mid new g.none level next (g.going n keys groups a)
          (f n (get_or keys i []) (get_or groups i []) (state_there states i state l is n keys groups a)));
    }

  pub all_gone : (states : List State) (i : ℕ) (old new : Ends) (next : Level) → AreGone states i old new next → length states ≤ i
      → (n : ℕ) (keys : List (List ℕ)) (groups : List (List (List Frame))) → AreStates P S W b n keys groups states → LeadsOn P S W b n (all_in groups) old new (Some next)
  all_gone states i old new next g l n keys groups a = record {
    none = g.none;
    no_state = g.no_state;
    no_key = g.no_key;
    goes_on = subst (λ (ms : List (List Frame)). GoesOn P S W b n ms old new g.none next) (ap all_in (take_all i groups (omega (arith, l, a.as_many)))) (g.going n keys groups a);
  }
