-- A state is gone on from turn by turn, and a level state by state: after each, whatever is added up comes to the same.
-- By what is joined with each turn, and what is open behind it.
use Rattle.std.proofs.Common.{◌≡◌, ◌⊎◌, inl, inr, ℕ, suc, ◌+◌, ◌<◌, ◌≤◌, ◌^◌, Bool, true, false, List, [], ◌∷◌, ◌++◌, length, refl, sym, ap, subst, arith}
use Rattle.std.specs.Prelude.{All, sum_by}
use Rattle.std.proofs.lemmas.List.{append_assoc}
use Rattle.std.proofs.lemmas.List.Elements.{All-weaker}
use Rattle.std.proofs.lemmas.List.Sums.{sum_by-append}
use Rattle.hist_model.specs.declared.policy.Policy.{Policy}
use Rattle.hist_model.specs.declared.script.Script.{Script}
use Rattle.delay_bounded.specs.Circle.{able}
use Rattle.explorer.specs.Bounds.{HasRoom, IsMore}
use Rattle.explorer.specs.Frames.{last_place}
use Rattle.explorer.specs.Levels.{EndsSo, GoesOn, IsLevel, IsState, TellsEnds, all_in, events_of, left_to, path_of}
use Rattle.explorer.specs.Paths.{Path}
use Rattle.explorer.specs.declared.ends.Ends.{Ends}
use Rattle.explorer.specs.declared.frames.Frame.{Frame}
use Rattle.explorer.specs.declared.level.Level.{Level}
use Rattle.explorer.specs.declared.state.Bound.{Bound}
use Rattle.explorer.specs.declared.state.State.{State}
use Rattle.explorer.proofs.Going.{all_ended, all_turned, none_left, none_turned}
use Rattle.explorer.proofs.PathSums.{all_longer, open_total, total, turn_by_turn}

nothing_more : {A : Type 0} (xs : List A) → xs ++ [] ≡ xs
nothing_more [] = refl
nothing_more {A} (x ∷ xs) = ap (λ (ys : List A). x ∷ ys) (nothing_more xs)

module _ (P : Policy) (S : Script) (W : ℕ) (b : Bound) (n : ℕ) where
  abbrev pub over : ℕ → (Path → ℕ) → List (List Frame) → ℕ
  over k h ms = sum_by (total P S W b k h) ms

  abbrev pub open_over : ℕ → (Path → ℕ) → ℕ → List ℕ → List (List Frame) → ℕ
  open_over k h c qs ms = sum_by (open_total P S W b k h c qs) ms

  abbrev pub ended_over : ℕ → (Path → ℕ) → List (List Frame) → ℕ
  ended_over k h ms = sum_by (λ fs. h (path_of P S W b k fs)) ms

  -- these places are able to step after it
  abbrev pub IsAble : List ℕ → List Frame → Type 0
  IsAble qs fs = (able P S W (events_of P S W b fs) (last_place 0 fs) ≡ qs) × (length (events_of P S W b fs) < 2 ^ 64)

  -- ---- A state

  -- some turns were had: what is left is open after so many delays, at these places
  pub record GoneOn (ms : List (List Frame)) (c : ℕ) (qs : List ℕ) (old new : Level) : Type 0 where
    pub level : (groups : List (List (List Frame))) → IsLevel P S W b (suc n) groups old
        → (more : List (List (List Frame))) × IsLevel P S W b (suc n) more new × ((k : ℕ) → IsMore b k → (h : Path → ℕ)
        → over k h (all_in more) + open_over k h c qs ms ≡ over k h (all_in groups) + over k h ms)

  pub no_turn : (q : ℕ) (more : List ℕ) (ms : List (List Frame)) (level : Level) → All (IsAble (q ∷ more)) ms → GoneOn ms 0 (q ∷ more) level level
  no_turn q more ms level a = record {
    level = λ groups l. (groups, l, λ k m h. ap (λ (x : ℕ). over k h (all_in groups) + x) (none_turned P S W b k h q more ms a));
  }

  -- none of those that have no such delay left is missing
  abbrev pub Lacks : ℕ → List (List Frame) → Type 0
  Lacks c ms = (k : ℕ) → IsMore b k → All (λ fs. (k ≡ 0) ⊎ (c < left_to P S W b fs)) ms

  -- there is room for the delay
  pub lacks_none : (key : List ℕ) (ms : List (List Frame)) (s : State) → IsState P S W b n key ms s → HasRoom b s.least → (c : ℕ) → c < 2 ^ 63 → Lacks c ms
  lacks_none key ms s i room c few k m = by b.is_meant refl
    where
      by : (t : Bool) → b.is_meant ≡ t → All (λ fs. (k ≡ 0) ⊎ (c < left_to P S W b fs)) ms
      by true e =
          let none : k ≡ 0 = m e in
          All-weaker (λ fs. s.least ≤ left_to P S W b fs) (λ fs. (k ≡ 0) ⊎ (c < left_to P S W b fs)) (λ fs l. inl none) ms i.least
      by false e =
          let least : 2 ^ 63 ≤ s.least = room e in
          All-weaker (λ fs. s.least ≤ left_to P S W b fs) (λ fs. (k ≡ 0) ⊎ (c < left_to P S W b fs)) (λ fs l. inr (omega (arith, l, least, few))) ms i.least

  module _ (ms : List (List Frame)) (c q nx : ℕ) (qs : List ℕ) (old mid new : Level) (g : GoneOn ms c (q ∷ qs) old mid) (lacks : Lacks c ms)
      (joins : (groups : List (List (List Frame))) → IsLevel P S W b (suc n) groups mid → (more : List (List (List Frame))) × IsLevel P S W b (suc n) more new
      × ((f : List Frame → ℕ) → sum_by f (all_in more) ≡ sum_by f (all_in groups) + sum_by f (all_longer P S W b q nx c ms))) where
    -- one more turn was had
    pub one_turn : GoneOn ms (c + 1) qs old new
    one_turn = record {
      level = λ groups l.
          let before = g.level groups l in
          let now = joins before.0 before.1 in
          (now.0, now.1, λ k m h. omega (arith, before.2 k m h, now.2 (total P S W b k h), turn_by_turn P S W b k h c q nx qs ms (lacks k m)));
    }

  module _ (ms : List (List Frame)) (e : Ends) (old new : Level) where
    still_told : (done : List (List Frame)) → TellsEnds P S W b done e → TellsEnds P S W b (done ++ []) e
    still_told done t = subst (λ (ds : List (List Frame)). TellsEnds P S W b ds e) (sym (nothing_more done)) t

    -- all turns were had
    pub turned_all : (c : ℕ) → GoneOn ms c [] old new → GoesOn P S W b n ms e e old new
    turned_all c g = record {
      ended = [];
      ends = still_told;
      level = λ groups l.
          let now = g.level groups l in (
            now.0,
            now.1,
            λ k m h.
                let none : ended_over k h [] ≡ 0 = refl in
                omega (arith, none, now.2 k m h, all_turned P S W b k h c ms),
          );
    }

    -- or none has a delay left for another one
    pub turned_enough : (c : ℕ) (qs : List ℕ) → GoneOn ms c qs old new → All (λ fs. left_to P S W b fs < c) ms → GoesOn P S W b n ms e e old new
    turned_enough c qs g few = record {
      ended = [];
      ends = still_told;
      level = λ groups l.
          let now = g.level groups l in (
            now.0,
            now.1,
            λ k m h.
                let none : ended_over k h [] ≡ 0 = refl in
                omega (arith, none, now.2 k m h, none_left P S W b k h c qs ms few),
          );
    }

  -- or nobody is able to step
  pub ended_all : (ms : List (List Frame)) (old_ends new_ends : Ends) (level : Level) → All (IsAble []) ms → EndsSo P S W b ms old_ends new_ends → GoesOn P S W b n ms old_ends new_ends level level
  ended_all ms old_ends new_ends level a e = record {
    ended = ms;
    ends = e;
    level = λ groups l. (groups, l, λ k m h. ap (λ (x : ℕ). over k h (all_in groups) + x) (sym (all_ended P S W b k h ms a)));
  }

  -- ---- A level

  -- no state of it
  pub none_on : (e : Ends) (level : Level) → GoesOn P S W b n [] e e level level
  none_on e level = record {
    ended = [];
    ends = λ done t. subst (λ (ds : List (List Frame)). TellsEnds P S W b ds e) (sym (nothing_more done)) t;
    level = λ groups l. (groups, l, λ k m h. refl);
  }

  -- and then more states
  module _ (ms ns : List (List Frame)) (first second third : Ends) (old mid new : Level) (g : GoesOn P S W b n ms first second old mid) (h : GoesOn P S W b n ns second third mid new) where
    both_sums : (groups there more : List (List (List Frame))) (k : ℕ) (f : Path → ℕ)
        → over k f (all_in there) + ended_over k f g.ended ≡ over k f (all_in groups) + over k f ms
        → over k f (all_in more) + ended_over k f h.ended ≡ over k f (all_in there) + over k f ns
        → over k f (all_in more) + ended_over k f (g.ended ++ h.ended) ≡ over k f (all_in groups) + over k f (ms ++ ns)
    both_sums groups there more k f x y =
        let a : ended_over k f (g.ended ++ h.ended) ≡ ended_over k f g.ended + ended_over k f h.ended = sum_by-append (λ fs. f (path_of P S W b k fs)) g.ended h.ended in
        let z : over k f (ms ++ ns) ≡ over k f ms + over k f ns = sum_by-append (total P S W b k f) ms ns in
        omega (arith, x, y, a, z)

    pub both_on : GoesOn P S W b n (ms ++ ns) first third old new
    both_on = record {
      ended = g.ended ++ h.ended;
      ends = λ done t. subst (λ (ds : List (List Frame)). TellsEnds P S W b ds third) (append_assoc done g.ended h.ended) (h.ends (done ++ g.ended) (g.ends done t));
      level = λ groups l.
          let there = g.level groups l in
          let more = h.level there.0 there.1 in
          (more.0, more.1, λ k m f. both_sums groups there.0 more.0 k f (there.2 k m f) (more.2 k m f));
    }
