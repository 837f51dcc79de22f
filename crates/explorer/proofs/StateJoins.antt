-- The histories of a state with one more turn are those of the state to which they lead, alone or joined to others.
-- By each part of what is kept of a state.
use Rattle.std.proofs.Common.{◌≡◌, ◌⊎◌, inl, inr, ℕ, suc, ◌+◌, ◌-◌, ◌<◌, ◌≤◌, Bool, true, false, List, [], ◌∷◌, ◌++◌, map, refl, sym, ap, ap₂, ◌∙◌, subst, arith}
use Rattle.std.specs.Prelude.{All, Contains, ◌==◌, count_by, filter, get_or, if◌then◌else◌, slice_get, Some}
use Rattle.std.proofs.lemmas.Bool.Decides.{nat_tests}
use Rattle.std.proofs.lemmas.List.{length-append}
use Rattle.std.proofs.lemmas.List.Elements.{All-append, All-contains, All-weaker, Contains-append_cases, Contains-append_left, Contains-append_right, Contains-push, Contains-push_cases}
use Rattle.std.proofs.lemmas.List.Sums.{sum_by-append}
use Rattle.hist_model.specs.Legal.{started}
use Rattle.hist_model.specs.declared.policy.Policy.{Policy}
use Rattle.hist_model.specs.declared.script.Script.{Script}
use Rattle.delay_bounded.specs.Circle.{able, at_place, is_able, places}
use Rattle.explorer.specs.Frames.{last_place}
use Rattle.explorer.specs.Joining.{Begins, JoinsTo, coming_from, is_ahead, turns_behind}
use Rattle.explorer.specs.Levels.{Counts, GoOnAsOne, IsJoined, IsNoLater, IsState, events_of, left_to, slot_of}
use Rattle.explorer.specs.Paths.{is_first, left_of}
use Rattle.explorer.specs.declared.frames.Frame.{Frame}
use Rattle.explorer.specs.declared.state.Bound.{Bound}
use Rattle.explorer.specs.declared.state.State.{State}
use Rattle.explorer.proofs.PathSteps.{left_more, taken_more}
use Rattle.explorer.proofs.PathSums.{all_longer, has_left, longer}
use Rattle.explorer.proofs.Pending.{turns_more}
use Rattle.explorer.proofs.StateCounts.{bounded, unbounded}
use Rattle.explorer.proofs.States.{ahead, all_more, left_longer, no_later_longer, stays}

-- what passes a test stands among those that pass it
pub has_mapped : {A B : Type 0} (f : A → B) (t : A → Bool) (xs : List A) (x : A) → Contains xs x → t x ≡ true → Contains (map f (filter t xs)) (f x)
has_mapped f t [] x h p = absurd (omega (arith, h.1))
has_mapped {A} {B} f t (y ∷ ys) x h p = by (λ k. has_mapped f t ys x k p) (Contains-append_cases (y ∷ []) ys x h) (t y) refl
  where
    by : (Contains ys x → Contains (map f (filter t ys)) (f x)) → Contains (y ∷ []) x ⊎ Contains ys x → (b : Bool) → t y ≡ b → Contains (map f (filter t (y ∷ ys))) (f x)
    by ih (inr k) true e = rw e (Contains-append_right (f y ∷ []) (map f (filter t ys)) (f x) (ih k))
    by ih (inr k) false e = rw e (ih k)
    by ih (inl k) b e = one (Contains-push_cases [] y x k)
      where
        one : Contains [] x ⊎ (y ≡ x) → Contains (map f (filter t (y ∷ ys))) (f x)
        one (inl n) = absurd (omega (arith, n.1))
        one (inr same) =
            let q : t y ≡ true = ap t same ∙ p in
            let there : Contains (f y ∷ map f (filter t ys)) (f y) = Contains-append_left (f y ∷ []) (map f (filter t ys)) (f y) (Contains-push [] (f y)) in
            rw q (subst (λ (z : A). Contains (f y ∷ map f (filter t ys)) (f z)) same there)

module _ (P : Policy) (S : Script) (W : ℕ) (b : Bound) where
  abbrev left : List Frame → ℕ
  left = left_to P S W b

  -- the actor at a place is able to step after the history, and so many others are before it
  abbrev pub IsAbleAt : ℕ → ℕ → List Frame → Type 0
  IsAbleAt q c fs =
      (q < places W (events_of P S W b fs)) × (is_able P S (events_of P S W b fs) (at_place (events_of P S W b fs) q) ≡ true)
      × (slice_get (able P S W (events_of P S W b fs) (last_place 0 fs)) c ≡ Some q)

  -- ---- Counts

  module _ (q nx c : ℕ) (ms : List (List Frame)) where
    counts_with : (m : ℕ) (meant : Bool) → b ≡ record { most = m; is_meant = meant } → (counts : List ℕ) → All (λ fs. left fs ≤ b.most) ms
        → (meant ≡ false → All (λ fs. c ≤ left fs) ms) → Counts P S W b counts ms
        → (i : ℕ) → coming_from b c counts i ≡ count_by (λ fs. slot_of P S W b fs == i) (all_longer P S W b q nx c ms)
    counts_with m true is counts w l k = subst (λ (x : Bound). All (λ fs. left_to P S W x fs ≤ x.most) ms → Counts P S W x counts ms
        → (i : ℕ) → coming_from x c counts i ≡ count_by (λ fs. slot_of P S W x fs == i) (all_longer P S W x q nx c ms)) (sym is) (bounded P S W m q nx c counts ms) w k
    counts_with m false is counts w l k = subst (λ (x : Bound). All (λ fs. c ≤ left_to P S W x fs) ms → Counts P S W x counts ms
        → (i : ℕ) → coming_from x c counts i ≡ count_by (λ fs. slot_of P S W x fs == i) (all_longer P S W x q nx c ms)) (sym is) (unbounded P S W m q nx c counts ms) (l refl) k

    pub counts_longer : (counts : List ℕ) → All (λ fs. left fs ≤ b.most) ms → (b.is_meant ≡ false → All (λ fs. c ≤ left fs) ms) → Counts P S W b counts ms
        → (i : ℕ) → coming_from b c counts i ≡ count_by (λ fs. slot_of P S W b fs == i) (all_longer P S W b q nx c ms)
    counts_longer counts w l k = counts_with b.most b.is_meant refl counts w l k

  -- ---- With one more turn

  module _ (n : ℕ) (key : List ℕ) (ms : List (List Frame)) (from : State) (s : IsState P S W b n key ms from) (q nx c : ℕ) (h : c ≤ from.left) where
    abbrev frame : Frame
    frame = record { place = q; next = nx; left = from.left - c }

    abbrev ext : List (List Frame)
    ext = all_longer P S W b q nx c ms

    first_is : turns_behind from frame ≡ longer P S W b q nx c from.frames.items
    first_is = ap (λ (l : ℕ). from.frames.items ++ record { place = q; next = nx; left = l - c } ∷ []) s.left_is

    first_left : c ≤ left from.frames.items
    first_left = omega (arith, h, s.left_is)

    pub joined_longer : All (IsAbleAt q c) ms → All (IsJoined P S W b (suc n)) ext
    joined_longer turn = all_more P S W b q nx c (λ fs. IsJoined P S W b n fs × IsAbleAt q c fs) (IsJoined P S W b (suc n))
        (λ fs l j. record {
          turns = turns_more P S W (started S) fs (record { place = q; next = nx; left = left fs - c }) j.0.turns j.1.0 j.1.1;
          taken = taken_more P S W 0 b.most (started S) fs (record { place = q; next = nx; left = left fs - c }) c j.0.taken j.1.2 (omega (arith, l));
          count = omega (arith, length-append fs (record { place = q; next = nx; left = left fs - c } ∷ []), j.0.count);
          within = rw (left_longer P S W b q nx c fs) (omega (arith, j.0.within));
        }) ms (λ k d l. (s.joined k d l, turn k d l))

    pub first_longer : Contains ext (turns_behind from frame)
    first_longer =
        let t : has_left P S W b c from.frames.items ≡ true = grind (arith, nat_tests, first_left) in
        rw first_is (has_mapped (longer P S W b q nx c) (has_left P S W b c) ms from.frames.items s.first t)

    pub left_is : from.left - c ≡ left (turns_behind from frame)
    left_is = sym (left_more b.most from.frames.items frame)

    pub none_before_longer : All (IsNoLater P S W b (turns_behind from frame)) ext
    none_before_longer =
        let counts = All-contains (IsJoined P S W b n) ms from.frames.items s.joined s.first in
        rw first_is (all_more P S W b q nx c (λ fs. IsJoined P S W b n fs × IsNoLater P S W b from.frames.items fs) (IsNoLater P S W b (longer P S W b q nx c from.frames.items))
        (λ fs l j. no_later_longer P S W b q nx c from.frames.items fs (counts.count ∙ sym j.0.count) first_left l j.1) ms (λ k d l. (s.joined k d l, s.none_before k d l)))

    pub least_longer : All (λ fs. from.least - c ≤ left fs) ext
    least_longer = all_more P S W b q nx c (λ fs. from.least ≤ left fs) (λ fs. from.least - c ≤ left fs)
        (λ fs l j. rw (left_longer P S W b q nx c fs) (omega (arith, j))) ms s.least

    within : All (λ fs. left fs ≤ b.most) ms
    within = All-weaker (IsJoined P S W b n) (λ fs. left fs ≤ b.most) (λ fs j. j.within) ms s.joined

    pub coming : (b.is_meant ≡ false → All (λ fs. c ≤ left fs) ms) → (i : ℕ) → coming_from b c from.counts.items i ≡ count_by (λ fs. slot_of P S W b fs == i) ext
    coming l = counts_longer q nx c ms from.counts.items within l s.counts

    module _ (turn : All (IsAbleAt q c) ms) (room : b.is_meant ≡ false → All (λ fs. c ≤ left fs) ms) (other : List ℕ) where
      -- they are those of a state
      pub begins_state : (new : State) → Begins b c frame from new → GoOnAsOne P S W b (suc n) other (turns_behind from frame) ext → IsState P S W b (suc n) other ext new
      begins_state new g alike = record {
        joined = joined_longer turn;
        alike = rw g.frames_are alike;
        first = rw g.frames_are first_longer;
        left_is = rw (g.frames_are, g.left_is) left_is;
        none_before = rw g.frames_are none_before_longer;
        least = rw g.least_is least_longer;
        counts = λ i. let new_counts : get_or new.counts.items i 0 ≡ 0 + coming_from b c from.counts.items i = g.counts i in omega (arith, new_counts, coming room i);
      }

      -- and so are they with those that were joined before
      module _ (old new : State) (others : List (List Frame)) (o : IsState P S W b (suc n) other others old) (g : JoinsTo b c frame from old new) where
        counts_both : (i : ℕ) → get_or new.counts.items i 0 ≡ count_by (λ fs. slot_of P S W b fs == i) (others ++ ext)
        counts_both i = g.counts i ∙ (ap₂ (λ (x y : ℕ). x + y) (o.counts i) (coming room i) ∙ sym (sum_by-append (λ fs. if slot_of P S W b fs == i then 1 else 0) others ext))

        least_both : All (λ fs. new.least ≤ left fs) (others ++ ext)
        least_both = All-append (λ fs. new.least ≤ left fs) others ext
            (All-weaker (λ fs. old.least ≤ left fs) (λ fs. new.least ≤ left fs) (λ fs l. omega (arith, l, g.least_is)) others o.least)
            (All-weaker (λ fs. from.least - c ≤ left fs) (λ fs. new.least ≤ left fs) (λ fs l. omega (arith, l, g.least_is)) ext least_longer)

        joined_both : All (IsJoined P S W b (suc n)) (others ++ ext)
        joined_both = All-append (IsJoined P S W b (suc n)) others ext o.joined (joined_longer turn)

        pub joins_state : ((first : List Frame) → GoOnAsOne P S W b (suc n) other first (others ++ ext)) → IsState P S W b (suc n) other (others ++ ext) new
        joins_state alike = by (is_ahead frame from old) refl
          where
            -- which of both is the first
            ahead_is : is_ahead frame from old ≡ is_first (left (turns_behind from frame)) (map left_of (turns_behind from frame)) (left old.frames.items) (map left_of old.frames.items)
            ahead_is = ap₂ (λ (x y : ℕ). is_first x (map left_of (turns_behind from frame)) y (map left_of old.frames.items)) left_is o.left_is

            by : (t : Bool) → is_ahead frame from old ≡ t → IsState P S W b (suc n) other (others ++ ext) new
            by true t =
                let frames : new.frames.items ≡ turns_behind from frame = g.frames_are ∙ rw t refl in
                let more : new.left ≡ from.left - c = g.left_is ∙ rw t refl in
                record {
                  joined = joined_both;
                  alike = alike new.frames.items;
                  first = rw frames (Contains-append_right others ext (turns_behind from frame) first_longer);
                  left_is = rw (frames, more) left_is;
                  none_before = rw frames (ahead P S W b (turns_behind from frame) old.frames.items others ext o.none_before none_before_longer (sym ahead_is ∙ t));
                  least = least_both;
                  counts = counts_both;
                }
            by false t =
                let frames : new.frames.items ≡ old.frames.items = g.frames_are ∙ rw t refl in
                let more : new.left ≡ old.left = g.left_is ∙ rw t refl in
                record {
                  joined = joined_both;
                  alike = alike new.frames.items;
                  first = rw frames (Contains-append_left others ext old.frames.items o.first);
                  left_is = rw (frames, more) o.left_is;
                  none_before = rw frames (stays P S W b (turns_behind from frame) old.frames.items others ext o.none_before none_before_longer (sym ahead_is ∙ t));
                  least = least_both;
                  counts = counts_both;
                }
