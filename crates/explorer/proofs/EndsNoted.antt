-- Histories of one length that come to one text are noted: what was told of those that ended before is then told of all.
-- By each part of what is told: for the end with the text, and for every other one.
use Rattle.std.proofs.Common.{◌≡◌, inl, inr, ℕ, zero, suc, ◌+◌, ◌*◌, ◌<◌, ◌≤◌, ◌≢◌, Bool, true, false, bytes_eq, nat_lt, All, List, [], ◌∷◌, ◌++◌, length, map, get_or, set, None, Some, refl, sym, ap, ap₂, ◌∙◌, subst, arith}
use Rattle.std.specs.Prelude.{Contains, count_by, if◌then◌else◌, max, option_map}
use Rattle.std.specs.List.{position, position_or_len}
use Rattle.std.proofs.lemmas.Bool.{cases_eq, ltb-false}
use Rattle.std.proofs.lemmas.List.{get_or-set_other, get_or-set_same, get_or_read, length-append, length-set, map-append}
use Rattle.std.proofs.lemmas.List.Elements.{All-append, All-from_get_or, All-get_or, All-head, All-push, All-tail, All-weaker, Contains-append_left, Contains-append_right}
use Rattle.std.proofs.lemmas.List.Quantifiers.{position-Some}
use Rattle.std.proofs.lemmas.List.Sums.{fails_before_first, sum_by-append, sum_by-cons, sum_by-set}
use Rattle.hist_model.proofs.Look.{name_eq-refl, name_eq-true}
use Rattle.hist_model.specs.declared.event.Event.{Event}
use Rattle.hist_model.specs.declared.policy.Policy.{Policy}
use Rattle.hist_model.specs.declared.script.Script.{Script}
use Rattle.explorer.specs.Ends.{HasFirstOf, IsOneMore, JoinsEnd, JoinsEnds, JoinsThere, KeepsFirst, has_text, is_ahead_of}
use Rattle.explorer.specs.Levels.{EndAsOne, HasEnded, IsEnd, IsNoLater, TellsEnds, closed_after, comes_to, left_to, schedule_after, text_after}
use Rattle.explorer.specs.Paths.{is_first, left_of}
use Rattle.explorer.specs.Taken.{all_events, longest}
use Rattle.explorer.specs.declared.ends.End.{End}
use Rattle.explorer.specs.declared.ends.Ends.{Ends}
use Rattle.explorer.specs.declared.frames.Frame.{Frame}
use Rattle.explorer.specs.declared.state.Bound.{Bound}
use Rattle.explorer.proofs.EndsOfAll.{differs}
use Rattle.explorer.proofs.PathOrder.{no_later_ahead, no_later_behind}
use Rattle.explorer.proofs.PathsTold.{count_of_none}
use Rattle.explorer.proofs.StateCounts.{count_cons}
use Rattle.explorer.proofs.Tellings.{events_of_both, longest_of_both}

-- ---- Counts

module _ {A : Type 0} (p : A → Bool) where
  pub count_of_all : (xs : List A) → All (λ x. p x ≡ true) xs → count_by p xs ≡ length xs
  count_of_all [] a = refl
  count_of_all (x ∷ xs) a =
      let n : count_by p (x ∷ xs) ≡ 1 + count_by p xs = count_cons p x xs ∙ rw (All-head (λ y. p y ≡ true) x xs a) refl in
      omega (arith, n, count_of_all xs (All-tail (λ y. p y ≡ true) x xs a))

  count_at : (xs : List A) (i : ℕ) (d : A) → i < length xs → p (get_or xs i d) ≡ true → 1 ≤ count_by p xs
  count_at [] i d l e = absurd (omega (arith, l))
  count_at (x ∷ xs) zero d l e = let n : count_by p (x ∷ xs) ≡ 1 + count_by p xs = count_cons p x xs ∙ rw e refl in omega (arith, n)
  count_at (x ∷ xs) (suc i) d l e =
      let n : count_by p (x ∷ xs) ≡ (if p x then 1 else 0) + count_by p xs = count_cons p x xs in
      omega (arith, n, count_at xs i d (omega (arith, l)) e)

  -- what passes at two places is counted twice
  count_two : (xs : List A) (i j : ℕ) (d : A) → i ≢ j → i < length xs → j < length xs → p (get_or xs i d) ≡ true → p (get_or xs j d) ≡ true → 2 ≤ count_by p xs
  count_two [] i j d n l m e f = absurd (omega (arith, l))
  count_two (x ∷ xs) zero zero d n l m e f = absurd (n refl)
  count_two (x ∷ xs) zero (suc j) d n l m e f =
      let c : count_by p (x ∷ xs) ≡ 1 + count_by p xs = count_cons p x xs ∙ rw e refl in
      omega (arith, c, count_at xs j d (omega (arith, m)) f)
  count_two (x ∷ xs) (suc i) zero d n l m e f =
      let c : count_by p (x ∷ xs) ≡ 1 + count_by p xs = count_cons p x xs ∙ rw f refl in
      omega (arith, c, count_at xs i d (omega (arith, l)) e)
  count_two (x ∷ xs) (suc i) (suc j) d n l m e f =
      let c : count_by p (x ∷ xs) ≡ (if p x then 1 else 0) + count_by p xs = count_cons p x xs in
      omega (arith, c, count_two xs i j d (λ q. n (ap suc q)) (omega (arith, l)) (omega (arith, m)) e f)

  none_past : (xs : List A) (b : Bool) → nat_lt (position_or_len p xs) (length xs) ≡ b → (if b then Some (position_or_len p xs) else None) ≡ None → length xs ≤ position_or_len p xs
  none_past xs true e n = cc
  none_past xs false e n = ltb-false (position_or_len p xs) (length xs) e

  -- what isn't found nowhere passes
  none_passes : (xs : List A) → position p xs ≡ None → All (λ x. p x ≡ false) xs
  none_passes xs n =
      let past : length xs ≤ position_or_len p xs = none_past xs (nat_lt (position_or_len p xs) (length xs)) refl n in
      λ k d l. fails_before_first p xs k d (omega (arith, l, past))

-- what was joined to the end that was found was joined to all
pub joined_there : (end : End) (old : List End) (place : ℕ) (there joined : End) → position (has_text end.text.items) old ≡ Some place → there ≡ get_or old place there
    → JoinsEnd end there joined → JoinsEnds end old (set old place joined)
joined_there end old place there joined e is j =
    let inside : place < length old = (position-Some (has_text end.text.items) old place there e).0 in
    inl (record {
      place = place;
      inside = inside;
      found = λ d. (position-Some (has_text end.text.items) old place d e).1;
      joined = joined;
      joins = λ d. subst (λ (x : End). JoinsEnd end x joined) (get_or_read old place there inside is d) j;
      ends_are = refl;
    })

-- the end is that of a text
abbrev is_of : List ℕ → End → Bool
is_of text e = bytes_eq text e.text.items

-- ---- Lengths

module _ (P : Policy) (S : Script) (W : ℕ) (b : Bound) where
  events_as_long : (n : ℕ) (ms : List (List Frame)) → All (λ fs. length (closed_after P S W b fs) ≡ n) ms → all_events (map (closed_after P S W b) ms) ≡ length ms * n
  events_as_long n [] a = omega arith
  events_as_long n (fs ∷ ms) a =
      let one : length (closed_after P S W b fs) ≡ n = All-head (λ gs. length (closed_after P S W b gs) ≡ n) fs ms a in
      let c : all_events (map (closed_after P S W b) (fs ∷ ms)) ≡ length (closed_after P S W b fs) + all_events (map (closed_after P S W b) ms) =
      sum_by-cons (λ (H : List Event). length H) (closed_after P S W b fs) (map (closed_after P S W b) ms) in
      omega (arith, one, c, events_as_long n ms (All-tail (λ gs. length (closed_after P S W b gs) ≡ n) fs ms a))

  longest_as_long : (n : ℕ) (ms : List (List Frame)) → 0 < length ms → All (λ fs. length (closed_after P S W b fs) ≡ n) ms → longest (map (closed_after P S W b) ms) ≡ n
  longest_as_long n [] l a = absurd (omega (arith, l))
  longest_as_long n (fs ∷ []) l a = omega (arith, All-head (λ gs. length (closed_after P S W b gs) ≡ n) fs [] a)
  longest_as_long n (fs ∷ (gs ∷ ms)) l a =
      omega (
        arith,
        All-head (λ hs. length (closed_after P S W b hs) ≡ n) fs (gs ∷ ms) a,
        longest_as_long n (gs ∷ ms) (omega arith) (All-tail (λ hs. length (closed_after P S W b hs) ≡ n) fs (gs ∷ ms) a),
      )

  module _ (done more : List (List Frame)) where
    abbrev IsOne : End → Type 0
    IsOne e = IsEnd P S W b done e

    abbrev IsBoth : End → Type 0
    IsBoth e = IsEnd P S W b (done ++ more) e

    -- what isn't later than the first of an end with this text
    abbrev IsLate : List ℕ → List Frame → List Frame → Type 0
    IsLate text first fs = text_after P S W b fs ≡ text → IsNoLater P S W b first fs

    count_both : (text : List ℕ) → count_by (comes_to P S W b text) (done ++ more) ≡ count_by (comes_to P S W b text) done + count_by (comes_to P S W b text) more
    count_both text = sum_by-append (λ fs. if comes_to P S W b text fs then 1 else 0) done more

    module _ (end : End) (i : IsEnd P S W b more end) (texts : All (λ fs. text_after P S W b fs ≡ end.text.items) more) where
      abbrev T : List ℕ
      T = end.text.items

      -- ---- Other ends

      none_comes : (text : List ℕ) → bytes_eq T text ≡ false → count_by (comes_to P S W b text) more ≡ 0
      none_comes text d = count_of_none (comes_to P S W b text) more
          (All-weaker (λ fs. text_after P S W b fs ≡ T) (λ fs. comes_to P S W b text fs ≡ false)
          (λ fs q. subst (λ (u : List ℕ). bytes_eq text u ≡ false) (sym q) (differs text T d)) more texts)

      none_late : (text : List ℕ) (first : List Frame) → bytes_eq T text ≡ false → All (IsLate text first) more
      none_late text first d = All-weaker (λ fs. text_after P S W b fs ≡ T) (IsLate text first)
          (λ fs q e. let same : bytes_eq T text ≡ true = subst (λ (u : List ℕ). bytes_eq T u ≡ true) (sym q ∙ e) (name_eq-refl T) in absurd cc) more texts

      -- it comes to another text, and has no more histories
      still_end : (e : End) → IsOne e → bytes_eq T e.text.items ≡ false → IsBoth e
      still_end e o d = record {
        first = Contains-append_left done more e.frames.items o.first;
        text_is = o.text_is;
        left_is = o.left_is;
        schedule_is = o.schedule_is;
        none_before = All-append (IsLate e.text.items e.frames.items) done more o.none_before (none_late e.text.items e.frames.items d);
        count_is = omega (arith, o.count_is, count_both e.text.items, none_comes e.text.items d);
      }

      -- ---- The end with the text

      module _ (old new : End) (o : IsOne old) (j : JoinsEnd end old new) (same : old.text.items ≡ T) where
        text_is : new.text.items ≡ T
        text_is = ap (λ t. t.items) j.text_is ∙ same

        count_is : new.count ≡ count_by (comes_to P S W b new.text.items) (done ++ more)
        count_is =
            let here : old.count ≡ count_by (comes_to P S W b T) done = o.count_is ∙ ap (λ (t : List ℕ). count_by (comes_to P S W b t) done) same in
            let all : new.count ≡ count_by (comes_to P S W b T) (done ++ more) = omega (arith, j.count_is, here, i.count_is, count_both T) in
            all ∙ ap (λ (t : List ℕ). count_by (comes_to P S W b t) (done ++ more)) (sym text_is)

        late_old : All (IsLate T old.frames.items) done
        late_old = subst (λ (t : List ℕ). All (IsLate t old.frames.items) done) same o.none_before

        ahead_is : is_ahead_of old end ≡ is_first (left_to P S W b end.frames.items) (map left_of end.frames.items) (left_to P S W b old.frames.items) (map left_of old.frames.items)
        ahead_is = ap₂ (λ (x y : ℕ). is_first x (map left_of end.frames.items) y (map left_of old.frames.items)) i.left_is o.left_is

        moves : is_ahead_of old end ≡ true → All (IsLate T end.frames.items) (done ++ more)
        moves h = All-append (IsLate T end.frames.items) done more
            (All-weaker (IsLate T old.frames.items) (IsLate T end.frames.items)
            (λ fs l q. no_later_ahead (left_to P S W b end.frames.items) (left_to P S W b old.frames.items) (left_to P S W b fs)
            (map left_of end.frames.items) (map left_of old.frames.items) (map left_of fs) (sym ahead_is ∙ h) (l q)) done late_old)
            i.none_before

        stays : is_ahead_of old end ≡ false → All (IsLate T old.frames.items) (done ++ more)
        stays h = All-append (IsLate T old.frames.items) done more late_old
            (All-weaker (IsLate T end.frames.items) (IsLate T old.frames.items)
            (λ fs l q. no_later_behind (left_to P S W b end.frames.items) (left_to P S W b old.frames.items) (left_to P S W b fs)
            (map left_of end.frames.items) (map left_of old.frames.items) (map left_of fs) (sym ahead_is ∙ h) (l q)) more i.none_before)

        -- with the first history of one of both
        with_first : (e : End) → HasFirstOf e new → Contains (done ++ more) e.frames.items → text_after P S W b e.frames.items ≡ T → e.left ≡ left_to P S W b e.frames.items
            → option_map (λ steps. steps.items) e.schedule ≡ schedule_after P S W b e.frames.items → All (IsLate T e.frames.items) (done ++ more) → IsBoth new
        with_first e f c t l s a =
            let frames : new.frames.items ≡ e.frames.items = ap (λ fs. fs.items) f.frames_are in
            record {
              first = subst (λ (fs : List Frame). Contains (done ++ more) fs) (sym frames) c;
              text_is = ap (text_after P S W b) frames ∙ (t ∙ sym text_is);
              left_is = f.left_is ∙ (l ∙ ap (left_to P S W b) (sym frames));
              schedule_is = ap (λ x. option_map (λ steps. steps.items) x) f.schedule_is ∙ (s ∙ ap (schedule_after P S W b) (sym frames));
              none_before = subst (λ (fs : List Frame). All (IsLate new.text.items fs) (done ++ more)) (sym frames)
                  (subst (λ (t : List ℕ). All (IsLate t e.frames.items) (done ++ more)) (sym text_is) a);
              count_is = count_is;
            }

        joined_by : (h : Bool) → is_ahead_of old end ≡ h → KeepsFirst h end old new → IsBoth new
        joined_by true h k = with_first end k (Contains-append_right done more end.frames.items i.first) i.text_is i.left_is i.schedule_is (moves h)
        joined_by false h k = with_first old k (Contains-append_left done more old.frames.items o.first) (o.text_is ∙ same) o.left_is o.schedule_is (stays h)

        both_end : IsBoth new
        both_end = joined_by (is_ahead_of old end) refl j.first_is

      -- ---- All ends

      module _ (old new : List End) (each : All IsOne old) (apart : (text : List ℕ) → count_by (is_of text) old ≤ 1)
          (known : All (λ fs. 0 < count_by (is_of (text_after P S W b fs)) old) done) where
        -- so it is of all ends now
        record AreNoted : Type 0 where
          each_end : All IsBoth new
          one_each : (text : List ℕ) → count_by (is_of text) new ≤ 1
          none_fewer : (text : List ℕ) → count_by (is_of text) old ≤ count_by (is_of text) new
          some_there : 0 < count_by (is_of T) new

        module _ (j : JoinsThere end old new) where
          d : End
          d = j.joined

          there : End
          there = get_or old j.place d

          there_text : there.text.items ≡ T
          unfolding there d
          there_text = name_eq-true there.text.items T (j.found d)

          passes_there : is_of T there ≡ true
          unfolding there d
          passes_there = subst (λ (t : List ℕ). bytes_eq T t ≡ true) (sym there_text) (name_eq-refl T)

          joined_here : IsBoth j.joined
          unfolding there d
          joined_here = both_end there j.joined (All-get_or IsOne old j.place d j.inside each) (j.joins d) there_text

          -- another end has another text
          other_text : (k : ℕ) → k < length old → k ≢ j.place → (t : Bool) → is_of T (get_or old k d) ≡ t → bytes_eq T (get_or old k d).text.items ≡ false
          unfolding there d
          other_text k l n true e =
              let two : 2 ≤ count_by (is_of T) old = count_two (is_of T) old k j.place d n l j.inside e passes_there in
              absurd (omega (arith, two, apart T))
          other_text k l n false e = e

          each_there : All IsBoth new
          unfolding d
          each_there = subst (λ (xs : List End). All IsBoth xs) (sym j.ends_are) (All-from_get_or IsBoth (set old j.place j.joined) d (λ k l. elim (cases_eq k j.place) [
            | inl e ↦
                let at : get_or (set old j.place j.joined) j.place d ≡ j.joined = get_or-set_same old j.place j.joined d j.inside in
                rw (e, at) joined_here
            | inr n ↦
                let m : k < length old = omega (arith, l, length-set old j.place j.joined) in
                let at : get_or (set old j.place j.joined) k d ≡ get_or old k d = get_or-set_other old j.place k j.joined d n in
                rw at (still_end (get_or old k d) (All-get_or IsOne old k d m each) (other_text k m n (is_of T (get_or old k d)) refl))
          ]))

          same_count : (text : List ℕ) → count_by (is_of text) new ≡ count_by (is_of text) old
          unfolding there d
          same_count text =
              let test : is_of text j.joined ≡ is_of text there = ap (λ t. bytes_eq text t.items) (j.joins d).text_is in
              let s : count_by (is_of text) (set old j.place j.joined) + (if is_of text there then 1 else 0) ≡ count_by (is_of text) old + (if is_of text j.joined then 1 else 0) =
              sum_by-set (λ e. if is_of text e then 1 else 0) old j.place j.joined d j.inside in
              let here : count_by (is_of text) new ≡ count_by (is_of text) (set old j.place j.joined) = ap (count_by (is_of text)) j.ends_are in
              let both : ◌≡◌ {A = ℕ} (if is_of text j.joined then 1 else 0) (if is_of text there then 1 else 0) = ap (λ (t : Bool). if t then 1 else 0) test in
              omega (arith, here, s, both)

          noted_there : AreNoted
          unfolding there d
          noted_there = record {
            each_end = each_there;
            one_each = λ text. omega (arith, same_count text, apart text);
            none_fewer = λ text. omega (arith, same_count text);
            some_there = let n : 1 ≤ count_by (is_of T) old = count_at (is_of T) old j.place d j.inside passes_there in omega (arith, n, same_count T);
          }

        module _ (j : IsOneMore end old new) where
          others : All (λ e. bytes_eq T e.text.items ≡ false) old
          others = All-weaker (λ e. has_text T e ≡ false) (λ e. bytes_eq T e.text.items ≡ false) (λ e q. differs T e.text.items q) old (none_passes (has_text T) old j.none_found)

          none_there : count_by (is_of T) old ≡ 0
          none_there = count_of_none (is_of T) old others

          -- none of those before comes to the text
          not_come : (fs : List Frame) → 0 < count_by (is_of (text_after P S W b fs)) old → (t : Bool) → comes_to P S W b T fs ≡ t → comes_to P S W b T fs ≡ false
          not_come fs l true e =
              let same : T ≡ text_after P S W b fs = name_eq-true T (text_after P S W b fs) e in
              let none : count_by (is_of (text_after P S W b fs)) old ≡ 0 = ap (λ (t : List ℕ). count_by (is_of t) old) (sym same) ∙ none_there in
              absurd (omega (arith, l, none))
          not_come fs l false e = e

          none_before : All (λ fs. comes_to P S W b T fs ≡ false) done
          none_before = All-weaker (λ fs. 0 < count_by (is_of (text_after P S W b fs)) old) (λ fs. comes_to P S W b T fs ≡ false)
              (λ fs l. not_come fs l (comes_to P S W b T fs) refl) done known

          late_before : All (IsLate T end.frames.items) done
          late_before = All-weaker (λ fs. comes_to P S W b T fs ≡ false) (IsLate T end.frames.items)
              (λ fs n q. let same : comes_to P S W b T fs ≡ true = subst (λ (t : List ℕ). bytes_eq T t ≡ true) (sym q) (name_eq-refl T) in absurd cc) done none_before

          end_here : IsBoth end
          end_here = record {
            first = Contains-append_right done more end.frames.items i.first;
            text_is = i.text_is;
            left_is = i.left_is;
            schedule_is = i.schedule_is;
            none_before = All-append (IsLate T end.frames.items) done more late_before i.none_before;
            count_is = omega (arith, i.count_is, count_both T, count_of_none (comes_to P S W b T) done none_before);
          }

          each_more : All IsBoth new
          each_more = subst (λ (xs : List End). All IsBoth xs) (sym j.ends_are)
              (All-push IsBoth old end (λ k d l. still_end (get_or old k d) (each k d l) (others k d l)) end_here)

          count_more : (text : List ℕ) → count_by (is_of text) new ≡ count_by (is_of text) old + (if bytes_eq text T then 1 else 0)
          count_more text =
              let one : count_by (is_of text) (end ∷ []) ≡ (if bytes_eq text T then 1 else 0) + 0 = count_cons (is_of text) end [] in
              let both : count_by (is_of text) (old ++ end ∷ []) ≡ count_by (is_of text) old + count_by (is_of text) (end ∷ []) = sum_by-append (λ e. if is_of text e then 1 else 0) old (end ∷ []) in
              omega (arith, ap (count_by (is_of text)) j.ends_are, both, one)

          apart_more : (text : List ℕ) (t : Bool) → bytes_eq text T ≡ t → count_by (is_of text) new ≤ 1
          apart_more text true e =
              let none : count_by (is_of text) old ≡ 0 = ap (λ (u : List ℕ). count_by (is_of u) old) (name_eq-true text T e) ∙ none_there in
              let more : count_by (is_of text) new ≡ count_by (is_of text) old + 1 = count_more text ∙ rw e refl in
              omega (arith, more, none)
          apart_more text false e =
              let more : count_by (is_of text) new ≡ count_by (is_of text) old + 0 = count_more text ∙ rw e refl in
              omega (arith, more, apart text)

          noted_more : AreNoted
          noted_more = record {
            each_end = each_more;
            one_each = λ text. apart_more text (bytes_eq text T) refl;
            none_fewer = λ text. omega (arith, count_more text);
            some_there = let more : count_by (is_of T) new ≡ count_by (is_of T) old + 1 = count_more T ∙ rw (name_eq-refl T) refl in omega (arith, more);
          }

        noted_in : JoinsEnds end old new → AreNoted
        noted_in (inl j) = noted_there j
        noted_in (inr j) = noted_more j

  -- they are noted
  module _ (done more : List (List Frame)) (old new : Ends) (end : End) (n : ℕ) (t : TellsEnds P S W b done old) (i : IsEnd P S W b more end) (a : EndAsOne P S W b n end.text.items more)
      (j : JoinsEnds end old.ends.items new.ends.items) where
    noted : AreNoted done more end i a.texts old.ends.items new.ends.items t.each t.apart t.none_else
    noted = noted_in done more end i a.texts old.ends.items new.ends.items t.each t.apart t.none_else j

    all_come : All (λ fs. comes_to P S W b end.text.items fs ≡ true) more
    all_come = All-weaker (λ fs. text_after P S W b fs ≡ end.text.items) (λ fs. comes_to P S W b end.text.items fs ≡ true)
        (λ fs q. subst (λ (u : List ℕ). bytes_eq end.text.items u ≡ true) (sym q) (name_eq-refl end.text.items)) more a.texts

    all_counted : end.count ≡ length more
    all_counted = i.count_is ∙ count_of_all (comes_to P S W b end.text.items) more all_come

    some : 0 < length more
    some = omega (arith, i.first.1)

    known_before : All (λ fs. 0 < count_by (is_of (text_after P S W b fs)) new.ends.items) done
    known_before = All-weaker (λ fs. 0 < count_by (is_of (text_after P S W b fs)) old.ends.items) (λ fs. 0 < count_by (is_of (text_after P S W b fs)) new.ends.items)
        (λ fs l. omega (arith, l, noted.none_fewer (text_after P S W b fs))) done t.none_else

    known_more : All (λ fs. 0 < count_by (is_of (text_after P S W b fs)) new.ends.items) more
    known_more = All-weaker (λ fs. text_after P S W b fs ≡ end.text.items) (λ fs. 0 < count_by (is_of (text_after P S W b fs)) new.ends.items)
        (λ fs q. subst (λ (u : List ℕ). 0 < count_by (is_of u) new.ends.items) (sym q) noted.some_there) more a.texts

    pub all_noted : new.histories ≡ old.histories + end.count → new.events ≡ old.events + end.count * n → new.longest ≡ max old.longest n → TellsEnds P S W b (done ++ more) new
    all_noted histories events long =
        let closed : map (closed_after P S W b) (done ++ more) ≡ map (closed_after P S W b) done ++ map (closed_after P S W b) more = map-append (closed_after P S W b) done more in
        record {
          ended = All-append (HasEnded P S W b) done more t.ended a.ended;
          histories = omega (arith, histories, t.histories, all_counted, length-append done more);
          events =
              let times : end.count * n ≡ length more * n = ap (λ (c : ℕ). c * n) all_counted in
              let both : all_events (map (closed_after P S W b) (done ++ more)) ≡ all_events (map (closed_after P S W b) done) + all_events (map (closed_after P S W b) more) =
              ap all_events closed ∙ events_of_both (map (closed_after P S W b) done) (map (closed_after P S W b) more) in
              omega (arith, events, t.events, times, both, events_as_long n more a.lengths);
          longest_is =
              let both : longest (map (closed_after P S W b) (done ++ more)) ≡ max (longest (map (closed_after P S W b) done)) (longest (map (closed_after P S W b) more)) =
              ap longest closed ∙ longest_of_both (map (closed_after P S W b) done) (map (closed_after P S W b) more) in
              long ∙ (ap₂ max t.longest_is (sym (longest_as_long n more some a.lengths)) ∙ sym both);
          each = noted.each_end;
          apart = noted.one_each;
          none_else = All-append (λ fs. 0 < count_by (is_of (text_after P S W b fs)) new.ends.items) done more known_before known_more;
        }
