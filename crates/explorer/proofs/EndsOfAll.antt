-- What is told of all that ended is told of the explored histories, where it adds up and nothing is left to go on from.
-- By the paths in their order: each end is that of a text among them, and the ends stand in the order of their first paths.
use Rattle.std.proofs.Common.{◌≡◌, inl, inr, ℕ, ◌+◌, ◌<◌, ◌≤◌, Bool, true, false, not, bytes_eq, All, List, [], ◌∷◌, length, map, Option, refl, sym, ap, ap₂, ◌∙◌, subst, arith}
use Rattle.std.specs.Prelude.{◌&&◌, ◌||◌, Contains, count_by, if◌then◌else◌, max, nat_lt, sum_by}
use Rattle.std.proofs.Math.Nat.{le-max_left, le-max_right}
use Rattle.std.proofs.lemmas.Bool.Decides.{nat_tests}
use Rattle.std.proofs.lemmas.List.{length-map}
use Rattle.std.proofs.lemmas.List.Elements.{All-contains, All-head, All-tail, All-weaker}
use Rattle.std.proofs.lemmas.List.Sums.{sum_by-cons}
use Rattle.hist_model.proofs.Look.{name_eq-refl, name_eq-true}
use Rattle.hist_model.specs.Legal.{started}
use Rattle.hist_model.specs.ReportAudit.{Judging, judging_by}
use Rattle.hist_model.specs.declared.event.Event.{Event}
use Rattle.hist_model.specs.declared.policy.Policy.{Policy}
use Rattle.hist_model.specs.declared.script.Script.{Script}
use Rattle.hist_model.specs.declared.script.Step.{Step}
use Rattle.delay_bounded.specs.Explored.{closed, explored}
use Rattle.outcome_text.specs.Outcomes.{result_of}
use Rattle.explorer.specs.Levels.{HasEnded, IsEnd, IsNoLater, TellsEnds, closed_after, events_of, left_to, path_of, text_after}
use Rattle.explorer.specs.Paths.{Path, comes_first, is_first, left_of, paths_of}
use Rattle.explorer.specs.Sorted.{AreSorted, IsBefore, IsSorted, outcome_in}
use Rattle.explorer.specs.Taken.{all_events, longest}
use Rattle.explorer.specs.Tallies.{CountedOutcome, outcomes}
use Rattle.explorer.specs.Telling.{Tells}
use Rattle.explorer.specs.declared.ends.End.{End}
use Rattle.explorer.specs.declared.ends.Ends.{Ends}
use Rattle.explorer.specs.declared.exploring.Exploration.{Exploration}
use Rattle.explorer.specs.declared.frames.Frame.{Frame}
use Rattle.explorer.specs.declared.state.Bound.{Bound}
use Rattle.explorer.proofs.EndsTell.{AreEndsOf, AreInOrder, AreTold, IsEarlier, IsEndOf, IsTold, NoneBefore, TextEnd, comes_to, ends_tell, history, outcome_of}
use Rattle.explorer.proofs.PathOrder.{before_one}
use Rattle.explorer.proofs.PathShift.{first_shift, taken_one}
use Rattle.explorer.proofs.PathsExplored.{are_ordered, explored_is}
use Rattle.explorer.proofs.PathsTold.{NonePasses, all_paths, count_all, ended_there, none_counted, none_of_all, sum_all}
use Rattle.explorer.proofs.StateCounts.{count_cons}

-- ---- Sums over what was gone through

pub sum_mapped : {A B : Type 0} (g : B → ℕ) (f : A → B) (xs : List A) → sum_by g (map f xs) ≡ sum_by (λ x. g (f x)) xs
sum_mapped g f [] = refl
sum_mapped g f (x ∷ xs) = sum_by-cons g (f x) (map f xs) ∙ (ap (λ (n : ℕ). g (f x) + n) (sum_mapped g f xs) ∙ sym (sum_by-cons (λ y. g (f y)) x xs))

pub length_sum : {A : Type 0} (xs : List A) → sum_by (λ x. 1) xs ≡ length xs
length_sum [] = refl
length_sum (x ∷ xs) = let n : sum_by (λ y. 1) (x ∷ xs) ≡ 1 + sum_by (λ y. 1) xs = sum_by-cons (λ y. 1) x xs in omega (arith, n, length_sum xs)

-- ---- The longest

-- what is longer than n
abbrev pub is_longer : ℕ → List Event → Bool
is_longer n H = nat_lt n (length H)

none_longer : (n : ℕ) (L : List (List Event)) → longest L ≤ n → count_by (is_longer n) L ≡ 0
none_longer n [] l = refl
none_longer n (H ∷ L) l =
    let here : length H ≤ n = omega (arith, l, le-max_left (length H) (longest L)) in
    let behind : longest L ≤ n = omega (arith, l, le-max_right (length H) (longest L)) in
    let no : nat_lt n (length H) ≡ false = grind (arith, nat_tests) in
    let c : count_by (is_longer n) (H ∷ L) ≡ 0 + count_by (is_longer n) L = count_cons (is_longer n) H L ∙ rw no refl in
    omega (arith, c, none_longer n L behind)

max_within : (a b n : ℕ) → a ≤ n → b ≤ n → max a b ≤ n
max_within a b n l m = omega (arith, l, m)

longest_within : (n : ℕ) (L : List (List Event)) → count_by (is_longer n) L ≡ 0 → longest L ≤ n
longest_within n [] c = omega arith
longest_within n (H ∷ L) c = by (longest_within n L) (nat_lt n (length H)) refl
  where
    by : (count_by (is_longer n) L ≡ 0 → longest L ≤ n) → (t : Bool) → nat_lt n (length H) ≡ t → max (length H) (longest L) ≤ n
    by behind true e = let more : count_by (is_longer n) (H ∷ L) ≡ 1 + count_by (is_longer n) L = count_cons (is_longer n) H L ∙ rw e refl in absurd (omega (arith, more, c))
    by behind false e =
        let more : count_by (is_longer n) (H ∷ L) ≡ 0 + count_by (is_longer n) L = count_cons (is_longer n) H L ∙ rw e refl in
        let here : length H ≤ n = grind (arith, nat_tests) in
        max_within (length H) (longest L) n here (behind (omega (arith, more, c)))

-- of two lists that have as many histories longer than any length
same_longest : (L M : List (List Event)) → ((n : ℕ) → count_by (is_longer n) L ≡ count_by (is_longer n) M) → longest L ≡ longest M
same_longest L M c =
    let a : longest L ≤ longest M = longest_within (longest M) L (c (longest M) ∙ none_longer (longest M) M (omega arith)) in
    let z : longest M ≤ longest L = longest_within (longest L) M (sym (c (longest L)) ∙ none_longer (longest L) L (omega arith)) in
    omega (arith, a, z)

-- ---- Two of which neither comes first

-- two texts differ from both sides
pub differs : (t u : List ℕ) → bytes_eq u t ≡ false → bytes_eq t u ≡ false
differs t u d = by (bytes_eq t u) refl
  where
    by : (v : Bool) → bytes_eq t u ≡ v → v ≡ false
    by false e = refl
    by true e = let z : bytes_eq u t ≡ true = subst (λ (v : List ℕ). bytes_eq u v ≡ true) (sym (name_eq-true t u e)) (name_eq-refl u) in cc

first_one : (a c : ℕ) (xs ys : List ℕ) → is_first a xs c ys ≡ false → is_first c ys a xs ≡ false → xs ≡ ys
first_one a c xs ys p q = before_one xs ys (grind (arith, nat_tests)) (grind (arith, nat_tests))

-- ---- Ends

-- the end is that of a text
abbrev pub has_text : List ℕ → End → Bool
has_text text e = bytes_eq text e.text.items

-- no two come to one text
abbrev pub AreApart : List End → Type 0
AreApart es = (text : List ℕ) → count_by (has_text text) es ≤ 1

apart_behind : (e : End) (es : List End) → AreApart (e ∷ es) → AreApart es
apart_behind e es a text = let c : count_by (has_text text) (e ∷ es) ≡ (if has_text text e then 1 else 0) + count_by (has_text text) es = count_cons (has_text text) e es in omega (arith, c, a text)

none_same : (e : End) (es : List End) → AreApart (e ∷ es) → NonePasses (has_text e.text.items) es
none_same e es a =
    let same : has_text e.text.items e ≡ true = name_eq-refl e.text.items in
    let c : count_by (has_text e.text.items) (e ∷ es) ≡ 1 + count_by (has_text e.text.items) es = count_cons (has_text e.text.items) e es ∙ rw same refl in
    none_counted (has_text e.text.items) es (omega (arith, c, a e.text.items))

module _ (P : Policy) (S : Script) (W : ℕ) (b : Bound) (k : ℕ) (done : List (List Frame)) where
  abbrev J : Judging
  J = judging_by P.rules

  abbrev D : ℕ
  D = b.most + k

  abbrev text_end : End → TextEnd
  text_end e = record { text = e.text.items; first = path_of P S W b k e.frames.items; count = e.count }

  abbrev IsOne : End → Type 0
  IsOne e = IsEnd P S W b done e

  module _ (ended : All (HasEnded P S W b) done) (sums : (h : Path → ℕ) → sum_by h (paths_of P S W D) ≡ sum_by (λ fs. h (path_of P S W b k fs)) done) where
    -- ---- Each end

    -- comes to the end's text, and comes before its first path
    abbrev earlier : End → Path → Bool
    earlier e x = comes_to P S J e.text.items x && comes_first x (path_of P S W b k e.frames.items)

    not_earlier : (e : End) (fs : List Frame) → (text_after P S W b fs ≡ e.text.items → IsNoLater P S W b e.frames.items fs)
        → earlier e (path_of P S W b k fs) ≡ false
    not_earlier e fs n = by (comes_to P S J e.text.items (path_of P S W b k fs)) refl
      where
        by : (t : Bool) → comes_to P S J e.text.items (path_of P S W b k fs) ≡ t → earlier e (path_of P S W b k fs) ≡ false
        by true q =
            let text : text_after P S W b fs ≡ e.text.items = sym (name_eq-true e.text.items (text_after P S W b fs) q) in
            let late : comes_first (path_of P S W b k fs) (path_of P S W b k e.frames.items) ≡ false =
            first_shift k (left_to P S W b fs) (left_to P S W b e.frames.items) fs e.frames.items ∙ n text in
            rw q late
        by false q = rw q refl

    not_earlier_all : (e : End) → IsOne e → All (λ fs. earlier e (path_of P S W b k fs) ≡ false) done
    not_earlier_all e o =
        All-weaker (λ fs. text_after P S W b fs ≡ e.text.items → IsNoLater P S W b e.frames.items fs) (λ fs. earlier e (path_of P S W b k fs) ≡ false)
        (λ fs n. not_earlier e fs n) done o.none_before

    not_before : (e : End) (x : Path) → comes_to P S J e.text.items x ≡ true → earlier e x ≡ false → comes_first x (path_of P S W b k e.frames.items) ≡ false
    not_before e x c n = rw c at n

    none_before : (e : End) (xs : List Path) → NonePasses (earlier e) xs → NoneBefore P S J (text_end e) xs
    none_before e [] n = tt
    none_before e (x ∷ xs) n = (λ c. not_before e x c n.0, none_before e xs n.1)

    is_one : (e : End) → IsOne e → IsEndOf P S J (all_paths P S W b k done) (text_end e)
    is_one e o = record {
      there = ended_there P S W b k done e.frames.items (All-contains (HasEnded P S W b) done e.frames.items ended o.first);
      text_is = rw o.text_is (name_eq-refl e.text.items);
      none_before = none_before e (all_paths P S W b k done) (none_of_all P S W b k done sums (earlier e) (not_earlier_all e o));
      count_is = o.count_is ∙ sym (count_all P S W b k done sums (comes_to P S J e.text.items));
    }

    are_ends : (es : List End) → All IsOne es → AreEndsOf P S J (all_paths P S W b k done) (map text_end es)
    are_ends [] a = tt
    are_ends (e ∷ es) a = (is_one e (All-head IsOne e es a), are_ends es (All-tail IsOne e es a))

    -- ---- Their order

    -- two with one list of what was left come to one text
    one_text : (e d : End) → IsOne e → IsOne d → map left_of e.frames.items ≡ map left_of d.frames.items → e.text.items ≡ d.text.items
    one_text e d o p q =
        let x : HasEnded P S W b e.frames.items = All-contains (HasEnded P S W b) done e.frames.items ended o.first in
        let y : HasEnded P S W b d.frames.items = All-contains (HasEnded P S W b) done d.frames.items ended p.first in
        let same : events_of P S W b e.frames.items ≡ events_of P S W b d.frames.items = taken_one P S W 0 b.most (started S) e.frames.items d.frames.items x.taken y.taken q in
        sym o.text_is ∙ (ap (λ (K : List Event). result_of S J (closed P S (record { left = 0; events = K }))) same ∙ p.text_is)

    comes_earlier : (e d : End) → IsOne e → IsOne d → bytes_eq e.text.items d.text.items ≡ false
        → is_first d.left (map left_of d.frames.items) e.left (map left_of e.frames.items) ≡ false
        → comes_first (path_of P S W b k e.frames.items) (path_of P S W b k d.frames.items) ≡ true
    comes_earlier e d o p apart late =
        first_shift k (left_to P S W b e.frames.items) (left_to P S W b d.frames.items) e.frames.items d.frames.items
        ∙ (ap₂ (λ (l m : ℕ). is_first l (map left_of e.frames.items) m (map left_of d.frames.items)) (sym o.left_is) (sym p.left_is)
        ∙ by (is_first e.left (map left_of e.frames.items) d.left (map left_of d.frames.items)) refl)
      where
        by : (t : Bool) → is_first e.left (map left_of e.frames.items) d.left (map left_of d.frames.items) ≡ t → t ≡ true
        by true q = refl
        by false q =
            let same : e.text.items ≡ d.text.items = one_text e d o p (first_one e.left d.left (map left_of e.frames.items) (map left_of d.frames.items) q late) in
            let z : bytes_eq e.text.items d.text.items ≡ true = subst (λ (t : List ℕ). bytes_eq e.text.items t ≡ true) same (name_eq-refl e.text.items) in
            cc

    are_earlier : (e : End) (es : List End) → IsOne e → All IsOne es → NonePasses (has_text e.text.items) es → IsBefore e es → IsEarlier P S J (text_end e) (map text_end es)
    are_earlier e [] o a n s = tt
    are_earlier e (d ∷ es) o a n s =
        (n.0, comes_earlier e d o (All-head IsOne d es a) n.0 s.0, are_earlier e es o (All-tail IsOne d es a) n.1 s.1)

    in_order : (es : List End) → All IsOne es → AreApart es → AreSorted es → AreInOrder P S J (map text_end es)
    in_order [] a n s = tt
    in_order (e ∷ es) a n s =
        (are_earlier e es (All-head IsOne e es a) (All-tail IsOne e es a) (none_same e es n) s.0, in_order es (All-tail IsOne e es a) (apart_behind e es n) s.1)

    -- ---- All are told

    abbrev is_told : List End → Path → Bool
    is_told [] x = false
    is_told (e ∷ es) x = comes_to P S J e.text.items x || is_told es x

    -- the path's text is that of none of these
    abbrev is_untold : List End → Path → Bool
    is_untold es x = not (is_told es x)

    told_by : (es : List End) (x : Path) → is_untold es x ≡ false → IsTold P S J x (map text_end es)
    told_by [] x u = cc
    told_by (e ∷ es) x u = by (told_by es x) (comes_to P S J e.text.items x) refl
      where
        by : (is_untold es x ≡ false → IsTold P S J x (map text_end es)) → (t : Bool) → comes_to P S J e.text.items x ≡ t → IsTold P S J x (map text_end (e ∷ es))
        by more true q = inl q
        by more false q = inr (more (rw q at u))

    told_each : (es : List End) (xs : List Path) → NonePasses (is_untold es) xs → AreTold P S J xs (map text_end es)
    told_each es [] n = tt
    told_each es (x ∷ xs) n = (told_by es x n.0, told_each es xs n.1)

    counted_told : (es : List End) (fs : List Frame) → 0 < count_by (has_text (text_after P S W b fs)) es → is_untold es (path_of P S W b k fs) ≡ false
    counted_told [] fs c = absurd (omega (arith, c))
    counted_told (e ∷ es) fs c = by (counted_told es fs) (comes_to P S J e.text.items (path_of P S W b k fs)) refl
      where
        n : count_by (has_text (text_after P S W b fs)) (e ∷ es) ≡ (if has_text (text_after P S W b fs) e then 1 else 0) + count_by (has_text (text_after P S W b fs)) es
        n = count_cons (has_text (text_after P S W b fs)) e es

        by : (0 < count_by (has_text (text_after P S W b fs)) es → is_untold es (path_of P S W b k fs) ≡ false) → (t : Bool) → comes_to P S J e.text.items (path_of P S W b k fs) ≡ t
            → is_untold (e ∷ es) (path_of P S W b k fs) ≡ false
        by more true q = rw q refl
        by more false q =
            let other : bytes_eq (text_after P S W b fs) e.text.items ≡ false = differs (text_after P S W b fs) e.text.items q in
            let less : count_by (has_text (text_after P S W b fs)) (e ∷ es) ≡ 0 + count_by (has_text (text_after P S W b fs)) es = n ∙ rw other refl in
            rw q (more (omega (arith, less, c)))

    all_told : (es : List End) → All (λ fs. 0 < count_by (has_text (text_after P S W b fs)) es) done → AreTold P S J (all_paths P S W b k done) (map text_end es)
    all_told es a =
        told_each es (all_paths P S W b k done) (none_of_all P S W b k done sums (is_untold es)
        (All-weaker (λ fs. 0 < count_by (has_text (text_after P S W b fs)) es) (λ fs. is_untold es (path_of P S W b k fs) ≡ false) (λ fs c. counted_told es fs c) done a))

    -- ---- What is told

    outcomes_map : (es : List End) → All IsOne es → map outcome_in es ≡ map (outcome_of P S J) (map text_end es)
    outcomes_map [] a = refl
    outcomes_map (e ∷ es) a =
        let o : IsOne e = All-head IsOne e es a in
        let here : outcome_in e ≡ outcome_of P S J (text_end e) = ap (λ (s : Option (List Step)). record { text = e.text.items; histories = e.count; schedule = s }) o.schedule_is in
        ap₂ (λ (p : CountedOutcome) (ps : List CountedOutcome). p ∷ ps) here (outcomes_map es (All-tail IsOne e es a))

    explored_are : explored P S W D ≡ map (history P S) (all_paths P S W b k done)
    explored_are = explored_is P S W D D (omega arith)

    -- the outcomes of sorted ends
    pub outcomes_told : (es : List End) → All IsOne es → AreApart es → All (λ fs. 0 < count_by (has_text (text_after P S W b fs)) es) done → AreSorted es
        → map outcome_in es ≡ outcomes S J (explored P S W D)
    outcomes_told es a n t s =
        outcomes_map es a
        ∙ (ends_tell P S J (map text_end es) (all_paths P S W b k done) (are_ordered P S W D) (are_ends es a) (in_order es a n s) (all_told es t)
        ∙ ap (outcomes S J) (sym explored_are))

    -- whatever is added up over the histories
    over_all : (g : List Event → ℕ) → sum_by g (explored P S W D) ≡ sum_by g (map (closed_after P S W b) done)
    over_all g =
        ap (sum_by g) explored_are
        ∙ (sum_mapped g (history P S) (all_paths P S W b k done)
        ∙ (sum_all P S W b k done sums (λ x. g (history P S x))
        ∙ sym (sum_mapped g (closed_after P S W b) done)))

    pub histories_told : length (explored P S W D) ≡ length done
    histories_told =
        sym (length_sum (explored P S W D)) ∙ (over_all (λ H. 1) ∙ (length_sum (map (closed_after P S W b) done) ∙ length-map done (closed_after P S W b)))

    pub events_told : all_events (explored P S W D) ≡ all_events (map (closed_after P S W b) done)
    events_told = over_all (λ (H : List Event). length H)

    pub longest_told : longest (explored P S W D) ≡ longest (map (closed_after P S W b) done)
    longest_told = same_longest (explored P S W D) (map (closed_after P S W b) done) (λ n. over_all (λ H. if is_longer n H then 1 else 0))

    -- ---- All that is told

    counted_still : (es sorted : List End) → IsSorted es sorted → (ms : List (List Frame)) → All (λ fs. 0 < count_by (has_text (text_after P S W b fs)) es) ms
        → All (λ fs. 0 < count_by (has_text (text_after P S W b fs)) sorted) ms
    counted_still es sorted o ms a =
        All-weaker (λ fs. 0 < count_by (has_text (text_after P S W b fs)) es) (λ fs. 0 < count_by (has_text (text_after P S W b fs)) sorted)
        (λ fs c. omega (arith, c, o.counts (has_text (text_after P S W b fs)))) ms a

    pub tells : (x : Ends) (sorted : List End) (y : Exploration) → TellsEnds P S W b done x → IsSorted x.ends.items sorted → y.histories ≡ x.histories → y.events ≡ x.events
        → y.longest ≡ x.longest → y.whole ≡ true → y.outcomes.items ≡ map outcome_in sorted → Tells P S (explored P S W D) true y
    tells x sorted y t o histories events longest whole out = record {
      histories = histories ∙ (t.histories ∙ sym histories_told);
      events = events ∙ (t.events ∙ sym events_told);
      longest_is = longest ∙ (t.longest_is ∙ sym longest_told);
      whole_is = whole;
      outcomes_are = out ∙ outcomes_told sorted
          (All-weaker (Contains x.ends.items) IsOne (λ e c. All-contains IsOne x.ends.items e t.each c) sorted o.each)
          (λ text. omega (arith, t.apart text, o.counts (has_text text)))
          (counted_still x.ends.items sorted o done t.none_else)
          o.in_order;
    }
