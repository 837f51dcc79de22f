-- The ends in the order of their first histories: the first one of those that are left is taken, again and again.
-- By the order of the first histories, and by what is left when one is removed.
use Rattle.std.proofs.Common.{◌≡◌, ℕ, suc, ◌+◌, ◌<◌, true, false, All, List, [], ◌∷◌, ◌++◌, length, map, get_or, take, drop, Some, sym, ap, ◌∙◌, subst, arith, append-nil, below_more}
use Rattle.std.specs.Prelude.{Contains, if◌then◌else◌}
use Rattle.std.specs.List.{remove}
use Rattle.std.specs.List.Sorted.{IsPermutation}
use Rattle.std.proofs.lemmas.Bool.Decides.{nat_tests}
use Rattle.std.proofs.lemmas.List.{get_or_read}
use Rattle.std.proofs.lemmas.List.Elements.{All-append, All-contains_itself, All-cons, All-drop, All-from_get_or, All-get_or, All-head, All-nil, All-tail, All-take}
use Rattle.std.proofs.lemmas.List.Sorted.{All-permutation, IsPermutation-more, sum_by-IsPermutation}
use Rattle.std.proofs.lemmas.List.{map-append}
use Rattle.explorer.specs.Paths.{is_first, left_of}
use Rattle.explorer.specs.Sorted.{AreSorted, IsBefore, IsFirstAt, IsNoLaterEnd, IsSorted, outcome_in}
use Rattle.explorer.specs.Tallies.{CountedOutcome}
use Rattle.explorer.specs.declared.ends.End.{End}
use Rattle.explorer.proofs.PathOrder.{before_self, no_later_ahead}

-- ---- The first of some ends

late_self : (e : End) → IsNoLaterEnd e e
late_self e = let b : _ = before_self (map left_of e.frames.items) in grind (arith, nat_tests, b)

-- none of the first n ends comes before the one at a place
abbrev pub IsFirstSoFar : List End → ℕ → ℕ → Type 0
IsFirstSoFar ends first n = (d : End) (j : ℕ) → j < n → IsNoLaterEnd (get_or ends first d) (get_or ends j d)

pub first_begins : (ends : List End) → IsFirstSoFar ends 0 1
first_begins ends d j l = let z : j ≡ 0 = omega (arith, l) in subst (λ (k : ℕ). IsNoLaterEnd (get_or ends 0 d) (get_or ends k d)) (sym z) (late_self (get_or ends 0 d))

module _ (ends : List End) (first n : ℕ) (x y : End) (k : first < length ends) (l : n < length ends) (first_is : y ≡ get_or ends first y) (here_is : x ≡ get_or ends n x)
    (so_far : IsFirstSoFar ends first n) where
  -- the next one comes before it
  pub first_moves : is_first x.left (map left_of x.frames.items) y.left (map left_of y.frames.items) ≡ true → IsFirstSoFar ends n (n + 1)
  first_moves h d = below_more _ _
      (λ j m.
      let other : IsNoLaterEnd y (get_or ends j d) = subst (λ (e : End). IsNoLaterEnd e (get_or ends j d)) (sym (get_or_read ends first y k first_is d)) (so_far d j m) in
      let late : IsNoLaterEnd x (get_or ends j d) = no_later_ahead x.left y.left (get_or ends j d).left (map left_of x.frames.items) (map left_of y.frames.items) (map left_of (get_or ends j d).frames.items) h other in
      subst (λ (e : End). IsNoLaterEnd e (get_or ends j d)) (get_or_read ends n x l here_is d) late)
      (late_self (get_or ends n d))

  -- or it doesn't
  pub first_stays : is_first x.left (map left_of x.frames.items) y.left (map left_of y.frames.items) ≡ false → IsFirstSoFar ends first (n + 1)
  first_stays h d = below_more _ _ (so_far d)
      (subst (λ (e : End). IsNoLaterEnd (get_or ends first d) e) (get_or_read ends n x l here_is d) (subst (λ (e : End). IsNoLaterEnd e x) (get_or_read ends first y k first_is d) h))

-- ---- In their order

all_late : (e : End) (xs : List End) → IsBefore e xs → All (IsNoLaterEnd e) xs
all_late e [] b = All-nil (IsNoLaterEnd e)
all_late e (d ∷ xs) b = All-cons (IsNoLaterEnd e) d xs b.0 (all_late e xs b.1)

before_all : (e : End) (xs : List End) → All (IsNoLaterEnd e) xs → IsBefore e xs
before_all e [] a = tt
before_all e (d ∷ xs) a = (All-head (IsNoLaterEnd e) d xs a, before_all e xs (All-tail (IsNoLaterEnd e) d xs a))

before_less : (e : End) (xs : List End) (i : ℕ) → IsBefore e xs → IsBefore e (remove xs i)
before_less e xs i b =
    let a = all_late e xs b in
    before_all e (remove xs i) (All-append (IsNoLaterEnd e) (take i xs) (drop (suc i) xs) (All-take (IsNoLaterEnd e) i xs a) (All-drop (IsNoLaterEnd e) (suc i) xs a))

before_more : (e x : End) (xs : List End) → IsBefore e xs → IsNoLaterEnd e x → IsBefore e (xs ++ x ∷ [])
before_more e x [] b h = (h, tt)
before_more e x (d ∷ xs) b h = (b.0, before_more e x xs b.1 h)

-- each of the ends that were taken comes before all that are left
abbrev pub AreBefore : List End → List End → Type 0
AreBefore [] left = Unit {0}
AreBefore (e ∷ es) left = IsBefore e left × AreBefore es left

all_before_less : (done left : List End) (i : ℕ) → AreBefore done left → AreBefore done (remove left i)
all_before_less [] left i b = tt
all_before_less (e ∷ es) left i b = (before_less e left i b.0, all_before_less es left i b.1)

all_before_more : (done left : List End) (x : End) → AreBefore done left → IsBefore x left → AreBefore (done ++ x ∷ []) left
all_before_more [] left x b h = (h, tt)
all_before_more (e ∷ es) left x b h = (b.0, all_before_more es left x b.1 h)

sorted_more : (done left : List End) (i : ℕ) (x : End) → i < length left → x ≡ get_or left i x → AreBefore done left → AreSorted done → AreSorted (done ++ x ∷ [])
sorted_more [] left i x l is b s = (tt, tt)
sorted_more (e ∷ es) left i x l is b s =
    let late : IsNoLaterEnd e x = subst (λ (d : End). IsNoLaterEnd e d) (sym is) (All-get_or (IsNoLaterEnd e) left i x l (all_late e left b.0)) in
    (before_more e x es s.0 late, sorted_more es left i x l is b.1 s.1)

-- so far: the ends that were taken stand in their order, before those that are left
pub record IsSortedSoFar (all left : List End) (outcomes : List CountedOutcome) : Type 0 where
  pub done : List End
  pub same : IsPermutation all (done ++ left)
  pub sorted : AreSorted done
  pub before : AreBefore done left
  pub told : outcomes ≡ map outcome_in done

pub one_sorted : (all left : List End) (outcomes more : List CountedOutcome) (i : ℕ) (x : End) → IsSortedSoFar all left outcomes → IsFirstAt left (Some i) → x ≡ get_or left i x
    → more ≡ outcomes ++ outcome_in x ∷ [] → IsSortedSoFar all (remove left i) more
one_sorted all left outcomes more i x s f is m =
    let first : IsBefore x left = before_all x left (All-from_get_or (IsNoLaterEnd x) left x (λ j l. subst (λ (e : End). IsNoLaterEnd e (get_or left j x)) (sym is) (f.1 x j l))) in
    record {
      done = s.done ++ x ∷ [];
      same = IsPermutation-more all s.done left i x f.0 is s.same;
      sorted = sorted_more s.done left i x f.0 is s.before s.sorted;
      before = all_before_less (s.done ++ x ∷ []) left i (all_before_more s.done left x s.before first);
      told = m ∙ (ap (λ (os : List CountedOutcome). os ++ outcome_in x ∷ []) s.told ∙ sym (map-append outcome_in s.done (x ∷ [])));
    }

pub all_sorted : (all left : List End) (outcomes : List CountedOutcome) → left ≡ [] → IsSortedSoFar all left outcomes
    → (sorted : List End) × IsSorted all sorted × (outcomes ≡ map outcome_in sorted)
all_sorted all left outcomes none s =
    let same : IsPermutation all s.done = subst (λ (xs : List End). IsPermutation all xs) (ap (λ (xs : List End). s.done ++ xs) none ∙ append-nil s.done) s.same in (
      s.done,
      record {
        each = All-permutation (Contains all) all s.done same (All-contains_itself all);
        counts = λ t. sum_by-IsPermutation (λ e. if t e then 1 else 0) all s.done same;
        in_order = s.sorted;
      },
      s.told,
    )
