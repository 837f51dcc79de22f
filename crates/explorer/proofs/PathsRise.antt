-- The paths from a history on come one after another in their order: where two differ first, more was left to the one that comes first.
-- By induction on the steps that are left, and on the places of those that are able: each later turn has one delay more.
use Rattle.std.proofs.Common.{◌≡◌, ℕ, zero, suc, ◌<◌, true, false, List, [], ◌∷◌, ◌++◌, map, refl, arith}
use Rattle.std.specs.Prelude.{◌==◌, nat_lt}
use Rattle.std.proofs.lemmas.Bool.Decides.{nat_tests}
use Rattle.hist_model.specs.declared.event.Event.{Event}
use Rattle.hist_model.specs.declared.policy.Policy.{Policy}
use Rattle.hist_model.specs.declared.script.Script.{Script}
use Rattle.delay_bounded.specs.Circle.{able, with_turn}
use Rattle.explorer.specs.Paths.{Path, behind_turn, is_before, or_ended, paths, paths_by}

-- a path is before each of some others
abbrev pub IsAhead : Path → List Path → Type 0
IsAhead x [] = Unit {0}
IsAhead x (y ∷ ys) = (is_before x.lefts y.lefts ≡ true) × IsAhead x ys

-- each is before those behind it
abbrev pub AreRising : List Path → Type 0
AreRising [] = Unit {0}
AreRising (x ∷ xs) = IsAhead x xs × AreRising xs

-- each of some is before each of others
abbrev pub AreAhead : List Path → List Path → Type 0
AreAhead [] ys = Unit {0}
AreAhead (x ∷ xs) ys = IsAhead x ys × AreAhead xs ys

pub ahead_append : (x : Path) (a b : List Path) → IsAhead x a → IsAhead x b → IsAhead x (a ++ b)
ahead_append x [] b p q = q
ahead_append x (y ∷ a) b p q = (p.0, ahead_append x a b p.1 q)

pub rising_append : (a b : List Path) → AreRising a → AreRising b → AreAhead a b → AreRising (a ++ b)
rising_append [] b p q h = q
rising_append (x ∷ a) b p q h = (ahead_append x a b p.0 h.0, rising_append a b p.1 q h.1)

-- ---- Behind one more turn

before_behind : (r : ℕ) (xs ys : List ℕ) → is_before xs ys ≡ true → is_before (r ∷ xs) (r ∷ ys) ≡ true
before_behind r xs ys h = let e : (r == r) ≡ true = grind (arith, nat_tests) in rw e h

ahead_behind : (r : ℕ) (x : Path) (xs : List Path) → IsAhead x xs → IsAhead (behind_turn r x) (map (behind_turn r) xs)
ahead_behind r x [] h = tt
ahead_behind r x (y ∷ xs) h = (before_behind r x.lefts y.lefts h.0, ahead_behind r x xs h.1)

rising_behind : (r : ℕ) (xs : List Path) → AreRising xs → AreRising (map (behind_turn r) xs)
rising_behind r [] h = tt
rising_behind r (x ∷ xs) h = (ahead_behind r x xs h.0, rising_behind r xs h.1)

-- less is left behind the other
before_less : (r s : ℕ) (xs ys : List ℕ) → s < r → is_before (r ∷ xs) (s ∷ ys) ≡ true
before_less r s xs ys l =
    let e : (r == s) ≡ false = grind (arith, nat_tests) in
    let t : nat_lt s r ≡ true = grind (arith, nat_tests) in
    rw (e, t) refl

ahead_less : (r s : ℕ) (x : Path) (ys : List Path) → s < r → IsAhead (behind_turn r x) (map (behind_turn s) ys)
ahead_less r s x [] l = tt
ahead_less r s x (y ∷ ys) l = (before_less r s x.lefts y.lefts l, ahead_less r s x ys l)

-- ---- Turn by turn

module _ (g : ℕ → ℕ → List Path) where
  abbrev turns : ℕ → ℕ → List Path
  turns q r = map (behind_turn r) (g q r)

  ahead_by : (r : ℕ) (x : Path) (qs : List ℕ) (d : ℕ) → d < r → IsAhead (behind_turn r x) (paths_by turns qs d)
  ahead_by r x [] d l = tt
  ahead_by r x (q ∷ more) zero l = ahead_less r 0 x (g q 0) l
  ahead_by r x (q ∷ more) (suc d) l =
      ahead_append (behind_turn r x) (turns q (suc d)) (paths_by turns more d) (ahead_less r (suc d) x (g q (suc d)) l) (ahead_by r x more d (omega arith))

  all_ahead : (d : ℕ) (xs : List Path) (more : List ℕ) → AreAhead (map (behind_turn (suc d)) xs) (paths_by turns more d)
  all_ahead d [] more = tt
  all_ahead d (x ∷ xs) more = (ahead_by (suc d) x more d (omega arith), all_ahead d xs more)

  module _ (rise : (q r : ℕ) → AreRising (g q r)) where
    rising_by : (qs : List ℕ) (d : ℕ) → AreRising (paths_by turns qs d)
    rising_by [] d = tt
    rising_by (q ∷ more) zero = rising_behind 0 (g q 0) (rise q 0)
    rising_by (q ∷ more) (suc d) =
        rising_append (turns q (suc d)) (paths_by turns more d) (rising_behind (suc d) (g q (suc d)) (rise q (suc d))) (rising_by more d) (all_ahead d (g q (suc d)) more)

    rising_or : (qs : List ℕ) (o : Path) (d : ℕ) → AreRising (or_ended qs o (paths_by turns qs d))
    rising_or [] o d = (tt, tt)
    rising_or (q ∷ more) o d = rising_by (q ∷ more) d

pub paths_rise : (P : Policy) (S : Script) (W n : ℕ) (K : List Event) (p d : ℕ) → AreRising (paths P S W n K p d)
unfolding paths
paths_rise P S W zero K p d = (tt, tt)
paths_rise P S W (suc n) K p d =
    rising_or (λ q r. paths P S W n (with_turn P S K q) q r) (λ q r. paths_rise P S W n (with_turn P S K q) q r) (able P S W K p) _ d
