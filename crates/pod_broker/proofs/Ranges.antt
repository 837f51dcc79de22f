-- PIDs stay in a script's range, and a signal to a number outside of it finds nobody.
-- By induction on a legal history: a spawn gives a free number of the range, and who holds a number was given it.
use Rattle.std.proofs.Common.{◌≡◌, ℕ, zero, suc, ◌+◌, ◌-◌, ◌<◌, ◌≤◌, true, false, List, [], ◌∷◌, length, Option, Some, None, inl, inr, refl, ap, ◌∙◌, arith}
use Rattle.std.specs.Prelude.{◌==◌, if◌then◌else◌, Err, Result, nat_le, nat_lt}
use Rattle.std.proofs.lemmas.Bool.{and_from, and_parts, cases_Bool, eqb-true, false_from_ne_true, le-leb, leb-true, lt-ltb, ltb-true, ltb-false, or_cases}
use Rattle.hist_model.specs.Legal.{rules_of, system_of}
use Rattle.hist_model.specs.Look.{event_at, or_else}
use Rattle.hist_model.specs.Mediated.{Each}
use Rattle.hist_model.specs.ScriptRules.{IsScript}
use Rattle.hist_model.specs.Sessions.{Rules}
use Rattle.hist_model.specs.Steps.{IsLegal, found}
use Rattle.hist_model.specs.Systems.{System}
use Rattle.hist_model.specs.Tasks.{free_from, given, given_in, holder, is_none, is_some_of, last_pid, next_pid, or_number, pid_of}
use Rattle.hist_model.specs.declared.event.Actor.{Actor}
use Rattle.hist_model.specs.declared.event.Event.{Event}
use Rattle.hist_model.specs.declared.event.What.{What}
use Rattle.hist_model.specs.declared.event.What.TheVariants.{Signal}
use Rattle.hist_model.specs.declared.policy.Policy.{Policy}
use Rattle.hist_model.specs.declared.script.Script.{Script}
use Rattle.history_frames.proofs.Held.{holder-holds}
use Rattle.mediation.proofs.Rows.{Row, by-steps, each}
use Rattle.pod_broker.specs.Pods.{GivesInRange, KillsInside, KillsNoneBeside, OverlapIsShared, RangesSetApart, ReachesNoneOf, ReachesNoneOutside, in_range, overlap, was_given}
use Rattle.sys_abi.specs.Errnos.{esrch}

-- ---- the next number lies in the range

free-between : (K : List Event) (n q p : ℕ) → free_from K n q ≡ Some p → (q ≤ p) × (p < q + n)
unfolding free_from
free-between K zero q p e = cc
free-between K (suc n) q p e = go (holder K q) e (free-between K n (q + 1) p)
  where
    go : (o : Option ℕ) → (if is_none o then Some q else free_from K n (q + 1)) ≡ Some p → (free_from K n (q + 1) ≡ Some p → (q + 1 ≤ p) × (p < q + 1 + n)) → (q ≤ p) × (p < q + suc n)
    go None h ih = let s : q ≡ p = cc in (omega arith, omega arith)
    go (Some t) h ih = let r = ih h in (omega arith, omega arith)

module _ (base most : ℕ) where
  -- each number that was given lies above the base, and is at most the greatest
  abbrev Inside : List Event → Type 0
  Inside K = (p : ℕ) → was_given K p ≡ true → (base < p) × (p ≤ base + most)

  given-here : (e : Event) (K : List Event) (p : ℕ) → given e.what ≡ Some p → was_given (e ∷ K) p ≡ true
  given-here e K p h = grind arith

  last-inside : (K : List Event) → Inside K → (base ≤ last_pid base K) × (last_pid base K ≤ base + most)
  unfolding last_pid
  last-inside [] i = (omega arith, omega arith)
  last-inside (e ∷ K) i = go (given e.what) refl (last-inside K (λ p g. i p (grind arith)))
    where
      go : (o : Option ℕ) → given e.what ≡ o → (base ≤ last_pid base K) × (last_pid base K ≤ base + most) → (base ≤ or_number o (last_pid base K)) × (or_number o (last_pid base K) ≤ base + most)
      go None h ih = ih
      go (Some p) h ih = let r = i p (given-here e K p h) in (omega arith, omega arith)

  next-inside : (K : List Event) (p : ℕ) → Inside K → next_pid base most K ≡ Some p → (base < p) × (p ≤ base + most)
  unfolding next_pid
  next-inside K p i h = go (free_from K (base + most - last_pid base K) (last_pid base K + 1)) refl h
    where
      go : (o : Option ℕ) → free_from K (base + most - last_pid base K) (last_pid base K + 1) ≡ o → or_else o (free_from K (last_pid base K - base) (base + 1)) ≡ Some p → (base < p) × (p ≤ base + most)
      go None q h = let r = free-between K (last_pid base K - base) (base + 1) p h in let l = last-inside K i in (omega arith, omega arith)
      go (Some x) q h =
          let s : x ≡ p = cc in
          let r = free-between K (base + most - last_pid base K) (last_pid base K + 1) x q in
          let l = last-inside K i in
          (omega arith, omega arith)

-- ---- and so does each number that a legal history gives

module _ (S : System) (R : Rules) (some : 1 ≤ S.pidmax) where
  gives-inside : (K : List Event) (a : Actor) (w : What) (p : ℕ) → Inside S.pidbase S.pidmax K → Row S R K a w → given w ≡ Some p → (S.pidbase < p) × (p ≤ S.pidbase + S.pidmax)
  gives-inside K a w p i r g = grind (arith, next-inside)

  inside : (K : List Event) → IsLegal S R K → Inside S.pidbase S.pidmax K
  inside = by-steps S R (Inside S.pidbase S.pidmax) (λ p h. cc) (λ K e legal r ih p h. elim (or_cases (is_some_of (given e.what) p) (was_given K p) h) [
    | inl q ↦ gives-inside K e.who e.what p ih r (named (given e.what) p q)
    | inr q ↦ ih p q
  ])
    where
      named : (o : Option ℕ) (p : ℕ) → is_some_of o p ≡ true → o ≡ Some p
      named (Some q) p h = ap Some (eqb-true q p h)
      named None p h = cc

-- ---- who holds a number was given it

pid-given : (K : List Event) (t p : ℕ) → is_some_of (given_in (event_at K t)) p ≡ true → was_given K p ≡ true
unfolding event_at
pid-given [] t p h = cc
pid-given (e ∷ K) t p h = elim (cases_Bool (t == length K)) [
  | inl q ↦ let g : is_some_of (given e.what) p ≡ true = rw q at h in rw g refl
  | inr q ↦ let g = pid-given K t p (rw q at h) in rw g (grind arith)
]

holder-given : (K : List Event) (p t : ℕ) → holder K p ≡ Some t → was_given K p ≡ true
holder-given K p t h = pid-given K t p (and_parts (is_some_of (pid_of K t) p) _ (holder-holds K p t h)).0

-- ---- of scripts

is-inside : (S : Script) (p : ℕ) → S.pidbase < p → p ≤ S.pidbase + S.pidmax → in_range S p ≡ true
is-inside S p l m = and_from (nat_lt S.pidbase p) (nat_le p (S.pidbase + S.pidmax)) (lt-ltb S.pidbase p l) (le-leb p (S.pidbase + S.pidmax) m)

bounds : (S : Script) (p : ℕ) → in_range S p ≡ true → (S.pidbase < p) × (p ≤ S.pidbase + S.pidmax)
bounds S p h = let r = and_parts (nat_lt S.pidbase p) (nat_le p (S.pidbase + S.pidmax)) h in (ltb-true S.pidbase p r.0, leb-true p (S.pidbase + S.pidmax) r.1)

pub gives_in_range : (P : Policy) (S : Script) → IsScript S → GivesInRange P S
gives_in_range P S keeps K legal p h = let r = inside (system_of S) (rules_of P S.figures) keeps.numbers K legal.0 p h in is-inside S p r.0 r.1

-- a number of both ranges makes them overlap
shared : (S T : Script) (p : ℕ) → in_range S p ≡ true → in_range T p ≡ true → overlap S T ≡ true
shared S T p h g =
    let s = bounds S p h in
    let t = bounds T p g in
    and_from (nat_lt S.pidbase (T.pidbase + T.pidmax)) (nat_lt T.pidbase (S.pidbase + S.pidmax)) (lt-ltb _ _ (omega arith)) (lt-ltb _ _ (omega arith))

pub not-shared : (S T : Script) (p : ℕ) → overlap S T ≡ false → in_range S p ≡ true → in_range T p ≡ false
not-shared S T p o h = false_from_ne_true (in_range T p) (λ g. let s = shared S T p h g in cc)

pub overlap_is_shared : (S T : Script) → IsScript S → IsScript T → OverlapIsShared S T
overlap_is_shared S T k j = (least, λ r. shared S T r.0 r.1 r.2)
  where
    least : overlap S T ≡ true → (p : ℕ) × (in_range S p ≡ true) × (in_range T p ≡ true)
    least h =
        let r = and_parts (nat_lt S.pidbase (T.pidbase + T.pidmax)) (nat_lt T.pidbase (S.pidbase + S.pidmax)) h in
        let a = ltb-true S.pidbase (T.pidbase + T.pidmax) r.0 in
        let b = ltb-true T.pidbase (S.pidbase + S.pidmax) r.1 in
        let s = k.numbers in
        let t = j.numbers in
        elim (cases_Bool (nat_lt S.pidbase T.pidbase)) [
          | inl q ↦ let l = ltb-true S.pidbase T.pidbase q in (T.pidbase + 1, is-inside S (T.pidbase + 1) (omega arith) (omega arith), is-inside T (T.pidbase + 1) (omega arith) (omega arith))
          | inr q ↦ let l = ltb-false S.pidbase T.pidbase q in (S.pidbase + 1, is-inside S (S.pidbase + 1) (omega arith) (omega arith), is-inside T (S.pidbase + 1) (omega arith) (omega arith))
        ]

pub ranges_set_apart : (P Q : Policy) (S T : Script) → IsScript S → IsScript T → RangesSetApart P S Q T
ranges_set_apart P Q S T k j o K L p q n h =
    false_from_ne_true (was_given L n) (λ g. let s = not-shared S T n o (gives_in_range P S k K p n h) in let t = gives_in_range Q T j L q n g in cc)

-- ---- signals

-- a signal's answer says whether somebody holds the number
signal-found : (S : System) (R : Rules) (K : List Event) (a : Actor) (p sig : ℕ) (answer : Result (Unit {0}) ℕ) → Row S R K a (Signal p sig answer) → answer ≡ found (holder K p)
signal-found S R K a p sig answer r = grind arith

nobody : (K : List Event) (p : ℕ) → was_given K p ≡ false → found (holder K p) ≡ Err esrch
nobody K p h = go (holder K p) refl
  where
    go : (o : Option ℕ) → holder K p ≡ o → found o ≡ Err esrch
    go None q = refl
    go (Some t) q = let g = holder-given K p t q in cc

pub kills_inside : (P : Policy) (S : Script) → IsScript S → KillsInside P S
kills_inside P S keeps K legal = each T R (ReachesNoneOutside S) (λ L e l few row p sig answer what out.
    let none : was_given L p ≡ false = false_from_ne_true (was_given L p) (λ g. let b = inside T R keeps.numbers L l p g in let i = is-inside S p b.0 b.1 in cc) in
    signal-found T R L e.who p sig answer (rw what at row) ∙ nobody L p none) K legal.0 legal.1
  where
    T : System
    T = system_of S

    R : Rules
    R = rules_of P S.figures

pub kills_none_beside : (P : Policy) (S T : Script) → IsScript S → KillsNoneBeside P S T
kills_none_beside P S T keeps o K legal = weaker K (kills_inside P S keeps K legal)
  where
    weaker : (L : List Event) → Each (ReachesNoneOutside S) L → Each (ReachesNoneOf T) L
    weaker [] h = tt
    weaker (e ∷ L) h = (λ p sig answer what i. h.0 p sig answer what (false_from_ne_true (in_range S p) (λ g. let s = not-shared S T p o g in cc)), weaker L h.1)
