-- The effects for a task's calls, by their ordinals: the first of them that passes a test stands at the oldest place that passes it.
-- By induction on the events.
use Rattle.std.proofs.Common.{◌≡◌, ℕ, suc, ◌+◌, ◌<◌, Bool, true, false, List, [], ◌∷◌, ◌++◌, length, Option, Some, None, inl, inr, refl, ap, sym, ◌∙◌, arith}
use Rattle.std.specs.Prelude.{if◌then◌else◌, find, Ok}
use Rattle.std.specs.Option.{option_or}
use Rattle.std.proofs.lemmas.Bool.{and_parts, cases_Bool}
use Rattle.std.proofs.lemmas.List.Folds.{find-append}
use Rattle.hist_model.specs.Look.{before, event_at, Name, oldest, or_else}
use Rattle.hist_model.specs.declared.event.Event.{Event}
use Rattle.hist_model.specs.declared.event.What.{What}
use Rattle.hist_model.specs.declared.event.What.TheVariants.{Act, AddfdPut, Plant}
use Rattle.hist_model.proofs.Look.{event_at-below, event_at-here, event_at-older}
use Rattle.mediation.proofs.KernelCalls.{before-newest, before-older}
use Rattle.history_frames.specs.Ordinals.{count_of, nth_of}
use Rattle.history_frames.proofs.Ordinals.{made-more, made-place, made-same, place-new, place-old}
use Rattle.broker_verdict.specs.Seats.{is_effect, of_call}
use Rattle.judge_pass.specs.Stands.{effects_for, gives_to, may_give, place_of_effect}

pub gives_effects : (what : What) → may_give what ≡ true → is_effect what ≡ true
gives_effects (Act q cap (Ok u)) h = refl
gives_effects (Plant addr bytes cap (Ok u)) h = refl
gives_effects (AddfdPut asked (Ok u)) h = refl
gives_effects _ h = let e : false ≡ true = h in absurd (cc)

pub effects_more : (K : List Event) (e : Event) (n : Name) → gives_to K e n ≡ true → effects_for (e ∷ K) n ≡ effects_for K n ++ count_of is_effect K ∷ []
unfolding effects_for
effects_more K e n h = rw h refl

pub effects_same : (K : List Event) (e : Event) (n : Name) → gives_to K e n ≡ false → effects_for (e ∷ K) n ≡ effects_for K n
unfolding effects_for
effects_same K e n h = rw h refl

pub no_effects : (n : Name) → effects_for [] n ≡ []
unfolding effects_for
no_effects n = refl

-- ---- each is one of the effects so far

abbrev pub AllBelow : ℕ → List ℕ → Type 0
AllBelow limit [] = Unit {0}
AllBelow limit (m ∷ ms) = (m < limit) × AllBelow limit ms

below_later : (a b : ℕ) (ms : List ℕ) → a < b + 1 → AllBelow a ms → AllBelow b ms
below_later a b [] h all = tt
below_later a b (m ∷ ms) h all = (omega (arith, all.0), below_later a b ms h all.1)

below_last : (a : ℕ) (ms : List ℕ) → AllBelow a ms → AllBelow (a + 1) (ms ++ a ∷ [])
below_last a [] all = (omega arith, tt)
below_last a (m ∷ ms) all = (omega (arith, all.0), below_last a ms all.1)

pub effects_below : (K : List Event) (n : Name) → AllBelow (count_of is_effect K) (effects_for K n)
effects_below [] n = rw (no_effects n) tt
effects_below (e ∷ K) n = by_event (gives_to K e n) refl (effects_below K n)
  where
    by_event : (b : Bool) → gives_to K e n ≡ b → AllBelow (count_of is_effect K) (effects_for K n) → AllBelow (count_of is_effect (e ∷ K)) (effects_for (e ∷ K) n)
    by_event true q ih =
        rw (effects_more K e n q, made-more is_effect e K (gives_effects e.what (and_parts (may_give e.what) _ q).0)) (below_last (count_of is_effect K) (effects_for K n) ih)
    by_event false q ih = rw (effects_same K e n q) (below_later (count_of is_effect K) (count_of is_effect (e ∷ K)) (effects_for K n) (counted (is_effect e.what) refl) ih)
      where
        counted : (b : Bool) → is_effect e.what ≡ b → count_of is_effect K < count_of is_effect (e ∷ K) + 1
        counted true h = omega (arith, made-more is_effect e K h)
        counted false h = omega (arith, made-same is_effect e K h)

-- ---- the first that passes a test

-- the place of the effect with an ordinal passes a test
abbrev pub passes_at : List Event → (ℕ → Bool) → ℕ → Bool
passes_at K test m = of_call (nth_of is_effect K m) test

find_same : (p q : ℕ → Bool) (limit : ℕ) (ms : List ℕ) → AllBelow limit ms → ((m : ℕ) → m < limit → p m ≡ q m) → find p ms ≡ find q ms
find_same p q limit [] all h = refl
find_same p q limit (m ∷ ms) all h = rw (h m all.0, find_same p q limit ms all.1 h) refl

find_below : (p : ℕ → Bool) (limit : ℕ) (ms : List ℕ) (m : ℕ) → AllBelow limit ms → find p ms ≡ Some m → m < limit
find_below p limit [] m all q = cc
find_below p limit (x ∷ ms) m all q =
    elim (cases_Bool (p x)) [
      | inl h ↦ let s : Some x ≡ Some m = rw h at q in let same : x ≡ m = cc in omega (arith, all.0)
      | inr h ↦ find_below p limit ms m all.1 (rw h at q)
    ]

-- wherever the test is passed stands an effect for a call of the task
abbrev pub Covers : (ℕ → Bool) → Name → List Event → Type 0
Covers test n K = (p : ℕ) (e : Event) → event_at K p ≡ Some e → test p ≡ true → gives_to (before K p) e n ≡ true

oldest_more : (test : ℕ → Bool) (n : ℕ) → oldest test (suc n) ≡ or_else (oldest test n) (if test n then Some n else None)
unfolding oldest
oldest_more test n = refl

oldest_zero : (test : ℕ → Bool) → oldest test 0 ≡ None
unfolding oldest
oldest_zero test = refl

or_none : (o : Option ℕ) → or_else o None ≡ o
or_none None = refl
or_none (Some t) = refl

found_here : (b : Bool) (K : List Event) (e : Event) (count : ℕ) → nth_of is_effect (e ∷ K) count ≡ Some (length K)
    → (if b then Some (length K) else None) ≡ place_of_effect (e ∷ K) (if b then Some count else None)
found_here true K e count h = sym h
found_here false K e count h = refl

-- with one more effect for the task
with_effect : (test : ℕ → Bool) (K : List Event) (e : Event) (ms : List ℕ) (o : Option ℕ) → is_effect e.what ≡ true → AllBelow (count_of is_effect K) ms
    → find (passes_at K test) ms ≡ o → oldest test (length K) ≡ place_of_effect K o
    → oldest test (suc (length K)) ≡ place_of_effect (e ∷ K) (find (passes_at (e ∷ K) test) (ms ++ count_of is_effect K ∷ []))
with_effect test K e ms o h below o_is ih =
    let count = count_of is_effect K in
    let new : nth_of is_effect (e ∷ K) count ≡ Some (length K) = place-new is_effect e K h in
    let old : find (passes_at (e ∷ K) test) ms ≡ o =
    find_same (passes_at (e ∷ K) test) (passes_at K test) count ms below (λ m low. ap (λ (p : Option ℕ). of_call p test) (place-old is_effect e K m low)) ∙ o_is in
    let here : passes_at (e ∷ K) test count ≡ test (length K) = ap (λ (p : Option ℕ). of_call p test) new in
    rw (oldest_more test (length K), ih, find-append (passes_at (e ∷ K) test) ms (count ∷ []), old, here) (by_found o o_is)
  where
    by_found : (o : Option ℕ) → find (passes_at K test) ms ≡ o
        → or_else (place_of_effect K o) (if test (length K) then Some (length K) else None)
        ≡ place_of_effect (e ∷ K) (option_or o (if test (length K) then Some (count_of is_effect K) else None))
    by_found None q = found_here (test (length K)) K e (count_of is_effect K) (place-new is_effect e K h)
    by_found (Some m) q =
        let low = find_below (passes_at K test) (count_of is_effect K) ms m below q in
        let place = made-place is_effect K m low in
        rw (place-old is_effect e K m low, place.1) refl

-- with an event that is none
without_effect : (test : ℕ → Bool) (K : List Event) (e : Event) (ms : List ℕ) (o : Option ℕ) → test (length K) ≡ false → AllBelow (count_of is_effect K) ms
    → find (passes_at K test) ms ≡ o → oldest test (length K) ≡ place_of_effect K o
    → oldest test (suc (length K)) ≡ place_of_effect (e ∷ K) (find (passes_at (e ∷ K) test) ms)
without_effect test K e ms o h below o_is ih =
    let old : find (passes_at (e ∷ K) test) ms ≡ o =
    find_same (passes_at (e ∷ K) test) (passes_at K test) (count_of is_effect K) ms below (λ m low. ap (λ (p : Option ℕ). of_call p test) (place-old is_effect e K m low)) ∙ o_is in
    rw (oldest_more test (length K), ih, h, or_none (place_of_effect K o), old) (by_found o o_is)
  where
    by_found : (o : Option ℕ) → find (passes_at K test) ms ≡ o → place_of_effect K o ≡ place_of_effect (e ∷ K) o
    by_found None q = refl
    by_found (Some m) q = sym (place-old is_effect e K m (find_below (passes_at K test) (count_of is_effect K) ms m below q))

covers_older : (test : ℕ → Bool) (n : Name) (K : List Event) (e : Event) → Covers test n (e ∷ K) → Covers test n K
covers_older test n K e h p x at t =
    let low = event_at-below K p x at in
    rw (before-older e K p (omega (arith, low))) at (h p x (event_at-older e K p low ∙ at) t)

untested : (test : ℕ → Bool) (n : Name) (K : List Event) (e : Event) → Covers test n (e ∷ K) → gives_to K e n ≡ false → test (length K) ≡ false
untested test n K e h q = by_test (test (length K)) refl
  where
    by_test : (b : Bool) → test (length K) ≡ b → test (length K) ≡ false
    by_test false t = t
    by_test true t =
        let g : gives_to K e n ≡ true = rw (before-newest e K) at (h (length K) e (event_at-here e K) t) in
        let e : true ≡ false = sym g ∙ q in absurd (cc)

pub oldest_is_first : (test : ℕ → Bool) (n : Name) (K : List Event) → Covers test n K → oldest test (length K) ≡ place_of_effect K (find (passes_at K test) (effects_for K n))
oldest_is_first test n [] h = rw (oldest_zero test, no_effects n) refl
oldest_is_first test n (e ∷ K) h = by_event (gives_to K e n) refl (oldest_is_first test n K (covers_older test n K e h))
  where
    by_event : (b : Bool) → gives_to K e n ≡ b → oldest test (length K) ≡ place_of_effect K (find (passes_at K test) (effects_for K n))
        → oldest test (suc (length K)) ≡ place_of_effect (e ∷ K) (find (passes_at (e ∷ K) test) (effects_for (e ∷ K) n))
    by_event true q ih =
        rw (effects_more K e n q) (with_effect test K e (effects_for K n) (find (passes_at K test) (effects_for K n)) (gives_effects e.what (and_parts (may_give e.what) _ q).0)
        (effects_below K n) refl ih)
    by_event false q ih =
        rw (effects_same K e n q) (without_effect test K e (effects_for K n) (find (passes_at K test) (effects_for K n)) (untested test n K e h q) (effects_below K n) refl ih)
