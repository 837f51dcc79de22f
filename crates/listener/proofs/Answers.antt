-- What the state of a history answers is what the definitions answer by looking back.
-- The listed places are those below the length that pass the test; what is found among them is the oldest.
use Rattle.std.proofs.Common.{◌≡◌, inl, inr, ℕ, zero, suc, ◌<◌, Bool, true, false, ◌&&◌, ◌||◌, not, List, [], ◌∷◌, ◌++◌, length, Option, Some, None, refl, sym, ap, ◌∙◌, arith}
use Rattle.std.specs.Prelude.{filter, find, All, option_map, is_none, if◌then◌else◌, ◌==◌}
use Rattle.std.specs.Option.{option_or}
use Rattle.std.proofs.lemmas.Bool.{cases_Bool, and_parts}
use Rattle.std.proofs.lemmas.List.Elements.{All-nil, All-push, All-weaker, filter-append}
use Rattle.std.proofs.lemmas.List.Folds.{find-append}
use Rattle.hist_model.specs.Look.{Name, name_eq, newest, oldest as oldest_place, or_else}
use Rattle.hist_model.specs.Calls.{listed, caller, fetched, named, settled, some_sends, queue, unlists, state_at}
use Rattle.hist_model.specs.Signals.{call_of}
use Rattle.hist_model.specs.Steps.{oldest_unfetched, reply}
use Rattle.hist_model.specs.declared.event.Event.{Event}
use Rattle.hist_model.specs.declared.event.Back.{Back}
use Rattle.hist_model.specs.declared.notification.State.TheVariants.{Unfetched, Fetched, Answered}
use Rattle.hist_model.proofs.Look.{oldest-some, oldest-found, newest-some, newest-found, name_eq-true}
use Rattle.history_frames.proofs.Listed.{listed-here, listed-older}
use Rattle.listener.specs.State.{Row, State, row_named, row_of, oldest, far_in}
use Rattle.listener.specs.Fold.{places, row_at, rows, reply_by, Looks}
use Rattle.listener.proofs.Lists.{find-map, filter-same}

-- the numbers below this one
abbrev upto : ℕ → List ℕ
upto zero = []
upto (suc n) = upto n ++ n ∷ []

upto-below : (n m : ℕ) → n < suc m → All (λ c. c < m) (upto n)
upto-below zero m l = All-nil (λ c. c < m)
upto-below (suc n) m l = All-push (λ c. c < m) (upto n) n (upto-below n m (omega arith)) (omega arith)

filter-both : (p q : ℕ → Bool) (xs : List ℕ) → filter q (filter p xs) ≡ filter (λ c. p c && q c) xs
filter-both p q [] = refl
filter-both p q (x ∷ xs) = elim (cases_Bool (p x)) [ inl b ↦ rw (b, filter-both p q xs) | inr b ↦ rw (b, filter-both p q xs) ]

places-are : (K : List Event) → places K ≡ filter (listed K) (upto (length K))
unfolding places
places-are [] = refl
places-are (e ∷ K) =
    rw (
      places-are K,
      filter-append (listed (e ∷ K)) (upto (length K)) (length K ∷ []),
      filter-both (listed K) (λ c. not (unlists e (caller K c))) (upto (length K)),
      filter-same (listed (e ∷ K)) (λ c. listed K c && not (unlists e (caller K c))) (upto (length K)) (All-weaker (λ c. c < length K) (λ c. listed (e ∷ K) c ≡ (listed K c && not (unlists e (caller K c)))) (λ c l. listed-older e K c l) (upto (length K)) (upto-below (length K) (length K) (omega arith))),
      listed-here e K,
    ) refl

find-both : (p q : ℕ → Bool) (n : ℕ) → find q (filter p (upto n)) ≡ oldest_place (λ c. p c && q c) n
unfolding oldest_place
find-both p q zero = refl
find-both p q (suc n) =
    rw (filter-append p (upto n) (n ∷ []), find-append q (filter p (upto n)) (filter p (n ∷ [])), find-both p q n) (by (oldest_place (λ c. p c && q c) n) (p n) refl)
  where
    by : (o : Option ℕ) (b : Bool) → p n ≡ b → option_or o (find q (if b then n ∷ [] else [])) ≡ or_else o (if b && q n then Some n else None)
    by (Some c) b h = refl
    by None true h = refl
    by None false h = refl

-- what is found first among the rows is the oldest listed call that passes
found-row : (K : List Event) (p : Row → Bool) → find p (rows K) ≡ option_map (row_at K) (oldest_place (λ c. listed K c && p (row_at K c)) (length K))
unfolding rows
found-row K p = find-map p (row_at K) (places K) ∙ rw (places-are K) (ap (option_map (row_at K)) (find-both (listed K) (λ c. p (row_at K c)) (length K)))

module _ (first : ℕ) (K : List Event) (s : State) (h : Looks first K s) where
  pub named-is : (x : ℕ) → row_named x s ≡ option_map (row_at K) (named K x)
  unfolding named
  named-is x = rw h.calls_are (found-row K (λ (r : Row). r.id == x))

  pub oldest-is : oldest s ≡ option_map (row_at K) (oldest_unfetched K)
  unfolding oldest_unfetched
  oldest-is = rw h.calls_are (found-row K (λ (r : Row). not r.fetched))

  pub waits-in : ((c d : ℕ) → listed K c ≡ true → listed K d ≡ true → caller K c ≡ caller K d → c ≡ d) → (n : Name) → row_of n s ≡ option_map (row_at K) (call_of K n)
  unfolding call_of
  waits-in alone n = rw (h.calls_are, found-row K (λ (r : Row). name_eq r.task n)) (ap (option_map (row_at K)) (same (newest test (length K)) (oldest_place test (length K)) refl refl))
    where
      test : ℕ → Bool
      test = λ c. listed K c && name_eq (caller K c) n

      one : (c d : ℕ) → test c ≡ true → test d ≡ true → c ≡ d
      one c d a b =
          let p = and_parts (listed K c) (name_eq (caller K c) n) a in let q = and_parts (listed K d) (name_eq (caller K d) n) b in
          alone c d p.0 q.0 (name_eq-true (caller K c) n p.1 ∙ sym (name_eq-true (caller K d) n q.1))

      same : (u v : Option ℕ) → newest test (length K) ≡ u → oldest_place test (length K) ≡ v → oldest_place test (length K) ≡ newest test (length K)
      same (Some c) (Some d) a b = b ∙ (ap Some (one d c (oldest-some test (length K) d b).0 (newest-some test (length K) c a).0) ∙ sym a)
      same None None a b = b ∙ sym a
      same (Some c) None a b = let p = newest-some test (length K) c a in let f = oldest-found test (length K) c p.1 p.0 in absurd (cc (b, f.1))
      same None (Some d) a b = let p = oldest-some test (length K) d b in absurd (newest-found test (length K) d p.1 p.0 a)

  pub state-is : (x : ℕ) → far_in (row_named x s) ≡ state_at K (named K x)
  state-is x = ap far_in (named-is x) ∙ go (named K x)
    where
      by : (f : Bool) (s a : Bool) (b : Back) → (if not f then Unfetched else (if is_none (reply_by s a b) then Fetched else Answered)) ≡ (if not f then Unfetched else (if s || a then Answered else Fetched))
      by f true a b = refl
      by f false true b = refl
      by f false false b = refl

      go : (o : Option ℕ) → far_in (option_map (row_at K) o) ≡ state_at K o
      go None = refl
      go (Some c) = ap Some (by (fetched K c) (settled K c) (some_sends K (queue K c)) (reply K c))
